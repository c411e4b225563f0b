-- What is decided of several ends, one after the other.
use Rattle.mscp_port.proofs.Common.{List, [], append_assoc, arith, drop, get_or, get_or-drop, length, length-drop, map, map_more, take, take_all, ℕ, ◌++◌, ◌+◌, ◌-◌, ◌<◌, ◌∷◌, ◌≡◌, ◌≤◌}

pub decided_more : {X Y : Type 0} (f : X → Y) (all : List Y) (xs : List X) (n i : ℕ) (d : X) (ys zs : List Y) (y : Y)
    → n ≤ i → i < length xs → ys ≡ all ++ map f (take (i - n) (drop n xs)) → zs ≡ ys ++ y ∷ []
    → y ≡ f (get_or xs i d) → zs ≡ all ++ map f (take (i + 1 - n) (drop n xs))
decided_more f all xs n i d ys zs y low inside before after is =
    let inner : i - n < length (drop n xs) = search (arith, length-drop n xs) in
    let one : map f (take (i - n + 1) (drop n xs))
    ≡ map f (take (i - n) (drop n xs)) ++ f (get_or (drop n xs) (i - n) d) ∷ [] =
    map_more f (drop n xs) (i - n) d inner in
    let there : get_or (drop n xs) (i - n) d ≡ get_or xs i d = search (arith, get_or-drop) in
    search (arith, one, there, append_assoc)

pub decided_all : {X Y : Type 0} (f : X → Y) (all : List Y) (xs : List X) (n i : ℕ) (ys : List Y)
    → length xs ≤ i → ys ≡ all ++ map f (take (i - n) (drop n xs)) → ys ≡ all ++ map f (drop n xs)
decided_all f all xs n i ys past e = search (arith, e, length-drop n xs, take_all)
