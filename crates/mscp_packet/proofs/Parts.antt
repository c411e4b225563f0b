-- Parts behind one another, as they are written and as they are read.
use Rattle.mscp_packet.proofs.Common.{All, ◌≡◌, ℕ, zero, suc, ◌+◌, ◌-◌, ◌*◌, ◌<◌, List, [], ◌∷◌, ◌++◌, take, drop, get_or, length, append_assoc, append-nil, refl, ap, sym, subst, ◌∙◌, arith, flat_map, drop-drop, length-drop, take_all, take_more, All-more, parts_in}

pub flat_append : {X : Type 0} (f : X → List ℕ) (xs ys : List X)
    → flat_map f (xs ++ ys) ≡ flat_map f xs ++ flat_map f ys
flat_append f [] ys = refl
flat_append f (x ∷ xs) ys = search (arith, append_assoc, flat_append f xs ys)

-- one more is written
pub written_more : {X : Type 0} (f : X → List ℕ) (base : List ℕ) (xs : List X) (i : ℕ) (x d : X) {out new : List ℕ}
    → i < length xs → get_or xs i d ≡ x → out ≡ base ++ flat_map f (take i xs) → new ≡ out ++ f x
    → new ≡ base ++ flat_map f (take (i + 1) xs)
written_more f base xs i x d l is e more =
    let t : take (i + 1) xs ≡ take i xs ++ (x ∷ []) = take_more xs i d l ∙ ap (λ y. take i xs ++ (y ∷ [])) is in
    search (arith, append_assoc, append-nil, flat_append)

-- and what holds of each that was holds of it too
pub each_more : {X : Type 0} (P : X → Type 0) (xs : List X) (i : ℕ) (x d : X) → i < length xs → get_or xs i d ≡ x
    → All P (take i xs) → P x → All P (take (i + 1) xs)
each_more P xs i x d l is all one = All-more P xs i d l all (subst P (sym is) one)

-- all from a place on
pub from_place : (k : ℕ) (b : List ℕ) → take (length b - k) (drop k b) ≡ drop k b
from_place k b = take_all (length b - k) (drop k b) (omega (arith, length-drop k b))

-- one more is read
pub read_more : {X : Type 0} (f : List ℕ → X) (size n : ℕ) (b : List ℕ)
    → parts_in f size (suc n) b ≡ parts_in f size n b ++ (f (drop (size * n) b) ∷ [])
read_more f size zero b = ap (λ k. f (drop k b) ∷ []) (let e : 0 ≡ size * 0 = omega arith in e)
read_more f size (suc n) b = search (arith, drop-drop, read_more f size n (drop size b))

-- what was written of each, whose parts have this size and say it, is read
pub read_written : {X : Type 0} (f : List ℕ → X) (w : X → List ℕ) (P : X → Type 0) (size : ℕ)
    → ((x : X) (t : List ℕ) → P x → f (w x ++ t) ≡ x) → ((x : X) (t : List ℕ) → P x → drop size (w x ++ t) ≡ t)
    → (xs : List X) (t : List ℕ) → All P xs → parts_in f size (length xs) (flat_map w xs ++ t) ≡ xs
read_written f w P size says rest [] t all = refl
read_written f w P size says rest (x ∷ xs) t all =
    let b = flat_map w xs ++ t in
    let e = append_assoc (w x) (flat_map w xs) t in
    let here : P x = all 0 x (omega arith) in
    let there : All P xs = λ k d l. all (suc k) d (omega (arith, l)) in
    search (arith, read_written f w P size says rest xs t there)

-- the same with nothing behind it
pub read_all : {X : Type 0} (f : List ℕ → X) (w : X → List ℕ) (P : X → Type 0) (size : ℕ)
    → ((x : X) (t : List ℕ) → P x → f (w x ++ t) ≡ x) → ((x : X) (t : List ℕ) → P x → drop size (w x ++ t) ≡ t)
    → (xs : List X) → All P xs → parts_in f size (length xs) (flat_map w xs) ≡ xs
read_all f w P size says rest xs all =
    ap (parts_in f size (length xs)) (sym (append-nil (flat_map w xs))) ∙ read_written f w P size says rest xs [] all
