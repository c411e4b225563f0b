-- A list that a function changes element by element, in place.
use Rattle.mscp_queue.proofs.Common.{◌≡◌, ℕ, suc, ◌+◌, ◌<◌, List, [], ◌∷◌, ◌++◌, map, length, take, drop, set, get_or, append_assoc, ap, sym, ◌∙◌, arith, remove, refill, drop_at, length-append, length-map, length-take-le, take_at, drop_more, get_or_at, map-append, set_at, take_more}

-- One more element is what a function makes of it.
pub mapped_more : {X : Type 0} (f : X → X) (xs ys : List X) (i : ℕ) (item x : X)
    → ys ≡ map f (take i xs) ++ drop i xs → length ys ≡ length xs
    → i < length ys → x ≡ f (get_or ys i item) → set ys i x ≡ map f (take (i + 1) xs) ++ drop (i + 1) xs
mapped_more {X} f xs ys i item x e l h k =
    let A = map f (take i xs) in
    let y = get_or xs i item in
    let below : i < length xs = omega arith in
    let long : length A ≡ i = length-map (take i xs) f ∙ length-take-le i xs (omega arith) in
    let cut : ys ≡ A ++ y ∷ drop (i + 1) xs = e ∙ ap (λ zs. A ++ zs) (drop_more xs i item below) in
    let same : get_or ys i item ≡ y = ap (λ zs. get_or zs i item) cut ∙ get_or_at A y (drop (i + 1) xs) item i long in
    ap (λ zs. set zs i x) cut ∙ (set_at A y (drop (i + 1) xs) x i long ∙ (ap (λ z. A ++ z ∷ drop (i + 1) xs)
    (k ∙ ap f same) ∙ (sym (append_assoc A (f y ∷ []) (drop (i + 1) xs)) ∙ ap (λ zs. zs ++ drop (i + 1) xs)
    (sym (map-append f (take i xs) (y ∷ [])) ∙ ap (map f) (sym (take_more xs i item below))))))

pub removed_at : {X : Type 0} (A : List X) (x : X) (B : List X) (i : ℕ) → length A ≡ i → remove (A ++ x ∷ B) i ≡ A ++ B
removed_at A x B i l =
    let rest = drop_at (A ++ x ∷ []) B (suc i) (omega (arith, length-append A (x ∷ []))) in
    search (arith, take_at A (x ∷ B) i l, append_assoc A (x ∷ []) B, rest)

-- a slice that was lent and has as many elements is what is there then
pub refilled : {X : Type 0} (xs ws : List X) → length ws ≡ length xs → refill (length xs) xs ws ≡ ws
refilled xs ws h = take_at ws (drop (length ws) xs) (length xs) h
