-- Lists of outstanding commands that differ only in times, in what was told of them, and in what polls ask, keep the
-- same rules.
use Rattle.mscp_shown.proofs.Common.{Bool, List, None, Nothing, Sent, Some, [], ap, cond, count_by, drop, false, get_or, length, list_any, nat_lt, not, position, position_or_len, refl, suc, sum_by-cons, sym, take, zero, ℕ, ◌+◌, ◌||◌, ◌∙◌, ◌∷◌, ◌≡◌}

-- a command, without what was told of it, what it asks, what ended beside it, and times
abbrev pub bare : Sent → Sent
bare s = record s { time = None; told = None; polled = None; asked = Nothing; beside = false }

abbrev pub Alike : List Sent → List Sent → Type 0
Alike [] [] = Unit {0}
Alike [] (y ∷ ys) = ⊥
Alike (x ∷ xs) [] = ⊥
Alike (x ∷ xs) (y ∷ ys) = (bare x ≡ bare y) × Alike xs ys

pub alike_any : (q : Sent → Bool) → ((x y : Sent) → bare x ≡ bare y → q x ≡ q y) → (xs ys : List Sent) → Alike xs ys
    → list_any q xs ≡ list_any q ys
alike_any q f [] [] h = refl
alike_any q f [] (y ∷ ys) h = absurd h
alike_any q f (x ∷ xs) [] h = absurd h
alike_any q f (x ∷ xs) (y ∷ ys) h =
    ap (λ b. b || list_any q xs) (f x y h.0) ∙ ap (λ b. q y || b) (alike_any q f xs ys h.1)

pub alike_count : (q : Sent → Bool) → ((x y : Sent) → bare x ≡ bare y → q x ≡ q y) → (xs ys : List Sent)
    → Alike xs ys → count_by q xs ≡ count_by q ys
alike_count q f [] [] h = refl
alike_count q f [] (y ∷ ys) h = absurd h
alike_count q f (x ∷ xs) [] h = absurd h
alike_count q f (x ∷ xs) (y ∷ ys) h =
    sum_by-cons (λ s. cond (q s) 1 0) x xs
    ∙ (ap (λ b. cond b 1 0 + count_by q xs) (f x y h.0)
    ∙ (ap (λ n. cond (q y) 1 0 + n) (alike_count q f xs ys h.1) ∙ sym (sum_by-cons (λ s. cond (q s) 1 0) y ys)))

alike_length : (xs ys : List Sent) → Alike xs ys → length xs ≡ length ys
alike_length [] [] h = refl
alike_length [] (y ∷ ys) h = absurd h
alike_length (x ∷ xs) [] h = absurd h
alike_length (x ∷ xs) (y ∷ ys) h = ap (λ n. suc n) (alike_length xs ys h.1)

pub alike_position : (q : Sent → Bool) → ((x y : Sent) → bare x ≡ bare y → q x ≡ q y) → (xs ys : List Sent)
    → Alike xs ys → position q xs ≡ position q ys
alike_position q f xs ys h =
    ap (λ n. cond (nat_lt n (length xs)) (Some n) None) (first xs ys h)
    ∙ ap (λ n. cond (nat_lt (position_or_len q ys) n) (Some (position_or_len q ys)) None) (alike_length xs ys h)
  where
    first : (xs ys : List Sent) → Alike xs ys → position_or_len q xs ≡ position_or_len q ys
    first [] [] h = refl
    first [] (y ∷ ys) h = absurd h
    first (x ∷ xs) [] h = absurd h
    first (x ∷ xs) (y ∷ ys) h =
        ap (λ b. cond (not b) (1 + position_or_len q xs) 0) (f x y h.0)
        ∙ ap (λ n. cond (not (q y)) (1 + n) 0) (first xs ys h.1)

pub alike_take : (i : ℕ) (xs ys : List Sent) → Alike xs ys → Alike (take i xs) (take i ys)
alike_take zero xs ys h = tt
alike_take (suc i) [] [] h = tt
alike_take (suc i) [] (y ∷ ys) h = absurd h
alike_take (suc i) (x ∷ xs) [] h = absurd h
alike_take (suc i) (x ∷ xs) (y ∷ ys) h = (h.0, alike_take i xs ys h.1)

pub alike_drop : (i : ℕ) (xs ys : List Sent) → Alike xs ys → Alike (drop i xs) (drop i ys)
alike_drop zero xs ys h = h
alike_drop (suc i) [] [] h = tt
alike_drop (suc i) [] (y ∷ ys) h = absurd h
alike_drop (suc i) (x ∷ xs) [] h = absurd h
alike_drop (suc i) (x ∷ xs) (y ∷ ys) h = alike_drop i xs ys h.1

pub alike_at : (i : ℕ) (xs ys : List Sent) (d : Sent) → Alike xs ys → bare (get_or xs i d) ≡ bare (get_or ys i d)
alike_at i [] [] d h = refl
alike_at i [] (y ∷ ys) d h = absurd h
alike_at i (x ∷ xs) [] d h = absurd h
alike_at zero (x ∷ xs) (y ∷ ys) d h = h.0
alike_at (suc i) (x ∷ xs) (y ∷ ys) d h = alike_at i xs ys d h.1
