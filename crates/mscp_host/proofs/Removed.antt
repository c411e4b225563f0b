-- A list without the first that passes a test.
use Rattle.mscp_host.proofs.Common.{Bool, List, None, Some, [], arith, false≢true, length, nat_tests, position, position_or_len, refl, remove, true≢false, without_by, ℕ, ◌<◌, ◌∷◌, ◌≡◌, ◌≤◌}

removed_cons : {X : Type 0} (p : X → Bool) (x : X) (xs : List X) (b : Bool) → p x ≡ b
    → (position_or_len p xs < length xs → remove xs (position_or_len p xs) ≡ without_by p xs)
    → position_or_len p (x ∷ xs) < length (x ∷ xs)
    → remove (x ∷ xs) (position_or_len p (x ∷ xs)) ≡ without_by p (x ∷ xs)
removed_cons p x xs b h1 h2 h3 = search arith

removed_len : {X : Type 0} (p : X → Bool) (xs : List X) → position_or_len p xs < length xs
    → remove xs (position_or_len p xs) ≡ without_by p xs
removed_len p [] l = absurd (omega (arith, l))
removed_len p (x ∷ xs) l = removed_cons p x xs (p x) refl (removed_len p xs) l

nowhere_len : {X : Type 0} (p : X → Bool) (xs : List X) → length xs ≤ position_or_len p xs → without_by p xs ≡ xs
nowhere_len p [] l = refl
nowhere_len p (x ∷ xs) l = grind (arith, nowhere_len p xs)

pub removed_by : {X : Type 0} (p : X → Bool) (xs : List X) (place : ℕ) → position p xs ≡ Some place
    → remove xs place ≡ without_by p xs
removed_by p xs place h = grind (arith, removed_len, nat_tests, false≢true)

pub nowhere_by : {X : Type 0} (p : X → Bool) (xs : List X) → position p xs ≡ None → without_by p xs ≡ xs
nowhere_by p xs h = grind (arith, nowhere_len, true≢false, nat_tests)
