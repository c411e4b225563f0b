-- The place of a submission, and the list that is changed there.
use Rattle.mscp_host.proofs.Common.{◌≡◌, ℕ, ◌<◌, ◌≤◌, Bool, cond, List, [], ◌∷◌, length, refl, arith, false≢true, true≢false, nat_tests, nat_lt, slice_set, slice_index_or, remove, Some, None, position, position_or_len, Submission, has_reference, with_told, without}

abbrev no_submission : Submission
no_submission = record { reference = 0; unit = 0; opcode = 0; told = None }

-- a submission of which this figure was told
abbrev told_now : ℕ → Submission → Submission
told_now figure s = record s { told = Some figure }

removed_cons : (r : ℕ) (s : Submission) (rest : List Submission) (b : Bool) → has_reference r s ≡ b
    → (position_or_len (has_reference r) rest < length rest
    → remove rest (position_or_len (has_reference r) rest) ≡ without r rest)
    → position_or_len (has_reference r) (s ∷ rest) < length (s ∷ rest)
    → remove (s ∷ rest) (position_or_len (has_reference r) (s ∷ rest)) ≡ without r (s ∷ rest)
removed_cons r s rest b h1 h2 h3 = search arith

told_len : (r f : ℕ) (xs : List Submission) → position_or_len (has_reference r) xs < length xs
    → slice_set xs (position_or_len (has_reference r) xs)
    (told_now f (slice_index_or xs (position_or_len (has_reference r) xs) no_submission)) ≡ with_told r f xs
told_len r f [] l = absurd (omega (arith, l))
told_len r f (s ∷ rest) l = grind (arith, told_len r f rest)

removed_len : (r : ℕ) (xs : List Submission) → position_or_len (has_reference r) xs < length xs
    → remove xs (position_or_len (has_reference r) xs) ≡ without r xs
removed_len r [] l = absurd (omega (arith, l))
removed_len r (s ∷ rest) l = removed_cons r s rest (has_reference r s) refl (removed_len r rest) l

-- ---- where none is found

nowhere_len : (r f : ℕ) (xs : List Submission) → length xs ≤ position_or_len (has_reference r) xs
    → (with_told r f xs ≡ xs) × (without r xs ≡ xs)
nowhere_len r f [] l = (refl, refl)
nowhere_len r f (s ∷ rest) l = grind (arith, nowhere_len r f rest)

-- ---- the place that is found

place_out : (n k : ℕ) (b : Bool) → nat_lt n k ≡ b → cond b (Some n) None ≡ None → k ≤ n
place_out n k b h1 h2 = search (arith, true≢false, nat_tests)

found : (r : ℕ) (xs : List Submission) (place : ℕ) → position (has_reference r) xs ≡ Some place
    → (place ≡ position_or_len (has_reference r) xs) × (position_or_len (has_reference r) xs < length xs)
found r xs place h = grind (arith, nat_tests, false≢true)

pub told_at : (r f : ℕ) (xs : List Submission) (place : ℕ) → position (has_reference r) xs ≡ Some place
    → slice_set xs place (told_now f (slice_index_or xs place no_submission)) ≡ with_told r f xs
told_at r f xs place h = let k = found r xs place h in rw k.0 (told_len r f xs k.1)

pub removed_at : (r : ℕ) (xs : List Submission) (place : ℕ) → position (has_reference r) xs ≡ Some place
    → remove xs place ≡ without r xs
removed_at r xs place h = let k = found r xs place h in rw k.0 (removed_len r xs k.1)

pub nowhere : (r f : ℕ) (xs : List Submission) → position (has_reference r) xs ≡ None
    → (with_told r f xs ≡ xs) × (without r xs ≡ xs)
nowhere r f xs h = nowhere_len r f xs (place_out (position_or_len (has_reference r) xs) (length xs)
    (nat_lt (position_or_len (has_reference r) xs) (length xs)) refl h)
