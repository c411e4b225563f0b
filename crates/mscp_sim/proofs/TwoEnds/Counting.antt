-- How often a reference number stands in a list, and the submission of a reference number.
use Rattle.mscp_sim.proofs.Common.{◌≡◌, ℕ, ◌+◌, Bool, false, List, [], ◌∷◌, ◌++◌, length, refl, ap, ◌∙◌, arith, find, nat_eq, nat_lt, ◌||◌, Some, is_some, AllByRecursion, list_any, eqb-true, eq-eqb, false≢true, nat_tests, Submission, has_reference, with_told, IsSmall, opcode_found, references, times}
use Rattle.mscp_host.specs.Accounts.{without}

-- ---- how often

pub times_append : (r : ℕ) (xs ys : List ℕ) → times r (xs ++ ys) ≡ times r xs + times r ys
times_append r [] ys = omega arith
times_append r (x ∷ xs) ys = search (arith, times_append r xs ys)

-- it stands there exactly where it is found
pub any_times : (r : ℕ) (xs : List ℕ) → list_any (λ x. nat_eq x r) xs ≡ nat_lt 0 (times r xs)
any_times r [] = refl
any_times r (x ∷ xs) = search (arith, any_times r xs, nat_tests)

pub has_any : (r : ℕ) (xs : List Submission) → list_any (has_reference r) xs
    ≡ list_any (λ x. nat_eq x r) (references xs)
has_any r [] = refl
has_any r (s ∷ xs) = ap (λ b. nat_eq s.reference r || b) (has_any r xs)

-- ---- taken out

-- the number of what is found stands once more
pub times_without : (r n : ℕ) (xs : List Submission) (s : Submission) → find (has_reference n) xs ≡ Some s
    → times r (references xs) ≡ times r (n ∷ []) + times r (references (without n xs))
times_without r n [] s e = absurd (false≢true (ap is_some e))
times_without r n (x ∷ xs) s e = search (arith, times_without r n xs s, eqb-true, times_append)

pub length_without : (n : ℕ) (xs : List Submission) (s : Submission) → find (has_reference n) xs ≡ Some s
    → length xs ≡ 1 + length (without n xs)
length_without n [] s e = absurd (false≢true (ap is_some e))
length_without n (x ∷ xs) s e = search (arith, length_without n xs s)

pub small_without : (n : ℕ) (xs : List Submission) → AllByRecursion IsSmall xs → AllByRecursion IsSmall (without n xs)
small_without n [] h = tt
small_without n (x ∷ xs) h = search (arith, small_without n xs h.1)

-- ---- the opcode byte that is found

found_without : (r n : ℕ) (xs : List Submission) → nat_eq n r ≡ false
    → opcode_found (without n xs) r ≡ opcode_found xs r
found_without r n [] d = refl
found_without r n (x ∷ xs) d = search (arith, found_without r n xs d, eqb-true)

pub opcode_without : (r n o : ℕ) (xs : List Submission) → nat_eq n r ≡ false → opcode_found xs r ≡ Some o
    → opcode_found (without n xs) r ≡ Some o
opcode_without r n o xs d e = found_without r n xs d ∙ e

pub opcode_pushed : (r o : ℕ) (xs : List Submission) (s : Submission) → opcode_found xs r ≡ Some o
    → opcode_found (xs ++ s ∷ []) r ≡ Some o
opcode_pushed r o [] s e = absurd (false≢true (ap is_some e))
opcode_pushed r o (x ∷ xs) s e = search (arith, Bool, nat_eq, opcode_pushed r o xs s)

pub opcode_new : (xs : List Submission) (s : Submission) → times s.reference (references xs) ≡ 0
    → opcode_found (xs ++ s ∷ []) s.reference ≡ Some s.opcode
opcode_new [] s z = rw (eq-eqb s.reference s.reference refl) refl
opcode_new (x ∷ xs) s z = search (arith, Bool, nat_eq, opcode_new xs s)

-- ---- told

pub references_told : (n f : ℕ) (xs : List Submission) → references (with_told n f xs) ≡ references xs
references_told n f [] = refl
references_told n f (x ∷ xs) = search (arith, references_told n f xs)

pub small_told : (n f : ℕ) (xs : List Submission) → AllByRecursion IsSmall xs
    → AllByRecursion IsSmall (with_told n f xs)
small_told n f [] h = tt
small_told n f (x ∷ xs) h = search (arith, small_told n f xs h.1)

pub opcode_told : (r n f : ℕ) (xs : List Submission) → opcode_found (with_told n f xs) r ≡ opcode_found xs r
opcode_told r n f [] = refl
opcode_told r n f (x ∷ xs) = search (arith, opcode_told r n f xs)
