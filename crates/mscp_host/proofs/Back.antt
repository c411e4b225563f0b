-- The bytes that a host is saved as say that host.
use Rattle.mscp_host.proofs.Common.{All, ◌≡◌, ℕ, ◌+◌, ◌*◌, ◌≤◌, true, List, [], ◌∷◌, ◌++◌, drop, length, refl, arith, le-leb, le-ltb, lt-ltb, eq-eqb, length-append, bytes_eq-Decides, flat_map, Option, None, Ok, bytes_eq, parts_in, four, two, read_all, Submission, Watch, Account, IsSound, account_fault, account_in, head_fault, restored, submission_in, HasRange, HasSubmissionRange, saved_bytes, submission_bytes}

-- ---- a submission

submission_back : (s : Submission) (t : List ℕ) → HasSubmissionRange s → submission_in (submission_bytes s ++ t) ≡ s
submission_back s t h = grind (arith, four, two)

submission_rest : (s : Submission) (t : List ℕ) → HasSubmissionRange s → drop 12 (submission_bytes s ++ t) ≡ t
submission_rest s t h = grind arith

-- ---- all

outstanding_back : (xs : List Submission) → All HasSubmissionRange xs
    → parts_in submission_in 12 (length xs) (flat_map submission_bytes xs) ≡ xs
outstanding_back xs all = search (arith, read_all, submission_back, submission_rest)

abbrev account : ℕ → List Submission → Option Watch → Account
account credits xs watch = record { credits = credits; outstanding = xs; watch = watch }

pub account_back : (credits : ℕ) (xs : List Submission) (watch : Option Watch) → credits ≤ 64
    → HasRange (account credits xs watch)
    → account_in (saved_bytes (account credits xs watch)) ≡ account credits xs watch
account_back credits xs watch h1 h2 = search (arith, four, outstanding_back)

-- ---- its head

submissions_long : (xs : List Submission) → length (flat_map submission_bytes xs) ≡ 12 * length xs
submissions_long [] = let e : 0 ≡ 12 * 0 = omega arith in e
submissions_long (s ∷ xs) = grind (arith, submissions_long xs, length-append)

pub saved_long : (a : Account) → length (saved_bytes a) ≡ 26 + 12 * length a.outstanding
saved_long a = search (arith, submissions_long, length-append)

pub head_back : (a : Account) → 2 ≤ a.credits → a.credits ≤ 64 → length a.outstanding ≤ a.credits
    → head_fault (saved_bytes a) ≡ None
head_back a some few covered = search (arith, saved_long, four, le-leb, eq-eqb, le-ltb)

-- ---- the bytes say the host

same_bytes : (b : List ℕ) → bytes_eq b b ≡ true
same_bytes b = (bytes_eq-Decides b b).1 refl

no_fault : (a : Account) → IsSound a → account_fault a ≡ None
no_fault a sound = search (arith, lt-ltb)

pub restored_back : (a : Account) → IsSound a → HasRange a → restored (saved_bytes a) ≡ Ok a
restored_back a sound range = search (arith, head_back, account_back, no_fault, same_bytes)
