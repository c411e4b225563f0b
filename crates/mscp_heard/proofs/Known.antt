-- What is known of the figures that a host was told, and of the poll in flight.
use Rattle.mscp_heard.proofs.Upcoming.{first_of, Before}
use Rattle.mscp_heard.proofs.Claims.{claims, tally}
use Rattle.mscp_heard.proofs.Common.{AllByRecursion, Asked, List, None, Pending, PortAccount, Said, Some, Submission, Watch, [], eqb-true, false, filter, find, has_number, is_of, last_told, length, nat_eq, none-some, num, slice_index, true, ℕ, ◌<◌, ◌∷◌, ◌≡◌, ◌≢◌, ◌≤◌, ◌⊎◌, arith}

-- ---- messages

-- the poll is the last that names its command, among those that weren't read, and is one
abbrev pub IsPollText : ℕ → List ℕ → Type 0
IsPollText x m = (slice_index m 8 ≡ 2) × (16 ≤ length m) × (num m 12 4 ≡ x)

abbrev pub PollsLast : ℕ → ℕ → List (List ℕ) → Type 0
PollsLast x w [] = Unit {0}
PollsLast x w (m ∷ ms) =
    (nat_eq (num m 0 4) w ≡ true → IsPollText x m × (filter (has_number x) ms ≡ [])) × PollsLast x w ms

-- ---- what is known

-- no two commands of a host have one number
abbrev pub AreApart : List Asked → Type 0
AreApart [] = Unit {0}
AreApart (x ∷ xs) = (find (is_of x.reference) xs ≡ None) × AreApart xs

-- of a figure of 1 or more, that is told of a command in the port
abbrev pub IsBelow : (F : ℕ → ℕ) (Served : ℕ → Type 0) → ℕ → ℕ → Type 0
IsBelow F Served x g = 1 ≤ F x → (F x ≤ g) × (Served x → F x < g)

abbrev pub KnowsTold : (F : ℕ → ℕ) (Served : ℕ → Type 0) → List (List ℕ) → Submission → Type 0
KnowsTold F Served ms s = (l : ℕ) → s.told ≡ Some l
    → (filter (has_number s.reference) ms ≡ []) × IsBelow F Served s.reference l

-- the poll in flight
pub record KnowsPoll (F : ℕ → ℕ) (Served : ℕ → Type 0) (host : PortAccount) (P : List Pending)
    (ms : List (List ℕ)) (x w : ℕ) : Type 0 where
  pub apart : nat_eq w x ≡ false
  pub known : (y : Asked) × (find (is_of x) host.asked ≡ Some y)
  pub last : PollsLast x w ms
  pub place : (filter (has_number w) ms ≢ []) ⊎ ((g : ℕ) × (first_of w P ≡ Some g))
  pub coming : (g : ℕ) → first_of w P ≡ Some g → (filter (has_number x) ms ≡ [])
      × (Before x w P ⊎ ((1 ≤ g) × ((l : ℕ) → last_told host.account.outstanding x ≡ Some l → l ≤ g → ⊥)
      × IsBelow F Served x g))

pub record Knows (F : ℕ → ℕ) (Served : ℕ → Type 0) (host : PortAccount) (us : List Said) (P : List Pending)
    (ts ms : List (List ℕ)) : Type 0 where
  -- each command is in the host's or the port's hands
  pub placed : (n : ℕ) (y : Asked) → find (is_of n) host.asked ≡ Some y → 1 ≤ tally n (claims us ts ms)
  pub told : AllByRecursion (KnowsTold F Served ms) host.account.outstanding
  pub poll : (w : Watch) → host.account.watch ≡ Some w → w.is_outstanding ≡ true
      → KnowsPoll F Served host P ms w.polled w.reference
  pub unique : AreApart host.asked

-- what is known of each, where one was told a figure
pub last_of : (P : Submission → Type 0) (x l : ℕ) (xs : List Submission) → AllByRecursion P xs → last_told xs x ≡ Some l
    → (s : Submission) × P s × (s.reference ≡ x) × (s.told ≡ Some l)
last_of P x l [] all e = absurd (none-some l e)
last_of P x l (s ∷ xs) all e = grind (arith, last_of P x l xs all.1, nat_eq, eqb-true)
