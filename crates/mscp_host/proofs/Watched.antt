-- A poll in flight stays one that a host may have.
use Rattle.mscp_host.proofs.Common.{◌≡◌, ℕ, Bool, true, false, ◌&&◌, List, [], ◌∷◌, ◌++◌, nat_eq, refl, ap, sym, ◌∙◌, arith, not, Option, Some, Ok, list_any, and_parts, or_left, or_right, true≢false, list_any-append, ArrayVec, Command, HostFault, Submission, Watch, Account, has_reference, is_immediate, poll_of, submission_of, submits_unless, submitted, watch_after, with_told, without, is_numbered, is_oldest, is_polled, is_status, is_watched, oldest_of}
use Rattle.mscp_host.specs.Watched.{is_poll}

-- ---- one of the submissions passes a test

module _ (p : Submission → Bool) where
  -- which asks for no figure
  any_told : (r f : ℕ) → ((s : Submission) → p (record s { told = Some f }) ≡ p s) → (xs : List Submission)
      → list_any p (with_told r f xs) ≡ list_any p xs
  any_told r f same [] = refl
  any_told r f same (s ∷ rest) = search (arith, any_told r f same rest, same)

  -- and isn't the one that leaves
  any_without : (r : ℕ) → ((s : Submission) → p s ≡ true → has_reference r s ≡ false) → (xs : List Submission)
      → list_any p xs ≡ true → list_any p (without r xs) ≡ true
  any_without r other [] e = e
  any_without r other (s ∷ rest) e = grind (arith, any_without r other rest, other, true≢false)

-- another number isn't that of the one that leaves
other_status : (n r : ℕ) (s : Submission) → nat_eq n r ≡ false → is_status n s ≡ true → has_reference r s ≡ false
other_status n r s other e = search (arith, and_parts)

-- ---- the oldest

-- the unit of the command, if there is one
is_polled_to : (n : ℕ) (xs ys : List Submission) (o : Option Submission)
    → ((u : ℕ) → list_any (is_poll n u) xs ≡ list_any (is_poll n u) ys) → is_polled n xs o ≡ is_polled n ys o
is_polled_to n xs ys o h1 = search arith

module _ (r f : ℕ) where
  -- a figure is told
  oldest_told : (P : Option Submission → Bool) → ((s : Submission) → P (Some (record s { told = Some f })) ≡ P (Some s))
      → (xs : List Submission) → P (oldest_of (with_told r f xs)) ≡ P (oldest_of xs)
  oldest_told P same [] = refl
  oldest_told P same (s ∷ rest) = search (arith, oldest_told P same rest, same)

  pub is_oldest_told : (n : ℕ) (xs : List Submission) → is_oldest n (with_told r f xs) ≡ is_oldest n xs
  is_oldest_told n xs = oldest_told (is_numbered n) (λ s. refl) xs

  polled_told : (n : ℕ) (xs : List Submission)
      → is_polled n (with_told r f xs) (oldest_of (with_told r f xs)) ≡ is_polled n xs (oldest_of xs)
  polled_told n xs =
      is_polled_to n (with_told r f xs) xs (oldest_of (with_told r f xs))
      (λ u. any_told (is_poll n u) r f (λ s. refl) xs) ∙ oldest_told (is_polled n xs) (λ s. refl) xs

  pub watched_told : (xs : List Submission) (watch : Option Watch)
      → is_watched (with_told r f xs) watch ≡ is_watched xs watch
  watched_told xs watch = search (arith, any_told, is_oldest_told, polled_told, nat_eq)

-- one that leaves is another
pub oldest_without : (r n : ℕ) (xs : List Submission) → nat_eq n r ≡ false → is_oldest n xs ≡ true
    → oldest_of (without r xs) ≡ oldest_of xs
oldest_without r n [] other e = refl
oldest_without r n (s ∷ rest) other e =
    by (has_reference r s) (not (is_immediate s.opcode)) refl refl (oldest_without r n rest other) e
  where
    by : (b d : Bool) → has_reference r s ≡ b → not (is_immediate s.opcode) ≡ d
        → (is_oldest n rest ≡ true → oldest_of (without r rest) ≡ oldest_of rest)
        → is_oldest n (s ∷ rest) ≡ true → oldest_of (without r (s ∷ rest)) ≡ oldest_of (s ∷ rest)
    by true true is so h all =
        let mine : has_reference n s ≡ true = rw so at all in
        let differ : has_reference n s ≡ false = grind arith in
        absurd (true≢false (sym mine ∙ differ))
    by true false is so h all = rw (is, so) refl
    by false true is so h all = rw (is, so) refl
    by false false is so h all = rw (is, so) (h (rw so at all))

-- one comes behind it
pub oldest_more : (s : Submission) (n : ℕ) (xs : List Submission) → is_oldest n xs ≡ true
    → oldest_of (xs ++ s ∷ []) ≡ oldest_of xs
oldest_more s n [] e = absurd (true≢false (sym e))
oldest_more s n (x ∷ rest) e = grind (arith, oldest_more s n rest)

-- ---- one leaves

-- once the end of this number was received, it stays so
pub watched_without : (r : ℕ) (xs : List Submission) (watch : Option Watch) → is_watched xs watch ≡ true
    → is_watched (without r xs) (watch_after watch r) ≡ true
watched_without r xs o e = grind (arith, and_parts, any_without, other_status, oldest_without)

-- ---- one comes

pub watched_more : (s : Submission) (xs : List Submission) (watch : Option Watch) → is_watched xs watch ≡ true
    → is_watched (xs ++ s ∷ []) watch ≡ true
watched_more s xs o e = grind (arith, and_parts, oldest_more, list_any-append, or_left)

-- ---- a poll comes

same_number : (n : ℕ) → nat_eq n n ≡ true
same_number n = grind arith

pub watched_poll : (r : ℕ) (p : Submission) (xs : List Submission) → oldest_of xs ≡ Some p
    → is_watched (xs ++ submission_of (poll_of r p) ∷ [])
    (Some (record { reference = r; polled = p.reference; is_outstanding = true })) ≡ true
watched_poll r p xs e =
    let s = submission_of (poll_of r p) in
    let own : is_status r s ≡ true = ap (λ b. b && true) (same_number r) in
    let poll : is_poll r p.unit s ≡ true = λ i. own i && same_number p.unit i in
    let first : is_oldest p.reference xs ≡ true = ap (is_numbered p.reference) e ∙ same_number p.reference in
    search (arith, oldest_more, same_number, list_any-append, or_right, or_left)

-- a command was sent
pub was_submitted : (a after : Account) (command : Command) (fault : Option HostFault) (message : ArrayVec ℕ)
    → (Ok message, after) ≡ submits_unless a command fault → after ≡ submitted a command
was_submitted a after command fault message h1 = search (arith, true≢false)
