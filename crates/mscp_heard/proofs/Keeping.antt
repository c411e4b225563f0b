-- What is known of the figures that a host was told, after what the host does.
use Rattle.mscp_heard.proofs.Upcoming.{first_of, tally_texts}
use Rattle.mscp_heard.proofs.Known.{IsPollText, PollsLast, AreApart, KnowsTold, KnowsPoll, Knows}
use Rattle.mscp_heard.proofs.Claims.{Owes, claim_of, claims, claims_said, find_more, none_owed, tally, tally_append}
use Rattle.mscp_heard.proofs.Hosts.{SameNumbers}
use Rattle.mscp_heard.proofs.Noting.{IsReady}
use Rattle.mscp_heard.proofs.Watching.{Found, Notes, found_submissions}
use Rattle.mscp_heard.proofs.Common.{AllByRecursion, Asked, Bool, List, None, Option, Pending, PortAccount, Said, Some, Submission, Watch, [], ap, arith, cond, eq-eqb, eqb-true, every_append, false, filter, find, has_number, has_reference, inl, inr, is_of, last_told, length, map, map-append, nat_eq, none-some, none_beside, num, refl, same_Some, slice_index, sole_comes, subst, sym, told_of, true, with_told, without, without_by, ℕ, ◌++◌, ◌+◌, ◌∙◌, ◌∷◌, ◌≡◌, ◌≤◌}

-- ---- commands

apart_more : (xs : List Asked) (x : Asked) → find (is_of x.reference) xs ≡ None → AreApart xs → AreApart (xs ++ x ∷ [])
apart_more [] x new all = (refl, tt)
apart_more (y ∷ xs) x new all = by (nat_eq y.reference x.reference) refl new (λ h. apart_more xs x h all.1)
  where
    by : (b : Bool) → nat_eq y.reference x.reference ≡ b
        → cond b (Some y) (find (is_of x.reference) xs) ≡ None
        → (find (is_of x.reference) xs ≡ None → AreApart (xs ++ x ∷ [])) → AreApart (y ∷ xs ++ x ∷ [])
    by true is h rest = absurd (none-some y (sym h))
    by false is h rest = (none_more xs all.0, rest h)
      where
        none_more : (zs : List Asked) → find (is_of y.reference) zs ≡ None
            → find (is_of y.reference) (zs ++ x ∷ []) ≡ None
        none_more [] e = ap (λ c. cond c (Some x) None) (swapped (nat_eq x.reference y.reference) refl)
          where
            swapped : (c : Bool) → nat_eq x.reference y.reference ≡ c → c ≡ false
            swapped c e = grind (arith, eq-eqb, eqb-true)
        none_more (z ∷ zs) e = cases (nat_eq z.reference y.reference) e (λ h. none_more zs h)
          where
            cases : (c : Bool) → cond c (Some z) (find (is_of y.reference) zs) ≡ None
                → (find (is_of y.reference) zs ≡ None → find (is_of y.reference) (zs ++ x ∷ []) ≡ None)
                → cond c (Some z) (find (is_of y.reference) (zs ++ x ∷ [])) ≡ None
            cases c h rest = grind (arith, none-some)

none_left : (m n : ℕ) (xs : List Asked) → find (is_of n) xs ≡ None → find (is_of n) (without_by (is_of m) xs) ≡ None
none_left m n [] e = refl
none_left m n (x ∷ xs) e = by (is_of n x) refl e (λ h. none_left m n xs h)
  where
    by : (b : Bool) → is_of n x ≡ b → cond b (Some x) (find (is_of n) xs) ≡ None
        → (find (is_of n) xs ≡ None → find (is_of n) (without_by (is_of m) xs) ≡ None)
        → find (is_of n) (cond (is_of m x) xs (x ∷ without_by (is_of m) xs)) ≡ None
    by b is h rest = grind (arith, none-some)

pub apart_left : (n : ℕ) (xs : List Asked) → AreApart xs → AreApart (without_by (is_of n) xs)
apart_left n [] all = tt
apart_left n (x ∷ xs) all = by (is_of n x) (apart_left n xs all.1)
  where
    by : (b : Bool) → AreApart (without_by (is_of n) xs) → AreApart (cond b xs (x ∷ without_by (is_of n) xs))
    by true rest = all.1
    by false rest = (none_left n x.reference xs all.0, rest)

pub gone : (n : ℕ) (xs : List Asked) → AreApart xs → find (is_of n) (without_by (is_of n) xs) ≡ None
gone n [] all = refl
gone n (x ∷ xs) all = by (is_of n x) refl (gone n xs all.1)
  where
    by : (b : Bool) → is_of n x ≡ b → find (is_of n) (without_by (is_of n) xs) ≡ None
        → find (is_of n) (cond b xs (x ∷ without_by (is_of n) xs)) ≡ None
    by true is rest = subst (λ k. find (is_of k) xs ≡ None) (eqb-true x.reference n is) all.0
    by false is rest = ap (λ d. cond d (Some x) (find (is_of n) (without_by (is_of n) xs))) is ∙ rest

-- ---- messages beside

beside_none : (n : ℕ) (ms : List (List ℕ)) (m : List ℕ) → nat_eq (num m 0 4) n ≡ false
    → filter (has_number n) ms ≡ [] → filter (has_number n) (ms ++ m ∷ []) ≡ []
beside_none n ms m apart e = none_beside (has_number n) ms m apart ∙ e

last_beside : (x w : ℕ) (ms : List (List ℕ)) (m : List ℕ) → nat_eq (num m 0 4) x ≡ false → nat_eq (num m 0 4) w ≡ false
    → PollsLast x w ms → PollsLast x w (ms ++ m ∷ [])
last_beside x w [] m other apart last = ((λ is. search (arith, is, apart)), tt)
last_beside x w (y ∷ ms) m other apart last = grind (arith, last_beside x w ms m other apart last.1, beside_none)

-- where none has the poll's number, one that is sent is the last
last_new : (x w : ℕ) (ms : List (List ℕ)) (m : List ℕ) → filter (has_number w) ms ≡ [] → IsPollText x m
    → PollsLast x w (ms ++ m ∷ [])
last_new x w [] m none poll = ((λ is. (poll, refl)), tt)
last_new x w (y ∷ ms) m none poll = grind (arith, last_new x w ms m, nat_eq)

-- ---- submissions

last_more : (xs : List Submission) (s : Submission) (x : ℕ) → s.told ≡ None
    → last_told (xs ++ s ∷ []) x ≡ last_told xs x
last_more [] s x e = grind (arith, nat_eq)
last_more (y ∷ xs) s x e = grind (arith, last_more xs s x e, nat_eq)

pub last_left : (xs : List Submission) (n x : ℕ) → nat_eq n x ≡ false → last_told (without n xs) x ≡ last_told xs x
last_left [] n x d = refl
last_left (y ∷ xs) n x d = by (nat_eq y.reference n) refl (last_left xs n x d)
  where
    by : (b : Bool) → nat_eq y.reference n ≡ b → last_told (without n xs) x ≡ last_told xs x
        → told_of (find (has_reference x) (cond b xs (y ∷ without n xs)))
        ≡ told_of (cond (nat_eq y.reference x) (Some y) (find (has_reference x) xs))
    by b is rest = grind (arith, nat_eq, eqb-true)

pub every_without : (P : Submission → Type 0) (n : ℕ) (xs : List Submission) → AllByRecursion P xs
    → AllByRecursion P (without n xs)
every_without P n [] all = tt
every_without P n (x ∷ xs) all = grind (arith, every_without P n xs all.1)

pub every_told : (P : Submission → Type 0) (n figure : ℕ) (xs : List Submission)
    → ((s : Submission) → s.reference ≡ n → P (record s { told = Some figure })) → AllByRecursion P xs
    → AllByRecursion P (with_told n figure xs)
every_told P n figure [] known all = tt
every_told P n figure (x ∷ xs) known all = grind (arith, every_told P n figure xs known all.1, eqb-true)

-- ---- the host sends a message

module _ (F : ℕ → ℕ) (Served : ℕ → Type 0) (old new : PortAccount) (us : List Said) (P : List Pending)
    (ts ms : List (List ℕ)) (m : List ℕ) (s : Notes old new m) (same : SameNumbers old) (ready : IsReady old)
    (owes : Owes old.asked (claims us ts ms)) (k : Knows F Served old us P ts ms)
    (held : (n g : ℕ) → first_of n P ≡ Some g → 1 ≤ tally n (claims us ts ms)) where
  -- its number is none that the host knows
  new_number : (n : ℕ) (y : Asked) → find (is_of n) old.asked ≡ Some y → nat_eq (num m 0 4) n ≡ false
  new_number n y e = by (nat_eq (num m 0 4) n) refl
    where
      by : (b : Bool) → nat_eq (num m 0 4) n ≡ b → b ≡ false
      by false is = refl
      by true is = absurd (none-some y (sym s.new_number ∙ ap (λ j. find (is_of j) old.asked)
          (eqb-true (num m 0 4) n is) ∙ e))

  none_claimed : tally (num m 0 4) (claims us ts ms) ≡ 0
  none_claimed = none_owed old.asked (claims us ts ms) (num m 0 4) owes.known s.new_number

  longer : (n : ℕ) → tally n (claims us ts (ms ++ m ∷ []))
      ≡ tally n (claims us ts ms) + tally n (claim_of m ∷ [])
  longer n = grind (arith, tally_append, claims_said, claim_of, tally, map-append)

  placed_now : (n : ℕ) (y : Asked) → find (is_of n) new.asked ≡ Some y → 1 ≤ tally n (claims us ts (ms ++ m ∷ []))
  placed_now n y e = by (nat_eq (num m 0 4) n) refl
    where
      more : (a b c : ℕ) → a ≡ b + c → 1 ≤ b → 1 ≤ a
      more a b c f g = omega (arith, f, g)

      most : (a b c : ℕ) → a ≡ b + c → 1 ≤ c → 1 ≤ a
      most a b c f g = omega (arith, f, g)

      found : (o : Option Asked) → find (is_of n) old.asked ≡ o → nat_eq (num m 0 4) n ≡ false
          → 1 ≤ tally n (claims us ts (ms ++ m ∷ []))
      found (Some x) is apart = grind (arith, more, tally, claims, claim_of, longer)
      found None is apart = absurd (none-some y (sym (none_more old.asked is) ∙ ap (find (is_of n)) (sym s.asked) ∙ e))
        where
          none_more : (xs : List Asked) → find (is_of n) xs ≡ None → find (is_of n) (xs ++ s.more ∷ []) ≡ None
          none_more [] h = ap (λ c. cond c (Some s.more) None) (ap (λ j. nat_eq j n) s.number ∙ apart)
          none_more (z ∷ zs) h = cases (nat_eq z.reference n) h (λ g. none_more zs g)
            where
              cases : (c : Bool) → cond c (Some z) (find (is_of n) zs) ≡ None
                  → (find (is_of n) zs ≡ None → find (is_of n) (zs ++ s.more ∷ []) ≡ None)
                  → cond c (Some z) (find (is_of n) (zs ++ s.more ∷ [])) ≡ None
              cases c h rest = grind (arith, none-some)

      by : (b : Bool) → nat_eq (num m 0 4) n ≡ b → 1 ≤ tally n (claims us ts (ms ++ m ∷ []))
      by true is = grind (arith, most, tally, claims, claim_of, longer)
      by false is = found (find (is_of n) old.asked) refl is

  told_now : (xs : List Submission) → AllByRecursion (λ (x : Submission). Found old.asked x.reference) xs
      → AllByRecursion (KnowsTold F Served ms) xs → AllByRecursion (KnowsTold F Served (ms ++ m ∷ [])) xs
  told_now [] found all = tt
  told_now (x ∷ xs) found all = grind (arith, told_now xs found.1 all.1, beside_none, new_number)

  unread_none : filter (has_number (num m 0 4)) ms ≡ []
  unread_none = none (filter (has_number (num m 0 4)) ms) refl
    where
      over : (a b c d : ℕ) → a ≡ b + (c + d) → a ≡ 0 → 1 ≤ d → ⊥
      over a b c d e f g = omega (arith, e, f, g)

      none : (xs : List (List ℕ)) → filter (has_number (num m 0 4)) ms ≡ xs → xs ≡ []
      none [] e = refl
      none (x ∷ xs) e = absurd (over (tally (num m 0 4) (claims us ts ms)) (tally (num m 0 4) (claims_said us))
          (tally (num m 0 4) (map claim_of ts)) (tally (num m 0 4) (map claim_of ms))
          (tally_append (num m 0 4) (claims_said us) (map claim_of ts ++ map claim_of ms)
          ∙ ap (λ j. tally (num m 0 4) (claims_said us) + j)
          (tally_append (num m 0 4) (map claim_of ts) (map claim_of ms))) none_claimed
          (subst (λ j. 1 ≤ j) (sym (tally_texts (num m 0 4) ms ∙ ap length e)) (search arith)))

  -- the poll that was in flight is so still
  poll_stays : (w : Watch) → old.account.watch ≡ Some w → KnowsPoll F Served old P ms w.polled w.reference
      → KnowsPoll F Served new P (ms ++ m ∷ []) w.polled w.reference
  poll_stays w at x = grind (arith, new_number, find_more, last_beside, none_beside, beside_none, last_more)

  -- or the message is that of a poll
  poll_begins : (w : Watch) → w.reference ≡ s.more.reference → w.polled ≡ num m 12 4 → 16 ≤ length m
      → slice_index m 8 ≡ 2 → (y : Asked) × (find (is_of w.polled) old.asked ≡ Some y)
      → KnowsPoll F Served new P (ms ++ m ∷ []) w.polled w.reference
  poll_begins w own about long poll known =
      let named : w.reference ≡ num m 0 4 = own ∙ s.number in
      record {
        apart = ap (λ j. nat_eq j w.polled) named ∙ new_number w.polled known.0 known.1;
        known = (
          known.0,
          ap (find (is_of w.polled)) s.asked ∙ find_more w.polled old.asked known.0 s.more known.1,
        );
        last = last_new w.polled w.reference ms m (ap (λ j. filter (has_number j) ms) named ∙ unread_none)
            (poll, long, sym about);
        place = inl (λ e. absurd (search (
          arith,
          sym (sole_comes (has_number w.reference) ms m
              (ap (λ j. filter (has_number j) ms) named ∙ unread_none) (eq-eqb (num m 0 4) w.reference (sym named)))
              ∙ e,
        )));
        coming = λ g first. absurd (none (tally (num m 0 4) (claims us ts ms)) none_claimed
            (held (num m 0 4) g (ap (λ j. first_of j P) (sym named) ∙ first)));
      }
    where
      none : (a : ℕ) → a ≡ 0 → 1 ≤ a → ⊥
      none a e h = search (arith, e, h)

  pub knows_sent : Knows F Served new us P ts (ms ++ m ∷ [])
  knows_sent = record {
    placed = placed_now;
    told = subst (λ xs. AllByRecursion (KnowsTold F Served (ms ++ m ∷ [])) xs) (sym s.outstanding)
        (every_append (KnowsTold F Served (ms ++ m ∷ [])) old.account.outstanding (s.submission ∷ [])
        (told_now old.account.outstanding (found_submissions old same) k.told)
        ((λ l e. absurd (none-some l (sym s.untold ∙ e))), tt));
    poll = λ w at out. elim s.watch [
      | inl still ↦ poll_stays w (sym still ∙ at) (k.poll w (sym still ∙ at) out)
      | inr p ↦ subst (λ (z : Watch). KnowsPoll F Served new P (ms ++ m ∷ []) z.polled z.reference)
          (same_Some p.0 w (sym p.1 ∙ at)) (poll_begins p.0 p.2 p.3 p.4 p.5 p.6)
    ];
    unique = subst (λ xs. AreApart xs) (sym s.asked) (apart_more old.asked s.more
        (ap (λ j. find (is_of j) old.asked) s.number ∙ s.new_number) k.unique);
  }
