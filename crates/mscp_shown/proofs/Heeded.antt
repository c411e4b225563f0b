-- A take keeps what hosts will hear, and its own figure is right.
use Rattle.mscp_shown.proofs.Common.{AllByRecursion, Answer, Bool, Connection, End, First, List, Moment, Name, None, Option, Sent, Settings, Some, Trace, [], and_parts, ap, append-nil, append_assoc, arith, command_at, connection, count_by, drop, drop_more, ends, ends_at, eq-eqb, eqb-true, every_mapped, every_parts, every_weaker, false, find, find_cases, find_first, find_none, get_or, is_below, is_it, is_named, is_waiting, length, list_any, list_any-append, lt-ltb, map, name, name_before, name_on, nat_eq, nat_lt, own_side, place_of, polled_by, queues, reference, refl, same_connection, sent_by, subst, suc, sum_by, sum_by-cons, sym, take, take-append-drop, takes, true, true≢false, untaken, untaken_more, ℕ, ⊎_elim, ◌&&◌, ◌++◌, ◌+◌, ◌<◌, ◌||◌, ◌∙◌, ◌∷◌, ◌≡◌, ◌≤◌}
use Rattle.mscp_wire.specs.Wire as wire
use Rattle.mscp_shown.proofs.Strict.{after_end, has_figure, hears, may_tell}
use Rattle.mscp_shown.proofs.Chaining.{goes_told, heard, tells}
use Rattle.mscp_shown.proofs.Counts.{none_passes}
use Rattle.mscp_shown.proofs.Hearing.{Chains, IsLast, Lasts, Stands, chains_at, last_more}
use Rattle.mscp_shown.proofs.Heeding.{chains_gone, chains_other, hears_named, lasts_gone, lasts_other, other_number, stands_gone}
use Rattle.mscp_shown.proofs.Listening.{Heard}
use Rattle.mscp_shown.proofs.Hearing.{stands_weaker}
use Rattle.mscp_shown.proofs.Messages.{IsTallied}
use Rattle.mscp_shown.proofs.Owed.{one_if, untaken_took}
use Rattle.mscp_shown.proofs.Owners.{none_each, same_sides}
use Rattle.mscp_shown.proofs.Placing.{below_or_last, waited}
use Rattle.mscp_shown.proofs.Polling.{figure_told, poll_of}
use Rattle.mscp_shown.proofs.Shown.{placed, tally, tally_end}

module _ (c : Settings) (own : Connection) (t : Trace) (m : Moment) (xs : List Sent) (a : Answer) (i : ℕ) (e : End)
    (rest : List End) (us : untaken c own t ≡ e ∷ rest) (at : place_of xs a ≡ Some i) (side : a.connection ≡ own)
    (number : a.reference ≡ e.reference) (asks : polled_by (command_at xs i) a ≡ poll_of e)
    (figure : (n : ℕ) → poll_of e ≡ Some n → a.figure ≡ Some (figure_told e))
    (single : (via : Connection) (n : ℕ) → tally via (λ k. nat_eq k n) xs ≤ 1)
    (tallied : (via : Connection) → IsTallied c via t xs) (h : Heard c t xs)
    (none_left : AllByRecursion (λ s. is_named own e.reference s ≡ false) (after_end xs a (Some i))) where
  abbrev d : Sent
  d = sent_by First []

  abbrev gone : List Sent
  gone = map (hears a (poll_of e)) (take i xs) ++ drop (suc i) xs

  left_is : after_end xs a (Some i) ≡ gone
  left_is =
      let one : i + 1 ≡ suc i = omega arith in
      ap (λ o. map (hears a o) (take i xs) ++ drop (i + 1) xs) asks
      ∙ ap (λ n. map (hears a (poll_of e)) (take i xs) ++ drop n xs) one

  low : i < length xs
  low = (placed xs a i at).low

  named : is_named own e.reference (get_or xs i d) ≡ true
  named = grind (arith, placed, same_sides)

  parts : AllByRecursion (λ s. is_named own e.reference s ≡ false) (take i xs)
      × AllByRecursion (λ s. is_named own e.reference s ≡ false) (drop (suc i) xs)
  parts =
      let both = every_parts (λ s. is_named own e.reference s ≡ false) (map (hears a (poll_of e)) (take i xs))
      (drop (suc i) xs) (subst (AllByRecursion (λ s. is_named own e.reference s ≡ false)) left_is none_left) in (
        every_weaker (λ s. is_named own e.reference (hears a (poll_of e) s) ≡ false)
            (λ s. is_named own e.reference s ≡ false)
            (λ s q. sym (hears_named a (poll_of e) own e.reference s) ∙ q) (take i xs)
            (every_mapped (hears a (poll_of e)) (λ s. is_named own e.reference s ≡ false) (take i xs) both.0),
        both.1,
      )

  -- no other end that wasn't taken has its number
  others : AllByRecursion (λ (k : End). nat_eq k.reference e.reference ≡ false) rest
  others =
      let f : End → ℕ = λ k. one_if (nat_eq k.reference e.reference) in
      let one : f e ≡ 1 = ap one_if (eq-eqb e.reference e.reference refl) in
      none_each (λ (k : End). nat_eq k.reference e.reference) rest
      (omega (
        arith,
        single own e.reference,
        tallied own (λ k. nat_eq k e.reference),
        ap (sum_by f) us,
        sum_by-cons f e rest,
        one,
      ))

  module _ (n : queues m.1 ≡ false) (none : (via : Connection) → ends_at c via t m ≡ [])
      (takes_own : (via : Connection) → takes via m.1 ≡ same_connection own via)
      (room : (via : Connection) → count_by (λ (o : Moment). takes via o.1) t ≤ length (ends c via t)) where
    low_of : (x : ℕ) → is_waiting (t ++ m ∷ []) x ≡ true → x < length t
    low_of x w = ⊎_elim (λ l. l) (λ q. absurd (true≢false (sym q.1 ∙ n))) (below_or_last t m x w)

    took : untaken c own (t ++ m ∷ []) ≡ rest
    took = untaken_took c own t m (takes_own own ∙ own_side own) (none own) ∙ ap (drop 1) us

    stays : (via : Connection) → same_connection own via ≡ false → untaken c via (t ++ m ∷ []) ≡ untaken c via t
    stays via q =
        untaken_more c via t m (takes_own via ∙ q) (room via) ∙ ap (λ es. untaken c via t ++ es) (none via)
        ∙ append-nil (untaken c via t)

    -- a property by connection
    by_side : (P : Connection → List End → Type 0) → P own rest
        → ((via : Connection) → same_connection own via ≡ false → P via (untaken c via t)) → (via : Connection)
        → P via (untaken c via (t ++ m ∷ []))
    by_side P mine others' via = grind (arith, took, stays)

    not_own : (via : Connection) → same_connection own via ≡ false → wire.same_connection a.connection via ≡ false
    not_own via q = ap (λ v. wire.same_connection v via) side ∙ (same_sides own via ∙ q)

    not_there : (via : Connection) → same_connection own via ≡ false
        → wire.same_connection (get_or xs i d).connection via ≡ false
    not_there via q = ap (λ v. wire.same_connection v via) (placed xs a i at).connection ∙ not_own via q

    tally_left : (via : Connection) (k : ℕ) → tally via (λ j. nat_eq j k) (after_end xs a (Some i))
        + one_if (wire.same_connection a.connection via && nat_eq a.reference k) ≡ tally via (λ j. nat_eq j k) xs
    tally_left via k = tally_end via (λ j. nat_eq j k) xs a i at

    pub heard_took : Heard c (t ++ m ∷ []) (after_end xs a (Some i))
    heard_took = record {
      chains = λ via. rw left_is (by_side (λ v es. Chains v gone es) (chains_gone a own e rest d side figure i xs low
          named parts.0 parts.1 others (subst (Chains own xs) us (h.chains own))) (λ via q. chains_other a (poll_of e)
          via (untaken c via t) d (not_own via q) i xs low (not_there via q) (h.chains via)) via);
      lasts = λ x w.
          let lx = low_of x w in
          let wx = waited t m x lx w in
          let P : Option ℕ → Type 0 = IsLast c t (name t x) x in
          let old = by_side
          (λ v es. v ≡ connection t x → Lasts (name_on v (reference t x)) P es gone)
          (λ q. lasts_gone a own e rest d side figure (reference t x) P i xs low named parts.1 others
          (subst (λ es. Lasts (name_on own (reference t x)) P es xs) us
          (subst (λ v. Lasts (name_on v (reference t x)) P (untaken c v t) xs) (sym q) (h.lasts x wx))))
          (λ via s q. lasts_other a (poll_of e) via (untaken c via t) d (not_own via s) (reference t x) P i xs low
          (not_there via s)
          (subst (λ v. Lasts (name_on v (reference t x)) P (untaken c v t) xs) (sym q) (h.lasts x wx)))
          (connection t x) refl in
          let next = lasts_weaker (name t x) P (IsLast c (t ++ m ∷ []) (name t x) x)
          (λ o q. last_more c t m (name t x) x o q) (untaken c (connection t x) (t ++ m ∷ [])) gone old in
          subst (λ ys. Lasts (name (t ++ m ∷ []) x) (IsLast c (t ++ m ∷ []) (name (t ++ m ∷ []) x) x)
          (untaken c (connection (t ++ m ∷ []) x) (t ++ m ∷ [])) ys) (sym left_is)
          (subst (λ (z : Name). Lasts z (IsLast c (t ++ m ∷ []) z x) (untaken c z.connection (t ++ m ∷ [])) gone)
          (sym (name_before t m x lx)) next);
      stands = by_side (λ v es. Stands v (after_end xs a (Some i)) [] es)
          (stands_gone own xs (after_end xs a (Some i)) e [] rest
          (λ k.
          let one = tally_left own k in
          let same : one_if (wire.same_connection a.connection own && nat_eq a.reference k)
          ≡ one_if (nat_eq e.reference k) =
          ap (λ v. one_if (wire.same_connection v own && nat_eq a.reference k)) side
          ∙ (ap (λ s. one_if (s && nat_eq a.reference k)) (same_sides own own ∙ own_side own)
          ∙ ap (λ r. one_if (nat_eq r k)) number) in
          omega (arith, one, same))
          (subst (Stands own xs []) us (h.stands own)).1)
          (λ via q. stands_weaker via xs (after_end xs a (Some i)) [] (untaken c via t)
          (λ k. omega (
            arith,
            tally_left via k,
            ap (λ s. one_if (s && nat_eq a.reference k)) (not_own via q),
          )) (h.stands via));
    }
      where
        lasts_weaker : (z : Name) (P Q : Option ℕ → Type 0) → ((o : Option ℕ) → P o → Q o) → (es : List End)
            (ys : List Sent) → Lasts z P es ys → Lasts z Q es ys
        lasts_weaker z P Q f es [] k = tt
        lasts_weaker z P Q f es (y ∷ ys) k = ((λ q. f _ (k.0 q)), lasts_weaker z P Q f es ys k.1)

  -- ---- its own figure
  told_right : (n : ℕ) → poll_of e ≡ Some n
      → may_tell a.figure (list_any (is_named own n) xs) (find (is_named own n) (take i xs)) ≡ true
  told_right n q = ⊎_elim
      (λ none.
      ap (λ o. may_tell a.figure (list_any (is_named own n) xs) o) (find_none (is_named own n) (take i xs) none)
      ∙ (ap (λ f. may_tell f (list_any (is_named own n) xs) None) (figure n q)
      ∙ ⊎_elim
      (λ zero'. ap (λ b. list_any (is_named own n) xs || b) (eq-eqb (figure_told e) 0 zero')
      ∙ or_true (list_any (is_named own n) xs))
      (λ some. ap (λ b. b || nat_eq (figure_told e) 0) (any_some (is_named own n) xs some.1))
      ((subst (Stands own xs []) us (h.stands own)).0 n q)))
      (λ some.
      let f = some.3 in
      let front = some.0 in
      let s = some.1 in
      let back = some.2 in
      ap (λ ys. may_tell a.figure (list_any (is_named own n) xs) (find (is_named own n) ys)) f.is
      ∙ (ap (may_tell a.figure (list_any (is_named own n) xs)) (find_first (is_named own n) front s back f.before
      f.passed)
      ∙ (ap (λ g. may_tell g (list_any (is_named own n) xs) (Some s)) (figure n q)
      ∙ falls n q front s back f.is f.passed)))
      (find_cases (is_named own n) (take i xs))
    where
      or_true : (b : Bool) → (b || true) ≡ true
      or_true b = grind arith

      any_some : (p : Sent → Bool) (ys : List Sent) → 1 ≤ count_by p ys → list_any p ys ≡ true
      any_some p ys k = grind (arith, none_passes)

      falls : (n : ℕ) → poll_of e ≡ Some n → (front : List Sent) (s : Sent) (back : List Sent)
          → take i xs ≡ front ++ s ∷ back → is_named own n s ≡ true
          → (wire.is_immediate s.opcode || (nat_lt 0 (figure_told e) && is_below s.told (figure_told e))) ≡ true
      falls n q front s back is p =
          let later = back ++ drop i xs in
          let whole : xs ≡ front ++ s ∷ later = sym (take-append-drop i xs) ∙ ap (λ ys. ys ++ drop i xs) is
          ∙ append_assoc front (s ∷ back) (drop i xs) in
          let two = and_parts (wire.same_connection s.connection own) (nat_eq s.reference n) p in
          let same : s.reference ≡ n = eqb-true s.reference n two.1 in
          let chain = chains_at own (e ∷ rest) front later s
          (subst (λ ys. Chains own ys (e ∷ rest)) whole (subst (Chains own xs) us (h.chains own))) two.0 in
          let mine = (every_parts (λ z. is_named own e.reference z ≡ false) front (s ∷ back)
          (subst (AllByRecursion (λ z. is_named own e.reference z ≡ false)) is parts.0)).1.0 in
          let other = other_number own e.reference s two.0 mine in
          let hears_it : heard own later e ≡ true =
          list_any-append (is_named own e.reference) back (drop i xs)
          ∙ (ap (λ b. list_any (is_named own e.reference) back || b)
          (ap (list_any (is_named own e.reference)) (drop_more xs i d low)
          ∙ ap (λ b. b || list_any (is_named own e.reference) (drop (i + 1) xs)) named)
          ∙ or_true (list_any (is_named own e.reference) back)) in
          let tells_it : tells own later s.reference e ≡ true =
          ap (λ o. is_it o s.reference && heard own later e) q
          ∙ (ap (λ b. b && heard own later e) (eq-eqb n s.reference (sym same)) ∙ hears_it) in
          let now = goes_told (nat_eq e.reference s.reference)
          (tells own later s.reference e) _ _ other tells_it chain in
          ap (λ b. wire.is_immediate s.opcode || (b && is_below s.told (figure_told e)))
          (lt-ltb 0 (figure_told e) now.0)
          ∙ (ap (λ b. wire.is_immediate s.opcode || b) now.1 ∙ or_true (wire.is_immediate s.opcode))

  pub figure_right : has_figure xs (take i xs) a (polled_by (command_at xs i) a) ≡ true
  figure_right = grind (arith, told_right)
