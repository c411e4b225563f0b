-- What is known of the figures of a port's log, by one call.
use Rattle.mscp_logged.proofs.Common.{AllByRecursion, Bool, Call, End, First, HoldsAwaited, HoldsEnd, List, None, Nothing, Option, Own, PassesOn, Pending, Port, Said, Sent, Some, Volume, [], any_more, ap, arith, asked_by, asking, asks_oldest, begins, cond, eq-eqb, eqb-true, every_append, false, figure_on, filter, flat_map, four_in, has_number, held, inl, inr, list_any, map, may_be, nat_eq, none-some, none_of_it, not, num, of, other_number, own_answer, pending_end, pending_held, pending_in, refl, said_in, sent_by, slice_index, sole_left, some_none, subst, sym, timed, true, ℕ, ◌++◌, ◌<◌, ◌∙◌, ◌∷◌, ◌≡◌, ◌≢◌, ◌≤◌, ◌⊎◌, port_answers, is_transfer_opcode}
use Rattle.mscp_logged.proofs.Polled.{AreFigured, IsBelow, IsFigured, IsPolled, Lowers, asked_right, figure_more, figure_of, figured_still}
use Rattle.mscp_logged.proofs.Wired.{AreOwed, Wired, named, none_any as no_command}

-- ---- what comes

figure_behind : (n : ℕ) (es more : List Pending) → figure_of n es ≡ None
    → figure_of n (es ++ more) ≡ figure_of n more
figure_behind n [] more e = refl
figure_behind n (x ∷ es) more e = grind (arith, figure_behind n es more)

none_held : (n : ℕ) (es : List End) → filter (λ (e : End). nat_eq e.reference n) es ≡ []
    → figure_of n (map pending_end es) ≡ None
none_held n [] none = refl
none_held n (e ∷ es) none = grind (arith, none_held n es)

some_held : (n : ℕ) (es : List End) → filter (λ (e : End). nat_eq e.reference n) es ≢ []
    → (g : ℕ) × (figure_of n (map pending_end es) ≡ Some g)
some_held n [] some = absurd (some refl)
some_held n (e ∷ es) some = by (nat_eq e.reference n) some (some_held n es)
  where
    by : (b : Bool) → cond b (e ∷ filter (λ (e : End). nat_eq e.reference n) es)
        (filter (λ (e : End). nat_eq e.reference n) es) ≢ []
        → (filter (λ (e : End). nat_eq e.reference n) es ≢ []
        → (g : ℕ) × (figure_of n (map pending_end es) ≡ Some g))
        → (g : ℕ) × (cond b (Some (pending_end e).figure) (figure_of n (map pending_end es)) ≡ Some g)
    by true h rest = ((pending_end e).figure, refl)
    by false h rest = rest h

-- what goes out, and what waits in the controller
abbrev pub coming : {K : Type 0} → Port K → List Pending
coming p = flat_map pending_in (held p) ++ pending_held p

-- the port answers no poll itself
pub not_poll : (v : Option Volume) (t : List ℕ) (own : Own) → own_answer false v t ≡ Some own → slice_index t 8 ≡ 2 → ⊥
unfolding port_answers is_transfer_opcode
not_poll v t own answer = grind arith

-- ---- a call

module _ {K : Type 0} (Tie : List ℕ → List ℕ → Type 0) (call : Call) (old new : Port K) (xs : List Sent)
    (aw aw' : List (List ℕ)) (w : Wired Tie xs aw (held old)) (S : ℕ → Type 0) (S' : ℕ → Type 0)
    (holds : (n : ℕ) → HoldsAwaited old aw n) (holds' : (n : ℕ) → HoldsAwaited new aw' n)
    (passing : PassesOn call old new)
    (falls : (n : ℕ) → 1 ≤ figure_on old n → (figure_on new n ≤ figure_on old n)
    × (S' n → S n ⊎ (figure_on new n < figure_on old n)))
    (all : AreFigured xs (coming old) (figure_on old) S) where
  abbrev F : ℕ → ℕ
  F = figure_on old

  abbrev F' : ℕ → ℕ
  F' = figure_on new

  -- where none of a number is outstanding none waits, and none comes
  none_awaited : (n : ℕ) → filter (named n) xs ≡ [] → filter (has_number n) aw ≡ []
  none_awaited n none = grind arith

  outstanding_or : (n : ℕ) → list_any (named n) xs ≡ false → filter (named n) xs ≡ []
  outstanding_or n e = no_command (named n) xs e

  zero : (n : ℕ) → list_any (named n) xs ≡ false → F n ≡ 0
  zero n e = elim (low_or (F n)) [
    | inl none ↦ none
    | inr low ↦ absurd ((holds n).waits low (none_awaited n (outstanding_or n e)))
  ]
    where
      low_or : (k : ℕ) → (k ≡ 0) ⊎ (1 ≤ k)
      low_or k = search arith

  none_coming : (n : ℕ) → filter (named n) xs ≡ [] → figure_of n (coming old) ≡ None
  none_coming n none = figure_behind n (flat_map pending_in (held old)) (pending_held old) (out (held old) w.owed)
      ∙ none_held n (of First old.controller.untaken) (no_end (filter (λ (e : End). nat_eq e.reference n)
      (of First old.controller.untaken)) refl)
    where
      no_end : (es : List End) → filter (λ (e : End). nat_eq e.reference n) (of First old.controller.untaken) ≡ es
          → filter (λ (e : End). nat_eq e.reference n) (of First old.controller.untaken) ≡ []
      no_end [] e = e
      no_end (x ∷ es) e = absurd ((holds n).ended (λ h. some_none x es (sym e ∙ h)) (none_awaited n none))

      out : (us : List Said) → AreOwed Tie xs aw us
          → figure_of n (flat_map pending_in us) ≡ None
      out [] owed = refl
      out (u ∷ us) owed = grind (arith, out us owed.1, some_none, eqb-true)

  -- an end that the controller holds is held still, if it doesn't begin to go out
  still_held : (n : ℕ) → ((g : ℕ) → figure_of n (flat_map pending_in (map said_in (begins old.outgoing new.outgoing))
      ++ pending_held new) ≡ Some g → figure_of n (pending_held new) ≡ Some g) → HoldsEnd old n → HoldsEnd new n
  still_held n front there none =
      let x = some_held n (of First old.controller.untaken) there in
      none-some x.0 (sym (none_held n (of First new.controller.untaken) none) ∙ front x.0
      (ap (figure_of n) passing.behind ∙ figure_more n (pending_held old) passing.more x.0 x.1))

  pub lowers_by : (n : ℕ) → filter (has_number n) aw' ≡ filter (has_number n) aw
      → ((g : ℕ) → figure_of n (flat_map pending_in (map said_in (begins old.outgoing new.outgoing))
      ++ pending_held new) ≡ Some g → figure_of n (pending_held new) ≡ Some g)
      → Lowers F S F' S' n
  lowers_by n same front low =
      let was : 1 ≤ figure_on old n = elim ((holds n).there (λ none. (holds' n).waits low (same ∙ none))) [
        | inl x ↦ x
        | inr there ↦ absurd ((holds' n).one low (still_held n front there))
      ] in
      let f = falls n was in (was, f.0, f.1)

  -- nothing of a message, and no end begins to go out
  pub quiet_lowers : flat_map pending_in (map said_in (begins old.outgoing new.outgoing)) ≡ [] → (n : ℕ)
      → filter (has_number n) aw' ≡ filter (has_number n) aw → Lowers F S F' S' n
  quiet_lowers none n same = lowers_by n same (λ g e. ap (λ es. figure_of n (es ++ pending_held new)) (sym none) ∙ e)

  -- the end of a message does
  pub ending_lowers : (m : ℕ) (head : Pending) → flat_map pending_in (map said_in (begins old.outgoing new.outgoing))
      ≡ head ∷ [] → head.number ≡ m → aw' ≡ filter (λ t. not (has_number m t)) aw → (n : ℕ) → Lowers F S F' S' n
  ending_lowers m head begun number is n = by (nat_eq m n) refl
    where
      by : (b : Bool) → nat_eq m n ≡ b → Lowers F S F' S' n
      by true same low = absurd ((holds' n).waits low (ap (filter (has_number n)) is ∙ rw (← eqb-true m n same)
          (none_of_it (has_number m) aw)))
      by false apart low = grind (arith, lowers_by, sole_left, other_number)

  -- no message comes
  pub same_figured : ((n : ℕ) → Lowers F S F' S' n)
      → AllByRecursion (IsFigured xs (coming old ++ passing.more) F' S') xs
  same_figured lowers = figured_still F S F' S' xs xs (coming old) passing.more (λ n is. lowers n) (λ n is. is) all

  -- or one does
  module _ (timeout : Option ℕ) (t : List ℕ) (fresh : filter (named (num t 0 4)) xs ≡ [])
      (lowers : (n : ℕ) → list_any (named n) xs ≡ true → Lowers F S F' S' n) where
    abbrev y : Sent
    y = timed None (sent_by First t)

    abbrev x : Sent
    x = asking timeout xs (timed None (sent_by First t))

    abbrev xs' : List Sent
    xs' = xs ++ asking timeout xs (timed None (sent_by First t)) ∷ []

    others : AllByRecursion (IsFigured xs' (coming old ++ passing.more) F' S') xs
    others = grind (arith, figured_still, any_more)

    pub plain_figured : (slice_index t 8 ≡ 2 → ⊥)
        → AllByRecursion (IsFigured xs' (coming old ++ passing.more) F' S') xs'
    plain_figured never = grind (arith, every_append, others)

    pub poll_figured : ((other : ℕ) → slice_index t 8 ≡ 2 → four_in t 12 ≡ Some other
        → (passing.more ≡ record { number = num t 0 4; figure = F other } ∷ []) × (1 ≤ F other → S other)
        × (S' other → ⊥)) → AllByRecursion (IsFigured xs' (coming old ++ passing.more) F' S') xs'
    poll_figured takes = every_append (IsFigured xs' (coming old ++ passing.more) F' S') xs (x ∷ []) others (
      record { via = refl; told = λ l e. absurd (none-some l e); poll = polled },
      tt,
    )
      where
        polled : slice_index t 8 ≡ 2 → (other : ℕ) → four_in t 12 ≡ Some other
            → IsPolled xs' (coming old ++ passing.more) F' S' x other
        polled code other parameter =
            let k = takes other code parameter in
            let asked : asked_by timeout xs y (Some other) ≡ x.asked =
            sym (ap (λ b. cond b (asked_by timeout xs y y.parameter) Nothing)
            (eq-eqb (slice_index t 8) 2 code) ∙ ap (asked_by timeout xs y) parameter) in
            let r = asked_right F S F' S' xs xs' (coming old) all timeout zero lowers
            (λ n is. any_more (named n) xs (x ∷ []) is) other k.1 k.2 y refl in
            record {
              figure = F other;
              comes = figure_behind (num t 0 4) (coming old) passing.more (none_coming (num t 0 4) fresh)
                  ∙ ap (figure_of (num t 0 4)) k.0
                  ∙ ap (λ b. cond b (Some (F other)) None) (eq-eqb (num t 0 4) (num t 0 4) refl);
              right = subst (λ a. (F other ≡ 0) ⊎ (may_be a false (F other) ≡ true)) asked r.0;
              oldest = subst (λ a. asks_oldest a ≡ true → (list_any (named other) xs' ≡ true)
                  × IsBelow F' S' other (F other)) asked r.1;
            }
