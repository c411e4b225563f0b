-- After each call of a port no end that waits has passed a command that it had to wait for.
use Rattle.mscp_logged.proofs.Common.{Action, AllByRecursion, At, Block, Bool, Call, Command, Connection, Decided, Dies, Drive, End, First, Fitting, Goes, Holdings, IsNoReset, IsOf, IsServable, IsUnitIn, Kept, List, Next, None, Ok, Option, Outcome, Port, Record, Serves, Settings, Some, Stays, TakesEnd, Verdict, Wants, Went, [], advanced, and_parts, ap, append-nil, append_assoc, arith, block_told, brought_for, cond, decided_by, drive_in, drop, drop_more, end_given, end_number, end_served, ended_none, ends_begun, ends_of, ends_said_by, eq-eqb, false, fences, filter, filter-append, first_of_one, has_number, inl, inr, is_affordable, is_dead, is_in_service, is_numbered, is_same, is_some, left_awaited, length, list_all, map, name_of, name_on, nat_eq, nat_lt, not, nothing_two, num, record_at, refl, said, says_is, served_goes_on, served_itself, served_other, served_waits, serves_grow, since, some_none, step_charge, still_none, subst, sym, take, take-append-drop, taken_by, this_one, true, unit_found, waiting_after, went_is, whole, without_ends, ℕ, ◌++◌, ◌+◌, ◌∙◌, ◌∷◌, ◌≡◌, ◌≤◌, ◌⊎◌}
use Rattle.mscp_logged.proofs.Clear.{AreClear, IsGood, Ordered, is_ended, ordered_as, ordered_forgotten, ordered_stepped, ordered_taken, some_ended, unended}
use Rattle.mscp_logged.proofs.Fences.{IsWaiting, serves_free}
use Rattle.mscp_logged.proofs.Passes.{overtakes}
use Rattle.mscp_logged.proofs.Queueing.{behind_served}

abbrev pub OrderedIn : Settings → {K : Type 0} → Port K → List (List ℕ) → Type 0
OrderedIn c p aw = Ordered c aw p.controller.waiting (ends_of p.controller) p.decided.items

-- ---- the messages

module _ {c : Settings} {Told : Verdict → Record → Type 0} {K : Type 0} (p : Port K) (aw : List (List ℕ))
    (k : Kept p aw) (f : Fitting c Told p aw) where
  abbrev rs : List Record
  rs = p.controller.waiting

  abbrev es : List End
  es = ends_of p.controller

  abbrev IsHere : List ℕ → Type 0
  IsHere t = IsWaiting rs t ⊎ (is_ended es t ≡ true)

  here_or : (front : List (List ℕ)) (t : List ℕ) (back : List (List ℕ)) → aw ≡ front ++ t ∷ back
      → At aw rs es (num t 0 4) → IsHere t
  here_or front t back e at = by at
    where
      n : ℕ
      n = num t 0 4

      mine : has_number n t ≡ true
      mine = eq-eqb (num t 0 4) (num t 0 4) refl

      by : At aw rs es n → IsHere t
      by (inl none) = grind (arith, n, nothing_two, filter-append)
      by (inr (inl w)) =
          let same = (this_one (has_number n) front back t w.text (ap (filter (has_number n)) (sym e) ∙ w.message)
          mine).1 in
          let x = (f.kept n).own w.own w.text w.sole w.message in
          inl (record {
            own = w.own;
            sole = w.sole;
            unit = subst (λ z. IsUnitIn w.own.command.unit z) (sym same) x.2.unit;
            of = subst (λ z. IsOf w.own z) (sym same) x.2.of;
          })
      by (inr (inr x)) = inr (some_ended t es x.end x.sole)

  each_here : (front back : List (List ℕ)) → aw ≡ front ++ back → AllByRecursion IsHere back
  each_here front [] e = tt
  each_here front (t ∷ back) e = (
    here_or front t back e (k.each (num t 0 4)),
    each_here (front ++ t ∷ []) back (e ∙ sym (append_assoc front (t ∷ []) back)),
  )

  pub all_waiting : AllByRecursion (IsWaiting rs) (unended es aw)
  all_waiting = left aw (each_here [] aw refl)
    where
      left : (ts : List (List ℕ)) → AllByRecursion IsHere ts → AllByRecursion (IsWaiting rs) (unended es ts)
      left [] all = tt
      left (t ∷ ts) all = grind (arith, left ts all.1)

-- ---- calls

module _ {c : Settings} {K : Type 0} (call : Call) (old new : Port K) (aw : List (List ℕ)) (o : OrderedIn c old aw)
    (calm : IsNoReset call) where
  abbrev So : Type 0
  So = OrderedIn c new (since new.stage call (without_ends (ends_said_by call old new) aw) (taken_by call old))

  pub became : (xs : List (List ℕ)) → without_ends (ends_said_by call old new) aw ++ taken_by call old ≡ xs
      → OrderedIn c new xs → So
  became xs e x = subst (λ z. OrderedIn c new z) (sym (calm.texts new.stage _ _)) (by (is_dead new.stage))
    where
      by : (b : Bool) → OrderedIn c new (cond b [] (without_ends (ends_said_by call old new) aw ++ taken_by call old))
      by true = ordered_forgotten c xs new.controller.waiting (ends_of new.controller) new.decided.items x
      by false = subst (λ z. OrderedIn c new z) (sym e) x

  pub died : Dies old new → So
  died d = grind arith

  pub unchanged : ends_said_by call old new ≡ [] → taken_by call old ≡ []
      → new.controller.waiting ≡ old.controller.waiting → ends_of new.controller ≡ ends_of old.controller
      → new.decided.items ≡ old.decided.items → So
  unchanged said taken waiting ends decided = grind (arith, became, append-nil, ordered_as)

  pub stays : ends_said_by call old new ≡ [] → taken_by call old ≡ [] → Stays old new → So
  stays said taken either = grind (arith, died, unchanged)

-- ---- an end is taken

module _ {c : Settings} {Told : Verdict → Record → Type 0} {K : Type 0} (blocks : Bool) (action : Action)
    (bytes : List ℕ) (old new : Port K) (aw : List (List ℕ))
    (k : Kept old aw) (f : Fitting c Told old aw) (o : OrderedIn c old aw) (picks : List _ → ℕ → Type 0)
    (r : Wants picks blocks old action new) where
  abbrev Then : Type 0
  Then = OrderedIn c new (since new.stage (Next blocks action bytes)
      (without_ends (ends_begun old.outgoing new.outgoing) aw) [])

  calm : IsNoReset (Next blocks action bytes)
  calm = record { texts = λ s xs ys. refl }

  taken : TakesEnd old new → Then
  taken t =
      let e = t.out.0 in
      let es = drop 1 (ends_of old.controller) in
      let is : ends_of old.controller ≡ e ∷ es = whole k t in
      became (Next blocks action bytes) old new aw o calm (filter (λ x. not (has_number e.reference x)) aw)
      (left_awaited k t)
      (ordered_as c (filter (λ x. not (has_number e.reference x)) aw) old.controller.waiting new.controller.waiting es
      (ends_of new.controller) (drop 1 old.decided.items) new.decided.items
      (ap (λ (h : Holdings K). h.waiting) t.controller) (ap (λ (h : Holdings K). ends_of h) t.controller) t.decided
      (ordered_taken c aw old.controller.waiting e es old.decided.items (sym (ap length is) ∙ f.long)
      (subst (λ xs. Ordered c aw old.controller.waiting xs old.decided.items) is o)))

  pub next_ordered : Then
  next_ordered = elim (says_is old new r.says) [
    | inl x ↦ taken x.0
    | inr n ↦ unchanged (Next blocks action bytes) old new aw o calm n.begun refl
        (ap (λ (h : Holdings K). h.waiting) n.controller) (ap (λ (h : Holdings K). ends_of h) n.controller)
        (ap (λ d. d.items) n.decided)
  ]

-- ---- a step

module _ {c : Settings} {Told : Verdict → Record → Type 0} {K : Type 0} (old : Port K) (aw : List (List ℕ))
    (k : Kept old aw) (f : Fitting c Told old aw) (o : OrderedIn c old aw) (b : Block) (d : Drive) (budget : ℕ)
    (place : ℕ) (can : IsServable budget old.controller.waiting place) where
  abbrev waiting : List Record
  waiting = old.controller.waiting

  abbrev r0 : Record
  r0 = record_at old.controller.waiting place

  abbrev left : List (List ℕ)
  left = unended (ends_of old.controller) aw

  parts : take place waiting ++ r0 ∷ drop (place + 1) waiting ≡ waiting
  parts = grind (arith, drop_more, take-append-drop)

  sole_of : (n : ℕ) → is_numbered n r0 ≡ true → filter (is_numbered n) waiting ≡ r0 ∷ []
  sole_of n mine = grind (arith, served_waits, served_itself)

  -- what is served passes none
  serves : (n : ℕ) → is_numbered n r0 ≡ true → overtakes n left ≡ false
  serves n mine = by (is_in_service r0) refl
    where
      fresh : (x : ℕ) → nat_lt 0 x ≡ false → nat_eq x 0 ≡ true
      fresh x e = search (arith, e)

      by : (s : Bool) → is_in_service r0 ≡ s → overtakes n left ≡ false
      by true s = (o.own n r0 (sole_of n mine)).served s
      by false s = serves_free waiting (take place waiting) r0 (drop (place + 1) waiting) (sym parts) n mine
          (and_parts (list_all (λ z. not (fences r0 z)) (take place waiting))
          (is_affordable budget r0 (take place waiting)) (can.opens (fresh r0.done s))).0 left o.lined
          (all_waiting old aw k f)

  still_good : (n : ℕ) (r : Record) → filter (is_numbered n) (waiting_after b d waiting place) ≡ r ∷ []
      → IsGood c left n r
  still_good n r e = by (is_numbered n r0) refl (k.each n)
    where
      none : filter (is_numbered n) waiting ≡ [] → IsGood c left n r
      none h = absurd (some_none r [] (sym e ∙ still_none n b d waiting place can.inside h))

      ended : is_numbered n r0 ≡ true → (x : Option End) → end_given b d r0 ≡ x → IsGood c left n r
      ended mine None given =
          let same : advanced r0 ≡ r = (first_of_one (advanced r0) r [] (sym (served_goes_on n b d waiting place
          can.inside r0 (sole_of n mine) mine given) ∙ e)).0 in
          subst (λ z. IsGood c left n z) same
          (record { known = (o.own n r0 (sole_of n mine)).known; served = λ s. serves n mine })
      ended mine (Some x) given = absurd (some_none r []
          (sym e ∙ ended_none n b d waiting place can.inside r0 x (sole_of n mine) mine given))

      by : (m : Bool) → is_numbered n r0 ≡ m → At aw waiting (ends_of old.controller) n → IsGood c left n r
      by true mine at = ended mine (end_given b d r0) refl
      by false other (inl z) = none z.1
      by false other (inr (inr x)) = none x.none
      by false other (inr (inl w)) =
          let s = served_other n b d waiting place can.inside w.own w.sole other in
          let same : s.0 ≡ r = (first_of_one s.0 r [] (sym s.1 ∙ e)).0 in
          let good = o.own n w.own w.sole in
          subst (λ z. IsGood c left n z) same (record {
            known = subst (λ (x : Command). is_some (unit_found c.units x.unit) ≡ true) (sym s.2.command) good.known;
            served = λ h. good.served (subst (λ x. nat_lt 0 x ≡ true) s.2.done h);
          })

  pub step_ordered : (made : End → Decided) → Ordered c aw (waiting_after b d waiting place)
      (ends_of old.controller ++ brought_for r0.connection (end_given b d r0))
      (old.decided.items ++ map made (brought_for r0.connection (end_given b d r0)))
  step_ordered made = ordered_stepped c aw waiting (ends_of old.controller) old.decided.items o
      (waiting_after b d waiting place) (brought_for r0.connection (end_given b d r0))
      (map made (brought_for r0.connection (end_given b d r0))) f.long (λ x y h. behind_served x y (step_charge r0)
      (take place waiting) r0 (drop (place + 1) waiting) (end_given b d r0) (rw parts h)) still_good
      (by r0.connection (end_given b d r0) refl refl)
    where
      mine : (e : End) → r0.connection ≡ First → end_given b d r0 ≡ Some e → is_numbered e.reference r0 ≡ true
      mine e via given = subst (λ n. is_numbered n r0 ≡ true) (sym (end_number b d r0 e given))
          (is_same (name_of r0) (name_on First r0.command.reference) (ap (λ y. name_on y r0.command.reference) via))

      by : (via : Connection) (x : Option End) → r0.connection ≡ via → end_given b d r0 ≡ x
          → AreClear left (brought_for via x) (map made (brought_for via x))
      by via x at given = grind (arith, serves, mine)

module _ {c : Settings} {Told : Verdict → Record → Type 0} {K : Type 0} (picks : List _ → ℕ → Type 0)
    (outcome : Outcome) (done : Unit) (old new : Port K)
    (aw : List (List ℕ)) (k : Kept old aw) (f : Fitting c Told old aw) (o : OrderedIn c old aw)
    (r : Goes picks outcome old (Ok done) new) (few : length (ends_of new.controller) ≤ 64) where
  abbrev Behind : Type 0
  Behind = OrderedIn c new (since new.stage (Went outcome (Ok done)) aw [])

  calm_went : IsNoReset (Went outcome (Ok done))
  calm_went = record { texts = λ s xs ys. refl }

  serves_so : (verdict : Verdict) → Serves verdict old new → Behind
  serves_so verdict s =
      let d = drive_in old s.place in
      let r = record_at old.controller.waiting s.place in
      let brought = brought_for r.connection (end_served verdict old s.place) in
      became (Went outcome (Ok done)) old new aw o calm_went aw (append-nil aw)
      (ordered_as c aw (waiting_after (block_told verdict) d old.controller.waiting s.place) new.controller.waiting
      (ends_of old.controller ++ brought) (ends_of new.controller)
      (old.decided.items ++ map (decided_by verdict old new) brought) new.decided.items s.waiting s.ends
      (serves_grow s f.long few).decided
      (step_ordered old aw k f o (block_told verdict) d old.controller.settings.budget s.place s.servable
      (decided_by verdict old new)))

  pub went_ordered : Behind
  went_ordered = elim (went_is picks outcome done old new r) [
    | inl s ↦ serves_so s.0 s.2
    | inr more ↦ elim more [
      | inl n ↦ stays (Went outcome (Ok done)) old new aw o calm_went refl refl (inl n.0)
      | inr d ↦ died (Went outcome (Ok done)) old new aw o calm_went d
    ]
  ]
