-- A serial is given once: each call leaves what is begun, or lets it go, or gives the next serial where nothing was
-- begun.
use Rattle.mscp_ported.proofs.Common.{Answered, Becomes, Bool, Call, Choice, End, Err, Finishes, First, Foretells, Goes, Hears, Holdings, IsAlive, IsAsNew, IsOfBlock, List, MatchOption, Name, Next, None, NotBegun, Ok, Option, Outcome, Picking, Port, ReadIp, Report, Result, Says, Some, Stage, TakesBegun, TakesBlock, Task, Upcoming, Verdict, WasRead, Wants, Went, WriteIp, WriteSa, [], after_message, ap, arith, begun_step, block_begun, block_served, block_told, eqb-true, false, false≢true, handed, inl, inr, length, name_of, name_on, nat_eq, none-some, own_end_of, record_at, refl, same_is, subst, sym, true, upcoming_begun, ℕ, ◌+◌, ◌<◌, ◌^◌, ◌∙◌, ◌∷◌, ◌≡◌, ◌≤◌, ◌⊎◌}
use Rattle.mscp_ported.proofs.Loads.{looks_or_not}
use Rattle.std.specs.Prelude.{MatchBool}
use Rattle.mscp_port.specs.Calls.{GoesBy}
use Rattle.mscp_port.specs.Serials.{is_of_serial, next_serial, serial_after}
use Rattle.mscp_port.specs.declared.stage.Stage.TheVariants as stages
use Rattle.mscp_port.specs.declared.task.Task.TheVariants as tasks
use Rattle.mscp_tracked.proofs.Begun.{message_stays, message_unbegun, step_unbegun}
use Rattle.mscp_ported.specs.Serials.{IsBegunStill}
use Rattle.mscp_ported.proofs.Minor.{GivesUp, Minor, Mounts, PutsAside, ReadsAgain, Still, minor}
use Rattle.mscp_ported.proofs.Wanting.{alive_or_dead}

-- ---- one call

-- the serial stays, and what is begun is begun still, or nothing is
pub record Keeps {K : Type 0} (old new : Port K) : Type 0 where
  pub serial : new.serial ≡ old.serial
  pub stays : (u : Upcoming) → begun_step old.controller ≡ Some u
      → (begun_step new.controller ≡ Some u) ⊎ (new.controller.begun ≡ None)
  pub none : old.controller.begun ≡ None → new.controller.begun ≡ None

-- or nothing was begun, and the next one is given
abbrev pub Advances : {K : Type 0} → Port K → Port K → Type 0
Advances old new = Keeps old new ⊎ ((old.controller.begun ≡ None) × (new.serial ≡ next_serial old.serial))

-- where nothing is begun no step is
pub no_step : {K : Type 0} (h : Holdings K) (u : Upcoming) → h.begun ≡ None → begun_step h ≡ Some u → ⊥
no_step h u none is = none-some u (sym (ap (upcoming_begun h.drives h.waiting) none) ∙ is)

same : {K : Type 0} (old new : Port K) → new.serial ≡ old.serial → new.controller ≡ old.controller → Keeps old new
same {K} old new serial c = record {
  serial = serial;
  stays = λ u is. inl (ap (λ (h : Holdings K). begun_step h) c ∙ is);
  none = λ none. ap (λ (h : Holdings K). h.begun) c ∙ none;
}

let_go : {K : Type 0} (old new : Port K) → new.serial ≡ old.serial → new.controller.begun ≡ None → Keeps old new
let_go old new serial none = record { serial = serial; stays = λ u is. inr none; none = λ was. none }

forgotten : {K : Type 0} (s : Stage) (old new : Port K) → IsAsNew s old new → Keeps old new
forgotten {K} s old new n = let_go old new n.serial (ap (λ (h : Holdings K). h.begun) n.controller)

as_it_was : {K : Type 0} (old new : Port K) → new ≡ old → Keeps old new
as_it_was {K} old new e = same old new (ap (λ (p : Port K). p.serial) e) (ap (λ (p : Port K). p.controller) e)

by_minor : {K : Type 0} (old new : Port K) → Minor old new → Keeps old new
by_minor {K} old new (Still e) = as_it_was old new e
by_minor {K} old new (PutsAside e) = same old new (ap (λ p. p.serial) e) (ap (λ p. p.controller) e)
by_minor {K} old new (ReadsAgain left e) = same old new (ap (λ p. p.serial) e) (ap (λ p. p.controller) e)
by_minor {K} old new (Mounts becomes place e) = same old new (ap (λ p. p.serial) e) (ap (λ p. p.controller) e)
by_minor old new (GivesUp d) = forgotten (stages.Dead 9) old new d

-- ---- what is wanted

-- what was begun is begun once more
begun_again : {K : Type 0} (picks : List Choice → ℕ → Type 0) (held new : Holdings K) (o : Option Upcoming)
    (name : Name) → held.begun ≡ Some name → Foretells picks held o new → new.begun ≡ Some name
begun_again picks held new None name was f = absurd (none-some name (sym f.begins.1 ∙ was))
begun_again picks held new (Some u) name was f =
    let b = f.begins.1 in
    ap (λ l. l.begun) b.left
    ∙ ap Some (same_is (name_of (record_at held.waiting f.begins.0)) name (b.next.same name was))

-- the commands that wait, and the drives, stay
pub record HasLines {K : Type 0} (old new : Port K) : Type 0 where
  pub waiting : new.controller.waiting ≡ old.controller.waiting
  pub drives : new.controller.drives ≡ old.controller.drives

says_lines : {K : Type 0} (old new : Port K) → Says old new → HasLines old new
says_lines {K} old new says = elim (looks_or_not old) [
  | inl looks ↦ elim (says.looks looks) [
    | inl t ↦ record { waiting = ap (λ h. h.waiting) t.controller; drives = ap (λ h. h.drives) t.controller }
    | inr n ↦ record { waiting = ap (λ h. h.waiting) n.controller; drives = ap (λ h. h.drives) n.controller }
  ]
  | inr never ↦
      let k = (says.keeps never).controller in
      record { waiting = ap (λ h. h.waiting) k; drives = ap (λ h. h.drives) k }
]

module _ {K : Type 0} (picks : List Choice → ℕ → Type 0) (blocks : Bool) (old new : Port K) (action : _)
    (r : Wants picks blocks old action new) where
  -- what was begun stays begun
  begun_stays : (name : Name) → old.controller.begun ≡ Some name → new.controller.begun ≡ old.controller.begun
  begun_stays name was = elim (alive_or_dead old old.stage refl) [
    | inr dead ↦ ap (λ (p : Port K). p.controller.begun) (r.dead dead.0 dead.1).1
    | inl alive ↦ by alive old.task refl
  ]
    where
      of_block : IsAlive old → old.task ≡ tasks.Free → IsOfBlock new.task
          → new.controller.begun ≡ old.controller.begun
      of_block alive free is =
          let b = (r.begins alive free is).begun in
          let held : b.0.begun ≡ Some name = elim b.2 [
            | inl e ↦ ap (λ (h : Holdings K). h.begun) e ∙ was
            | inr e ↦ ap (λ (h : Holdings K). h.begun) e ∙ was
          ] in
          begun_again picks b.0 new.controller b.1 name held b.3 ∙ sym was

      taken : IsAlive old → old.task ≡ tasks.Free → (t : Task) → new.task ≡ t
          → new.controller.begun ≡ old.controller.begun
      taken alive free (tasks.Step verdict) is = of_block alive free (subst (λ t. IsOfBlock t) (sym is) tt)
      taken alive free tasks.Transfer is = of_block alive free (subst (λ t. IsOfBlock t) (sym is) tt)
      taken alive free t is = r.begun (λ of. subst (λ t. IsOfBlock t) is of)

      by : IsAlive old → (t : Task) → old.task ≡ t → new.controller.begun ≡ old.controller.begun
      by alive tasks.Free at = taken alive at new.task refl
      by alive t at =
          ap (λ (p : Port K). p.controller.begun) (r.goes_on (λ free. search (arith, at, free)))

  step_stays : new.controller.begun ≡ old.controller.begun → begun_step new.controller ≡ begun_step old.controller
  step_stays e =
      let lines = says_lines old new r.says in
      λ i. upcoming_begun (lines.drives i) (lines.waiting i) (e i)

  wanted : Advances old new
  wanted = by old.controller.begun refl new.controller.begun refl
    where
      by : (b : Option Name) → old.controller.begun ≡ b → (c : Option Name) → new.controller.begun ≡ c
          → Advances old new
      by (Some name) was c is = inl (record {
        serial = r.serial ∙ ap (λ b. serial_after b new.controller.begun old.serial) was;
        stays = λ u step. inl (step_stays (begun_stays name was) ∙ step);
        none = λ none. absurd (none-some name (sym none ∙ was));
      })
      by None none None not =
          inl (let_go old new (r.serial ∙ λ i. serial_after (none i) (not i) old.serial) not)
      by None none (Some name) is = inr (none, r.serial ∙ λ i. serial_after (none i) (is i) old.serial)

-- ---- what was read

module _ {K : Type 0} (bytes : List ℕ) (done : Unit {0}) (old new : Port K) (r : Hears bytes old (Ok done) new) where
  -- the controller gets a message
  got : (b : List ℕ) → new.controller ≡ after_message First old.controller b → Keeps old new
  got b e = record {
    serial = r.serial;
    stays = λ u is. elim (message_stays old.controller First u b is) [
      | inl s ↦ inl (ap (λ (h : Holdings K). begun_step h) e ∙ s.1)
      | inr s ↦ inr (ap (λ (h : Holdings K). h.begun) e ∙ s.1)
    ];
    none = λ none. ap (λ (h : Holdings K). h.begun) e ∙ message_unbegun old.controller First b none;
  }

  was_read : Keeps old new
  was_read = by old.task refl
    where
      text : (slot : _) (size : ℕ) (foreign : Bool) → old.task ≡ tasks.Text slot size foreign → (o : Option End)
          → own_end_of old foreign bytes ≡ o → Keeps old new
      text slot size foreign at None own =
          got (handed old.controller.settings.units bytes) (r.handed slot size foreign at refl own)
      text slot size foreign at (Some e) own =
          same old new r.serial (r.own slot size foreign at (λ none. none-some e (sym none ∙ own)))

      other : (t : Task) → old.task ≡ t
          → (new.controller ≡ old.controller) ⊎ ((code : ℕ) × IsAsNew (stages.Dead code) old new) → Keeps old new
      other t at (inl e) = same old new r.serial e
      other t at (inr d) = forgotten (stages.Dead d.0) old new d.1

      by : (t : Task) → old.task ≡ t → Keeps old new
      by (tasks.Text slot size foreign) at = text slot size foreign at (own_end_of old foreign bytes) refl
      by t at = other t at (r.nothing_else (λ is. search (arith, at, is)))

-- ---- what went

-- the controller was told of a step, if one was begun
takes : {K : Type 0} (picks : List Choice → ℕ → Type 0) (verdict : Verdict) (old new : Port K)
    → new.serial ≡ old.serial → TakesBegun picks verdict old new → Keeps old new
takes {K} picks verdict old new serial t = by old.controller.begun t
  where
    finished : (name : Name) (result : Result Report NotBegun)
        → Finishes picks name (block_told verdict) old.controller result new.controller → Keeps old new
    finished name (Ok report) f = let_go old new serial (step_unbegun picks _ old.controller report new.controller f.1)
    finished name (Err not_begun) f = same old new serial f.1

    by : (b : Option Name) → MatchOption b (new ≡ record old { task = tasks.Free })
        (λ name. TakesBlock picks name.connection name.reference verdict old new) → Keeps old new
    by None e = same old new serial (ap (λ p. p.controller) e)
    by (Some name) b = finished (name_on name.connection name.reference) b.finished.0 b.finished.1

went : {K : Type 0} (picks : List Choice → ℕ → Type 0) (outcome : Outcome) (done : Unit {0}) (old new : Port K)
    → Goes picks outcome old (Ok done) new → Keeps old new
went {K} picks outcome done old new r = elim r.commands [
  | inl kept ↦ same old new r.serial kept.controller
  | inr (inl step) ↦ takes picks step.1.0 old new r.serial step.1.1
  | inr (inr d) ↦ forgotten (stages.Dead d.0) old new d.1
]

-- ---- any call

module _ {K : Type 0} (picks : Picking K) where
  reads_ip : (old new : Port K) → Becomes picks ReadIp old new → Keeps old new
  reads_ip old new r = elim r.frame [
    | inl e ↦ same old new (ap (λ p. p.serial) e) (ap (λ p. p.controller) e)
    | inr d ↦ forgotten (stages.Dead d.0) old new d.1
  ]

  writes_sa : (word : ℕ) (old new : Port K) → Becomes picks (WriteSa word) old new → Keeps old new
  writes_sa word old new r = elim r.frame [
    | inl e ↦ same old new (ap (λ p. p.serial) e) (ap (λ p. p.controller) e)
    | inr d ↦ forgotten (stages.Dead d.0) old new d.1
  ]

  advances : (call : Call) (old new : Port K) → Becomes picks call old new → Advances old new
  advances WriteIp old new r = inl (forgotten stages.First old new r)
  advances ReadIp old new r = inl (reads_ip old new r)
  advances (WriteSa word) old new r = inl (writes_sa word old new r)
  advances (Next blocks action bytes) old new r = wanted (picks old.controller.picker) blocks old new action r.0
  advances (WasRead bytes (Ok done)) old new r = inl (was_read bytes done old new r)
  advances (Went outcome (Ok done)) old new r = inl (went (picks old.controller.picker) outcome done old new r)
  advances call old new r = inl (by_minor old new (minor picks call old new r tt))

  -- ---- a history

  module _ (u : Upcoming) (one : Port K) (is : begun_step one.controller ≡ Some u) where
    -- the step is begun behind the last call
    last_begun : (other : Port K) (calls : List Call) (a : Answered picks one calls other)
        → IsBegunStill picks u one other calls a → begun_step other.controller ≡ Some u
    last_begun other [] a still = still
    last_begun other (call ∷ earlier) a still = still.0

    -- it is begun still, or nothing is and its serial was given last, or a later one was given
    abbrev IsWhere : (other : Port K) (calls : List Call) → Answered picks one calls other → Type 0
    IsWhere other calls a = (IsBegunStill picks u one other calls a × (other.serial ≡ one.serial))
        ⊎ ((other.controller.begun ≡ None) × (other.serial ≡ one.serial)) ⊎ (one.serial < other.serial)

    record Walked (other : Port K) (calls : List Call) (a : Answered picks one calls other) : Type 0 where
      at : IsWhere other calls a
      high : other.serial ≤ one.serial + length calls

    step : (call : Call) (earlier : List Call) (other : Port K) (a : Answered picks one (call ∷ earlier) other)
        → one.serial + length (call ∷ earlier) < 2 ^ 64 → Walked a.0 earlier a.1 → Advances a.0 other
        → Walked other (call ∷ earlier) a
    step call earlier other a few w (inl k) = record {
      at = elim w.at [
        | inl still ↦ elim (k.stays u (last_begun a.0 earlier a.1 still.0)) [
          | inl now ↦ inl ((now, still.0), k.serial ∙ still.1)
          | inr none ↦ inr (inl (none, k.serial ∙ still.1))
        ]
        | inr (inl gone) ↦ inr (inl (k.none gone.0, k.serial ∙ gone.1))
        | inr (inr later) ↦ inr (inr (omega (arith, later, k.serial)))
      ];
      high = omega (arith, k.serial, w.high);
    }
    step call earlier other a few w (inr n) = record {
      at = elim w.at [
        | inl still ↦ absurd (no_step a.0.controller u n.0 (last_begun a.0 earlier a.1 still.0))
        | inr (inl gone) ↦ inr (inr (omega (arith, n.1, gone.1, few)))
        | inr (inr later) ↦ inr (inr (omega (arith, n.1, later, few, w.high)))
      ];
      high = omega (arith, n.1, few, w.high);
    }

    walk : (calls : List Call) (other : Port K) (a : Answered picks one calls other)
        → one.serial + length calls < 2 ^ 64 → Walked other calls a
    walk [] other a few = record {
      at = inl (ap (λ (p : Port K). begun_step p.controller) a ∙ is, ap (λ (p : Port K). p.serial) a);
      high = omega (arith, ap (λ (p : Port K). p.serial) a);
    }
    walk (call ∷ earlier) other a few =
        step call earlier other a few (walk earlier a.0 a.1 (omega (arith, few))) (advances call a.0 other a.2)

    pub given_once : (calls : List Call) (other : Port K) → one.serial + length calls < 2 ^ 64
        → (a : Answered picks one calls other) → other.serial ≡ one.serial
        → IsBegunStill picks u one other calls a ⊎ (other.controller.begun ≡ None)
    given_once calls other few a same = elim (walk calls other a few).at [
      | inl still ↦ inl still.0
      | inr (inl gone) ↦ inr gone.0
      | inr (inr later) ↦ absurd (omega (arith, later, same))
    ]

  -- ---- a block by its serial

  -- a report by serial that was taken is of the block in hand, which has that serial
  of_serial : (G : Type 0) (X : Type 0) (serial : ℕ) (t : Task) (last : ℕ)
      → MatchBool (is_of_serial serial t last) G ((false ≡ true) × X)
      → (t ≡ tasks.Transfer) × (last ≡ serial) × G
  of_serial G X serial tasks.Transfer last g = by (nat_eq last serial) refl g
    where
      by : (b : Bool) → nat_eq last serial ≡ b → MatchBool b G ((false ≡ true) × X)
          → (tasks.Transfer ≡ tasks.Transfer) × (last ≡ serial) × G
      by true e g = (refl, eqb-true last serial e, g)
      by false e none = absurd (false≢true none.0)
  of_serial G X serial t last none = absurd (false≢true none.0)

  pub heard_of : (one other new : Port K) (calls : List Call) (u : Upcoming) (outcome : Outcome) (done : Unit {0})
      → one.serial + length calls < 2 ^ 64 → begun_step one.controller ≡ Some u → (a : Answered picks one calls other)
      → GoesBy (picks other.controller.picker) one.serial outcome other (Ok done) new
      → IsBegunStill picks u one other calls a ⊎ (new.controller ≡ other.controller)
  heard_of one other new calls u outcome done few is a g =
      let so = of_serial (Goes (picks other.controller.picker) outcome other (Ok done) new) (new ≡ other) one.serial
      other.task other.serial g in
      elim (given_once u one is calls other few a so.1) [
        | inl still ↦ inl still
        | inr none ↦ inr (ap (λ (p : Port K). p.controller)
            (subst (λ b. MatchOption b (new ≡ record other { task = tasks.Free }) (λ name.
            TakesBlock (picks other.controller.picker) name.connection name.reference
            (block_served other outcome (block_begun other)) other new)) none
            ((so.2.moves refl).transfer so.0)))
      ]
