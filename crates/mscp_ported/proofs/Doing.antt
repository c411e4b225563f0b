-- By each action that is done fewer are left before what goes out is gone, or before an end that waits begins to.
use Rattle.mscp_ported.proofs.Common.{Becomes, Bool, Call, Choice, Commands, Descriptor, End, Goes, Hears, IsForgotten, IsGiven, IsSomeAnd, IsStepping, List, Next, None, Ok, Option, Outcome, Outgoing, Picking, Port, ReadIp, Responses, Rings, Side, Some, Task, WasRead, Went, WriteIp, WriteSa, [], acts, ap, arith, aside, block_told, cond, end_brought, end_bytes, end_kind, false, handed, hears_of, inl, inr, is_flagged, is_owned, length, length-append, none-some, not, num, own_end_of, read_again, refl, slots_of, step_at, subst, sym, taken_or_not, true, ℕ, ◌++◌, ◌+◌, ◌<◌, ◌==◌, ◌∙◌, ◌∷◌, ◌≡◌, ◌≢◌, ◌≤◌, ◌⊎◌}
use Rattle.mscp_ported.proofs.Said.{none_or_some}
use Rattle.mscp_controller.specs.declared.entry.Sent.TheVariants as sents
use Rattle.mscp_port.specs.declared.stage.Stage.TheVariants as stages
use Rattle.mscp_port.specs.declared.task.Task.TheVariants as tasks
use Rattle.mscp_ported.proofs.Coming.{brings, brought_for, ends_of, steps_bring}
use Rattle.mscp_ported.proofs.Deeds.{Deed, Eases, Fails, GivesSlot, IsClear, IsEased, ServesStep, StepsOn, WritesPacket, deed, stepping}
use Rattle.mscp_ported.proofs.Minor.{GivesUp, Minor, Mounts, PutsAside, ReadsAgain, Still, minor}
use Rattle.mscp_ported.proofs.Sights.{IsAnswered, IsFault, IsSent, IsSlide, Seen, Slides, StaysInSlot, sight, task_read}
use Rattle.mscp_ported.proofs.Turns.{IsNoNext}

-- so many actions at most are done before what goes out is gone, with this in hand
abbrev pub to_do : Task → ℕ
to_do (tasks.Return Responses slot) = 1
to_do (tasks.Packet slot) = 2
to_do (tasks.Slot Responses) = 3
to_do tasks.Free = 3
to_do (tasks.Word side) = 5
to_do (tasks.Neighbour side) = 6
to_do (tasks.Return Commands slot) = 7
to_do (tasks.Text slot size foreign) = 8
to_do (tasks.Header slot) = 9
to_do (tasks.Slot Commands) = 10
to_do task = 4

-- and so many before nothing is in hand
abbrev pub rest : Task → ℕ
rest tasks.Free = 0
rest (tasks.Word side) = 2
rest (tasks.Neighbour side) = 3
rest (tasks.Return side slot) = 4
rest (tasks.Packet slot) = 5
rest (tasks.Text slot size foreign) = 5
rest (tasks.Slot Responses) = 6
rest (tasks.Header slot) = 6
rest (tasks.Slot Commands) = 7
rest task = 1

-- by so many actions fewer are left with this in hand, and the area isn't cleared now
pub record IsFewer (n : ℕ) (before after : Task) : Type 0 where
  pub to_do : n + to_do after ≤ to_do before
  pub rest : n + rest after ≤ rest before
  pub clear : IsClear after → ⊥

-- ---- tasks

again_fewer : (t : Task) → (IsClear t → ⊥) → IsFewer 0 t (read_again t)
again_fewer (tasks.Slot Responses) clear = record { to_do = search arith; rest = search arith; clear = λ c. c }
again_fewer (tasks.Slot Commands) clear = record { to_do = search arith; rest = search arith; clear = λ c. c }
again_fewer t clear = record { to_do = search arith; rest = search arith; clear = clear }

aside_fewer : (t : Task) → (IsClear t → ⊥) → IsFewer 0 t (aside t)
aside_fewer tasks.Transfer clear = record { to_do = search arith; rest = search arith; clear = λ c. c }
aside_fewer t clear = record { to_do = search arith; rest = search arith; clear = clear }

step_fewer : (o : Option ℕ) (t : Task) → (IsClear t → ⊥) → IsFewer 0 t (step_at o t)
step_fewer (Some place) (tasks.Step verdict) clear =
    record { to_do = search arith; rest = search arith; clear = λ c. c }
step_fewer (Some place) tasks.Transfer clear = record { to_do = search arith; rest = search arith; clear = λ c. c }
step_fewer (Some place) t clear = record { to_do = search arith; rest = search arith; clear = clear }
step_fewer None t clear = record { to_do = search arith; rest = search arith; clear = clear }

read_fewer : (bytes : List ℕ) (done : Unit {0}) (t : Task) → IsSlide t → IsGiven t (WasRead bytes (Ok done))
    → IsFewer 1 t (task_read bytes t)
read_fewer bytes done (tasks.Slot Responses) of given =
    subst (λ b. IsFewer 1 (tasks.Slot Responses) (cond b (tasks.Packet (record { word = num bytes 0 4 })) tasks.Free))
    (sym given) (record { to_do = search arith; rest = search arith; clear = λ c. c })
read_fewer bytes done (tasks.Slot Commands) of given = by (is_owned (num bytes 0 4))
  where
    by : (b : Bool)
        → IsFewer 1 (tasks.Slot Commands) (cond b (tasks.Header (record { word = num bytes 0 4 })) tasks.Free)
    by true = record { to_do = search arith; rest = search arith; clear = λ c. c }
    by false = record { to_do = search arith; rest = search arith; clear = λ c. c }
read_fewer bytes done (tasks.Neighbour side) of given = by (is_owned (num bytes 0 4))
  where
    by : (b : Bool) → IsFewer 1 (tasks.Neighbour side) (cond b (tasks.Word side) tasks.Free)
    by true = record { to_do = search arith; rest = search arith; clear = λ c. c }
    by false = record { to_do = search arith; rest = search arith; clear = λ c. c }
read_fewer bytes done (tasks.Header slot) of given =
    record { to_do = search arith; rest = search arith; clear = λ c. c }
read_fewer bytes done t of given = absurd of

eased_fewer : (before after : Task) → (IsClear before → ⊥) → IsEased before after → IsFewer 1 before after
eased_fewer (tasks.Word side) after clear (inl e) =
    subst (IsFewer 1 (tasks.Word side)) (sym e) (record { to_do = search arith; rest = search arith; clear = λ c. c })
eased_fewer (tasks.Word side) after clear (inr e) =
    subst (IsFewer 1 (tasks.Word side)) (sym e) (record { to_do = search arith; rest = search arith; clear = λ c. c })
eased_fewer tasks.Settle after clear e =
    subst (IsFewer 1 tasks.Settle) (sym e) (record { to_do = search arith; rest = search arith; clear = λ c. c })
eased_fewer tasks.Interrupt after clear e =
    subst (IsFewer 1 tasks.Interrupt) (sym e) (record { to_do = search arith; rest = search arith; clear = λ c. c })
eased_fewer (tasks.Clear done) after clear e = absurd (clear tt)
eased_fewer task after clear e = absurd e

-- of one of the ring of responses the rest alone
abbrev Given : Side → Task → Type 0
Given Responses after = (1 + rest after ≤ 4) × (IsClear after → ⊥)
Given Commands after = (1 + rest after ≤ 4) × (IsClear after → ⊥) × (1 + to_do after ≤ 7)

given_so : (area : Rings) (side : Side) (slot : Descriptor) → Given side (hears_of area side slot)
given_so area side slot = by side (not (is_flagged slot.word)) (slots_of area side == 1)
  where
    by : (at : Side) (b c : Bool) → Given at (cond b tasks.Free (cond c (tasks.Word side) (tasks.Neighbour side)))
    by Responses true c = (search arith, λ x. x)
    by Responses false true = (search arith, λ x. x)
    by Responses false false = (search arith, λ x. x)
    by Commands true c = (search arith, (λ x. x), search arith)
    by Commands false true = (search arith, (λ x. x), search arith)
    by Commands false false = (search arith, (λ x. x), search arith)

-- ---- ports

-- the rings are in use, the ring of responses wasn't found full, no step of the initialisation waits, and the area
-- isn't being cleared
pub record InUse {K : Type 0} (p : Port K) : Type 0 where
  pub up : p.stage ≡ stages.Up
  pub room : p.is_full ≡ false
  pub heard : p.written ≡ None
  pub clear : IsClear p.task → ⊥

-- an end waits
abbrev pub HasEnd : {K : Type 0} → Port K → Type 0
HasEnd p = 0 < length (ends_of p.controller)

-- by a call that did so many actions the rings stay in use, and what goes out stays so, is gone, or begins to
pub record GoesOn {K : Type 0} (n : ℕ) (old new : Port K) : Type 0 where
  pub used : InUse new
  pub ends : HasEnd old → HasEnd new
  pub left : n + rest new.task ≤ rest old.task
  pub out : ((new.outgoing ≡ old.outgoing) × (n + to_do new.task ≤ to_do old.task)) ⊎ (new.outgoing ≡ None)
      ⊎ ((old.outgoing ≡ None) × (new.outgoing ≢ None) × (n + to_do new.task ≤ 10 + rest old.task))

more_ends : (xs ys zs : List End) → zs ≡ xs ++ ys → 0 < length xs → 0 < length zs
more_ends xs ys zs e h = subst (λ l. 0 < length l) (sym e) (search (arith, length-append xs ys, h))

module _ {K : Type 0} (old new : Port K) (u : InUse old) where
  abbrev So : ℕ → Type 0
  So n = IsForgotten old new ⊎ GoesOn n old new

  use_on : (x : Port K) → new ≡ x → x.stage ≡ old.stage → x.is_full ≡ false → x.written ≡ old.written
      → (IsClear new.task → ⊥) → InUse new
  use_on x e stage room written clear = record {
    up = ap (λ p. p.stage) e ∙ stage ∙ u.up;
    room = ap (λ p. p.is_full) e ∙ room;
    heard = ap (λ p. p.written) e ∙ written ∙ u.heard;
    clear = clear;
  }

  -- what goes out stays so
  on : {n : ℕ} (x : Port K) → new ≡ x → x.stage ≡ old.stage → x.is_full ≡ false → x.written ≡ old.written
      → x.outgoing ≡ old.outgoing → (HasEnd old → HasEnd new) → IsFewer n old.task x.task → So n
  on {n} x e stage room written out ends fewer =
      let less : IsFewer n old.task new.task = subst (λ p. IsFewer n old.task p.task) (sym e) fewer in
      inr (record {
        used = use_on x e stage room written less.clear;
        ends = ends;
        left = less.rest;
        out = inl (ap (λ p. p.outgoing) e ∙ out, less.to_do);
      })

  -- nothing changes
  stay : new ≡ old → So 0
  stay e = on old e refl u.room refl refl (λ h. subst HasEnd (sym e) h)
      (record { to_do = search arith; rest = search arith; clear = u.clear })

  same_ends : new.controller ≡ old.controller → HasEnd old → HasEnd new
  same_ends e h = subst (λ c. 0 < length (ends_of c)) (sym e) h

  as_was : {x : Port K} → new ≡ x → x.controller ≡ old.controller → HasEnd old → HasEnd new
  as_was e same = same_ends (ap (λ p. p.controller) e ∙ same)

  -- ---- what was read

  -- a message brings ends, and takes none
  read_ends : (bytes : List ℕ) (done : Unit) → Hears bytes old (Ok done) new → (slot : Descriptor) (size : ℕ)
      (foreign : Bool) → old.task ≡ tasks.Text slot size foreign → HasEnd old → HasEnd new
  read_ends bytes done r slot size foreign at h = elim (none_or_some (own_end_of old foreign bytes)) [
    | inl none ↦
        let b = brings old.controller (handed old.controller.settings.units bytes) in
        more_ends (ends_of old.controller) b.ends (ends_of new.controller)
        (ap (λ c. ends_of c) (r.handed slot size foreign at refl none) ∙ b.all) h
    | inr own ↦ same_ends (r.own slot size foreign at (λ n. none-some own.0 (sym n ∙ own.1))) h
  ]

  text_fewer : {slot : Descriptor} {size : ℕ} {foreign : Bool} (after : Task) → 1 + to_do after ≤ 8 → 1 + rest after ≤ 5
      → (IsClear after → ⊥) → old.task ≡ tasks.Text slot size foreign → IsFewer 1 old.task after
  text_fewer after few less clear at =
      subst (λ t. IsFewer 1 t after) (sym at) (record { to_do = few; rest = less; clear = clear })

  read : (bytes : List ℕ) (done : Unit) → Hears bytes old (Ok done) new → IsGiven old.task (WasRead bytes (Ok done))
      → So 1
  read bytes done r given = by (sight bytes done old new r)
    where
      by : Seen bytes done old new → So 1
      by (Slides full polled of kept e) =
          on _ e refl (kept given ∙ u.room) refl refl (as_was e refl) (read_fewer bytes done old.task of given)
      by (IsFault code of d) = inl (stages.Dead code, d)
      by (IsAnswered slot size foreign end at own none e a) = inr (record {
        used = use_on _ e refl u.room refl (subst (λ p. IsClear p.task → ⊥) (sym e) (λ c. c));
        ends = read_ends bytes done r slot size foreign at;
        left = subst (λ t. 1 + rest new.task ≤ rest t) (sym at)
            (subst (λ p. 1 + rest p.task ≤ 5) (sym e) (search arith));
        out = inr (inr (
          none,
          answers end (subst (λ q. IsSomeAnd q (λ x. IsSomeAnd new.outgoing (λ y. (y.bytes.items ≡ end_bytes x)
              × (y.kind ≡ end_kind foreign)))) own a.out) new.outgoing refl,
          subst (λ t. 1 + to_do new.task ≤ 10 + rest t) (sym at)
              (subst (λ p. 1 + to_do p.task ≤ 15) (sym e) (search arith)),
        ));
      })
        where
          answers : (x : End) → IsSomeAnd new.outgoing (λ y. (y.bytes.items ≡ end_bytes x)
              × (y.kind ≡ end_kind foreign)) → (o : Option Outgoing) → new.outgoing ≡ o → new.outgoing ≢ None
          answers x h None is = absurd (subst (λ q. IsSomeAnd q (λ y. (y.bytes.items ≡ end_bytes x)
              × (y.kind ≡ end_kind foreign))) is h)
          answers x h (Some o) is = λ n. none-some o (sym n ∙ is)
      by (StaysInSlot slot size foreign at why e) = on _ e refl u.room refl refl
          (read_ends bytes done r slot size foreign at)
          (text_fewer tasks.Free (search arith) (search arith) (λ c. c) at)
      by (IsSent slot size foreign (sents.Queued reference) at own answer e) = on _ e.frame refl u.room refl refl
          (read_ends bytes done r slot size foreign at)
          (text_fewer (tasks.Return Commands slot) (search arith) (search arith) (λ c. c) at)
      by (IsSent slot size foreign (sents.Answered reference aborted) at own answer e) = on _ e.frame refl u.room refl
          refl (read_ends bytes done r slot size foreign at)
          (text_fewer (tasks.Return Commands slot) (search arith) (search arith) (λ c. c) at)

  -- ---- how an action went

  went : (picks : List Choice → ℕ → Type 0) (outcome : Outcome) (done : Unit) → Goes picks outcome old (Ok done) new
      → So 1
  went picks outcome done r = by (deed picks outcome done old new r)
    where
      step_free : (t : Task) → IsStepping t → IsFewer 1 t tasks.Free
      step_free (tasks.Step verdict) of = record { to_do = search arith; rest = search arith; clear = λ c. c }
      step_free tasks.Transfer of = record { to_do = search arith; rest = search arith; clear = λ c. c }
      step_free t of = absurd of

      by : Deed picks outcome old new → So 1
      by (Fails code d) = inl (stages.Dead code, d)
      by (Eases after eased calm e) =
          on _ e refl u.room refl refl (as_was e refl) (eased_fewer old.task after u.clear eased)
      by (StepsOn frame lives calm (inl word)) = absurd (word.0 u.heard)
      by (StepsOn frame lives calm (inr c)) = absurd (u.clear c.0)
      by (WritesPacket slot untold at e) = on _ e refl u.room refl refl (as_was e refl)
          (subst (λ t. IsFewer 1 t (tasks.Return Responses slot)) (sym at)
          (record { to_do = search arith; rest = search arith; clear = λ c. c }))
      by (GivesSlot Responses slot area at e) =
          let g = given_so area Responses slot in
          inr (record {
            used = use_on _ e refl u.room refl (subst (λ p. IsClear p.task → ⊥) (sym e) g.1);
            ends = as_was e refl;
            left = subst (λ t. 1 + rest new.task ≤ rest t) (sym at) (subst (λ p. 1 + rest p.task ≤ 4) (sym e) g.0);
            out = inr (inl (ap (λ p. p.outgoing) e));
          })
      by (GivesSlot Commands slot area at e) =
          let g = given_so area Commands slot in
          on _ e refl u.room refl refl (as_was e refl)
          (subst (λ t. IsFewer 1 t (hears_of area Commands slot)) (sym at)
          (record { to_do = g.2; rest = g.0; clear = g.1 }))
      by (ServesStep verdict how takes) = elim (taken_or_not picks old new (verdict, takes)) [
        | inl e ↦ on _ e refl u.room refl refl (as_was e refl) (step_free old.task (stepping old outcome verdict how))
        | inr t ↦ on _ t.2.finished.2.frame refl u.room refl refl
            (more_ends (ends_of old.controller) (brought_for t.0.connection (end_brought t.2.finished.0))
            (ends_of new.controller) (steps_bring picks t.0.connection t.0.reference (block_told t.1) old.controller
            new.controller t.2.finished.0 t.2.finished.1)) (step_free old.task (stepping old outcome verdict how))
      ]

  -- ---- a call by which nothing is wanted

  pub goes_on : (picks : Picking K) (call : Call) → IsNoNext call → Becomes picks call old new
      → IsGiven old.task call → So (acts (call ∷ []))
  goes_on picks WriteIp none r given = inl (stages.First, r)
  goes_on picks ReadIp none r given =
      on _ (r.up u.up) refl refl refl refl (as_was (r.up u.up) refl) (again_fewer old.task u.clear)
  goes_on picks (WriteSa word) none r given = stay (r.up u.up)
  goes_on picks (Next blocks action bytes) none r given = absurd none
  goes_on picks (WasRead bytes (Ok done)) none r given = read bytes done r given
  goes_on picks (Went outcome (Ok done)) none r given = went (picks old.controller.picker) outcome done r
  goes_on picks call none r given = by (minor picks call old new r tt)
    where
      by : Minor old new → So (acts (call ∷ []))
      by (Still e) = stay e
      by (PutsAside e) = on _ e refl u.room refl refl (as_was e refl) (aside_fewer old.task u.clear)
      by (ReadsAgain left e) = on _ e refl refl refl refl (as_was e refl) (again_fewer old.task u.clear)
      by (Mounts becomes place e) = on _ e refl u.room refl refl (as_was e refl) (step_fewer place old.task u.clear)
      by (GivesUp d) = inl (stages.Dead 9, d)
