-- What becomes of a port as it is told how an action went, case by case.
use Rattle.mscp_ported.proofs.Common.{Bool, ChangesByWord, Choice, Clears, Descriptor, GivesBack, Goes, IfSome, IsAsNew, IsOutcomeOf, IsStepping, List, MatchOption, None, Ok, Option, Outcome, Port, Responses, Rings, Side, Some, Stage, TakesBegun, TakesStep, Task, Verdict, ap, arith, block_begun, block_served, cond, counted, end_of, false, hears_of, inl, inr, is_dead, none-some, refl, rings_named, start_of, step_answered, step_task, subst, sym, true, vector_in, ℕ, ◌%◌, ◌+◌, ◌<◌, ◌==◌, ◌∙◌, ◌≡◌, ◌≢◌, ◌≤◌, ◌⊎◌}
use Rattle.mscp_port.specs.declared.action.Outcome.TheVariants as outcomes
use Rattle.mscp_port.specs.declared.stage.Stage.TheVariants as stages
use Rattle.mscp_port.specs.declared.task.Task.TheVariants as tasks

pub is_alive : {K : Type 0} (p : Port K) → ((code : ℕ) → p.stage ≢ stages.Dead code) → is_dead p.stage ≡ false
is_alive p alive = grind arith

pub is_one : (n : ℕ) → (n ≡ 1) ⊎ (n ≢ 1)
is_one n = search arith

pub is_low : (n : ℕ) → (0x8000 ≤ n) ⊎ (n < 0x8000)
is_low n = search arith

pub done_or_not : (outcome : Outcome) → (outcome ≡ outcomes.Done) ⊎ (outcome ≢ outcomes.Done)
done_or_not outcomes.Done = inl refl
done_or_not outcome = inr (λ e. search (arith, e))

-- the step in hand went so
abbrev pub IsHow : {K : Type 0} → Port K → Outcome → Verdict → Type 0
IsHow old outcome verdict = (old.task ≡ tasks.Step verdict)
    ⊎ ((old.task ≡ tasks.Transfer) × (verdict ≡ block_served old outcome (block_begun old)))

abbrev pub IsClear : Task → Type 0
IsClear (tasks.Clear done) = Unit {0}
IsClear task = ⊥

-- where nothing else changes what is in hand becomes this
abbrev pub IsEased : Task → Task → Type 0
IsEased tasks.Settle after = after ≡ tasks.Free
IsEased (tasks.Clear done) after = after ≡ tasks.Clear (done + 64)
IsEased (tasks.Word side) after = (after ≡ tasks.Free) ⊎ (after ≡ tasks.Interrupt)
IsEased tasks.Interrupt after = after ≡ tasks.Free
IsEased task after = ⊥

-- and this behind a step of the initialisation
abbrev pub IsNewStep : Task → Type 0
IsNewStep tasks.Free = Unit {0}
IsNewStep tasks.Interrupt = Unit {0}
IsNewStep (tasks.Clear done) = Unit {0}
IsNewStep task = ⊥

pub stepping : {K : Type 0} (old : Port K) (outcome : Outcome) (verdict : Verdict) → IsHow old outcome verdict
    → IsStepping old.task
stepping old outcome verdict (inl at) = subst (λ t. IsStepping t) (sym at) tt
stepping old outcome verdict (inr h) = subst (λ t. IsStepping t) (sym h.0) tt

pub data Deed {K : Type 0} (picks : List Choice → ℕ → Type 0) (outcome : Outcome) (old new : Port K) : Type 0 where
  Fails : (code : ℕ) → IsAsNew (stages.Dead code) old new → Deed picks outcome old new
  Eases : (after : Task) → IsEased old.task after → IsNewStep after → new ≡ record old { task = after }
      → Deed picks outcome old new
  -- a step of the initialisation that the host has answered, or the last one once the area is clear
  StepsOn : ChangesByWord old new → is_dead new.stage ≡ false → IsNewStep new.task
      → ((old.written ≢ None) × (new.written ≡ None)) ⊎ (IsClear old.task × (new.written ≡ old.written))
      → Deed picks outcome old new
  WritesPacket : (slot : Descriptor) (untold : ℕ) → old.task ≡ tasks.Packet slot
      → new ≡ record old { untold = untold; task = tasks.Return Responses slot } → Deed picks outcome old new
  GivesSlot : (side : Side) (slot : Descriptor) (r : Rings) → old.task ≡ tasks.Return side slot
      → new ≡ record (counted side old) { task = hears_of r side slot } → Deed picks outcome old new
  ServesStep : (verdict : Verdict) → IsHow old outcome verdict → TakesBegun picks verdict old new
      → Deed picks outcome old new

module _ {K : Type 0} (picks : List Choice → ℕ → Type 0) (outcome : Outcome) (done : Unit) (old new : Port K)
    (r : Goes picks outcome old (Ok done) new) where
  abbrev So : Type 0
  So = Deed picks outcome old new

  step_new : (first : ℕ) → IsNewStep (step_task first tasks.Free)
  step_new first = grind arith

  word_deed : (word : ℕ) → old.written ≡ Some word → TakesStep word old new → So
  word_deed word some r' = by old.stage refl
    where
      taken : (x : Port K) → new ≡ x → ChangesByWord old x → is_dead x.stage ≡ false → IsNewStep x.task
          → x.written ≡ None → So
      taken x e frame lives calm none = subst (λ y. Deed picks outcome old y) (sym e)
          (StepsOn frame lives calm (inl (λ n. none-some word (sym n ∙ some), none)))

      named_or : (o : Option Rings) → rings_named old.words.first old.words.second word ≡ o → old.stage ≡ stages.Third
          → word < 0x8000 → So
      named_or None none at low = Fails 7 (r'.nowhere at low none)
      named_or (Some area) is at low =
          taken _ (r'.clear at low (λ none. none-some area (sym none ∙ is))) refl refl tt refl

      by : (s : Stage) → old.stage ≡ s → So
      by stages.First at = grind (arith, is_one, taken, step_new)
      by stages.Second at = taken _ (r'.second at) refl refl (step_new old.words.first) refl
      by stages.Third at = elim (is_low word) [
        | inl high ↦ taken _ (r'.probe at high) refl refl tt refl
        | inr low ↦ named_or (rings_named old.words.first old.words.second word) refl at low
      ]
      by s at = taken _ (r'.elsewhere (λ e. search (arith, at, e)) (λ e. search (arith, at, e))
          (λ e. search (arith, at, e))) refl (is_alive old (λ code e. search (arith, r.dead code e))) tt refl

  eases : {before : Task} (after : Task) → old.task ≡ before → IsEased before after → IsNewStep after
      → new ≡ record old { task = after } → So
  eases after at eased calm e = Eases after (subst (λ x. IsEased x after) (sym at) eased) calm e

  settled : (o : Option ℕ) → old.written ≡ o → old.task ≡ tasks.Settle → So
  settled None none at = eases tasks.Free at refl tt ((r.acts refl).unanswered at none)
  settled (Some word) some at = word_deed word some
      (subst (λ x. IfSome x (λ w. TakesStep w old new)) (ap (step_answered tasks.Settle) some)
      (subst (λ x. IfSome (step_answered x old.written) (λ w. TakesStep w old new)) at (r.steps refl)))

  clears : (so_far : ℕ) → old.task ≡ tasks.Clear so_far → (o : Option Rings)
      → MatchOption o (IsAsNew (stages.Dead 7) old new) (λ area. Clears outcome area so_far old new) → So
  clears so_far at None d = Fails 7 d
  clears so_far at (Some area) c = elim (done_or_not outcome) [
    | inr missing ↦ Fails 7 (c.missing missing)
    | inl well ↦ elim (is_less (start_of area (old.words.second % 2 == 1) + (so_far + 64)) (end_of area)) [
      | inl more ↦ eases (tasks.Clear (so_far + 64)) at refl tt (c.on well more)
      | inr last ↦ subst (λ y. Deed picks outcome old y) (sym (c.last well last)) (StepsOn refl refl
          (step_new old.words.first) (inr (subst (λ x. IsClear x) (sym at) tt, refl)))
    ]
  ]
    where
      is_less : (n m : ℕ) → (n < m) ⊎ (m ≤ n)
      is_less n m = search arith

  gives : (side : Side) (slot : Descriptor) → old.task ≡ tasks.Return side slot → (o : Option Rings)
      → MatchOption o (IsAsNew (stages.Dead 7) old new) (λ area. GivesBack outcome area side slot old new) → So
  gives side slot at None d = Fails 7 d
  gives side slot at (Some area) g = elim (done_or_not outcome) [
    | inl well ↦ GivesSlot side slot area at (g.done well)
    | inr missing ↦ Fails 7 (g.missing missing)
  ]

  marks : (side : Side) → old.task ≡ tasks.Word side → (b : Bool)
      → new ≡ record old { task = cond b tasks.Free tasks.Interrupt } → So
  marks side at true e = eases tasks.Free at (inl refl) tt e
  marks side at false e = eases tasks.Interrupt at (inr refl) tt e

  pub deed : So
  deed = by old.task refl
    where
      by : (t : Task) → old.task ≡ t → So
      by tasks.Free at = absurd (subst (λ x. IsOutcomeOf x outcome) at (r.only refl))
      by tasks.Settle at = settled old.written refl at
      by (tasks.Clear so_far) at = clears so_far at old.rings ((r.acts refl).clear so_far at)
      by (tasks.Slot side) at = Fails 6 ((r.acts refl).slot side at)
      by (tasks.Neighbour side) at = Fails 6 ((r.acts refl).neighbour side at)
      by (tasks.Header slot) at = Fails 1 ((r.acts refl).header slot at)
      by (tasks.Text slot size foreign) at = Fails 1 ((r.acts refl).text slot size foreign at)
      by (tasks.Packet slot) at = elim (done_or_not outcome) [
        | inl well ↦ WritesPacket slot _ at (((r.acts refl).packet slot at).done well)
        | inr missing ↦ Fails 2 (((r.acts refl).packet slot at).missing missing)
      ]
      by (tasks.Return side slot) at = gives side slot at old.rings ((r.acts refl).gives_back side slot at)
      by (tasks.Word side) at = marks side at (vector_in old.words.first == 0) ((r.acts refl).word side at)
      by tasks.Interrupt at = eases tasks.Free at refl tt ((r.acts refl).interrupt at)
      by (tasks.Step verdict) at = ServesStep verdict (inl at) ((r.moves refl).step verdict at)
      by tasks.Transfer at =
          ServesStep (block_served old outcome (block_begun old)) (inr (at, refl)) ((r.moves refl).transfer at)
