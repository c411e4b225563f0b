-- What an action leaves that touches no memory, and the steps of the initialisation.
use Rattle.mscp_ported.proofs.Common.{Action, Choice, Due, Goes, Idle, IsAsNew, List, MatchOption, Name, None, Ok, Option, Outcome, Port, Rings, Said, Some, Stage, TakesBegun, TakesBlock, Talk, Task, Turn, Verdict, Went, Wish, [], ap, append-nil, arith, at_step, begins, false, is_dead, map, refl, said_in, step_task, stepped, subst, sym, true, written, ℕ, ◌++◌, ◌∙◌, ◌≡◌, ◌≢◌}
use Rattle.mscp_port.specs.declared.stage.Stage.TheVariants as stages
use Rattle.mscp_port.specs.declared.task.Task.TheVariants as tasks
use Rattle.mscp_ported.specs.Talk.{done_by}
use Rattle.mscp_ported.proofs.After.{After, IsNoReset, alters, none_said, same_stage}
use Rattle.mscp_ported.proofs.Look.{AreTold, Counts, Fits, InStep, IsClear, IsElse, IsOfRings, IsOpen, IsOwned, IsSimple, IsTelling, IsWrite, Look, Names, block_rings, in_hand, is_loud, look, told_on}
use Rattle.mscp_ported.proofs.Deeds.{is_alive}
use Rattle.mscp_ported.proofs.Plain.{dies, not_of_rings, retask}

-- ---- the initialisation

-- a step is over, or the next one begins
pub init_step : (l : Look) (t : Talk) (w : Option Wish) (said : List Said) (texts : List (List ℕ))
    (s : Stage) (first second : ℕ) (rings : Option Rings) (word : Option ℕ) (task : Task) (turn : Turn)
    (named : Option Rings) (said_first said_second : ℕ)
    → InStep l t w said texts → l.stage ≢ stages.Up → (IsOfRings l.task → ⊥)
    → Names s first second word rings said_first said_second t.answer named
    → Counts rings l.responses l.commands t.told t.heard → Fits (record l {
      stage = s;
      first = first;
      second = second;
      word = word;
      rings = rings;
      task = task;
    }) task turn
    → IsSimple turn → IsOwned turn → (IsOfRings task → ⊥) → (task ≡ tasks.Interrupt → is_loud s ≡ true)
    → (IsClear task → s ≡ stages.Clearing) → is_dead s ≡ false → InStep (record l {
      stage = s;
      first = first;
      second = second;
      word = word;
      rings = rings;
      task = task;
    }) (record t { turn = turn; first = said_first; second = said_second; rings = named }) None said texts
init_step l t w said texts s first second rings word task turn named
    said_first said_second k not_up before names counts fits simple own no_rings loud clear alive =
    grind (arith, not_of_rings, block_rings, told_on)

-- the host is interrupted at a step as its first word wants
module _ (l : Look) (first : ℕ) where
  pub step_cases : (P : Task → Turn → Type 0) → P tasks.Interrupt Due → P tasks.Free Idle
      → P (step_task first tasks.Free) (at_step first)
  step_cases P h k = grind arith

-- nothing was told nor heard of before the area was named
pub early_counts : (o : Option Rings) (l : Look) (t : Talk) (w : Option Wish) (said : List Said) (texts : List (List ℕ))
    → InStep l t w said texts → l.rings ≡ None → Counts o l.responses l.commands t.told t.heard
early_counts o l t w said texts k none = grind arith

pub idle_so : (turn : Turn) → IsOpen turn → IsSimple turn → turn ≡ Idle
idle_so turn h k = grind arith

pub idle_deed : (a : Action) (bytes : List ℕ) (t : Talk) → t.turn ≡ Idle → done_by a bytes t ≡ t
idle_deed a bytes t e = grind arith

pub else_deed : (a : Action) (bytes : List ℕ) (t : Talk) → IsElse a → done_by a bytes t ≡ t
else_deed a bytes t is = grind arith

-- the port looks so, and it is reported how its action went
pub record IsReported {K : Type 0} (picks : List Choice → ℕ → Type 0) (old new : Port K) (t : Talk) (w : Wish)
    (outcome : Outcome) (done : Unit) (said : List Said) (texts : List (List ℕ)) : Type 0 where
  pub step : InStep (look old) t (Some w) said texts
  pub goes : Goes picks outcome old (Ok done) new

module _ {K : Type 0} {picks : List Choice → ℕ → Type 0} {old new : Port K} {t : Talk} {w : Wish} {outcome : Outcome}
    {done : Unit} {said : List Said} {texts : List (List ℕ)}
    (going : IsReported picks old new t w outcome done said texts) where
  open going use {step as k, goes as r}

  abbrev So : Type 0
  So = After (Went outcome (Ok done)) old (look new) t (Some w) None said texts

  no_reset : IsNoReset (Went outcome (Ok done))
  no_reset = record { said = λ s xs ys. refl; texts = λ s xs ys. refl }

  pub dead_so : (code : ℕ) → IsAsNew (stages.Dead code) old new → So
  dead_so code n = dies (Went outcome (Ok done)) code old new t (Some w) None said texts no_reset n

  pub alive : is_dead old.stage ≡ false
  alive = is_alive old (λ code e. search (arith, r.dead code e))

  -- an action went, after which the port looks so
  pub goes_on : (l : Look) (t' : Talk) (said' : List Said) → look new ≡ l → is_dead l.stage ≡ false
      → stepped old.stage l.stage (done_by w.action w.bytes t) ≡ t'
      → said ++ map said_in (begins old.outgoing l.outgoing) ≡ said' → InStep l t' None said' texts → So
  goes_on l t' said' e lives talk more_said x = grind (arith, alters, no_reset, append-nil)

  -- what is in hand tells nothing
  pub quiet_of : (task : Task) → old.task ≡ task → (IsTelling task → ⊥) → IsTelling old.task → ⊥
  quiet_of task at calm = subst (λ x. IsTelling x → ⊥) (sym at) calm

  pub told_so : (task : Task) (turn : Turn) → (IsTelling old.task → ⊥) → (IsTelling task → ⊥)
      → AreTold old.more task turn old.outgoing old.untold t.told said
  told_so task turn calm calm' =
      told_on old.more old.task task t.turn turn old.outgoing old.untold t.told said calm calm' k.speech.tells

  pub same_said : said ++ map said_in (begins old.outgoing old.outgoing) ≡ said
  same_said = none_said old.outgoing old.outgoing said refl

  -- ---- what touches no memory

  -- nothing is in hand any more
  pub freed : IsOpen t.turn → in_hand old.task t.turn ≡ [] → (IsTelling old.task → ⊥) → IsElse w.action
      → look new ≡ record (look old) { task = tasks.Free } → So
  freed calm before quiet is e =
      goes_on (record (look old) { task = tasks.Free }) t said e alive
      (same_stage old.stage _ ∙ else_deed w.action w.bytes t is) same_said
      (retask (look old) t (Some w) None said texts old.written tasks.Free t.turn k k.names.answer_so calm tt (λ h. h)
      (λ e. search (arith, e)) (λ h. absurd h) k.hand.own k.hand.idle quiet before
      (λ d. absurd (search (arith, d, alive))))

  pub begun_so : (task : Task) (verdict : Verdict) → old.task ≡ task → IsOpen t.turn → in_hand task t.turn ≡ []
      → (IsTelling task → ⊥) → IsElse w.action → TakesBegun picks verdict old new → So
  begun_so task verdict at calm before quiet is h = by old.controller.begun h
    where
      free : look new ≡ record (look old) { task = tasks.Free } → So
      free = freed calm (ap (λ x. in_hand x t.turn) at ∙ before) (quiet_of task at quiet) is

      by : (o : Option Name) → MatchOption o (new ≡ record old { task = tasks.Free })
          (λ name. TakesBlock picks name.connection name.reference verdict old new) → So
      by None e = free (ap look e)
      by (Some name) b = free (ap look b.finished.2.frame)

  -- what was written in a task of the rings
  pub write_one : (x : Turn) (t' : Talk) → t.turn ≡ x → IsWrite w.action
      → ((address : ℕ) → written address w.bytes x t ≡ t') → done_by w.action w.bytes t ≡ t'
  write_one x t' e is h = grind arith

  pub up_of : (task : Task) → old.task ≡ task → IsOfRings task → old.stage ≡ stages.Up
  up_of task at ring = k.hand.up (subst (λ x. IsOfRings x) (sym at) ring)
