-- A block of which the controller is told that it went well was moved.
use Rattle.mscp_ported.proofs.Common.{Action, Answered, AsksAlways, Becomes, Bool, Call, Dies, Drops, Hardware, Holdings, IfSome, IsMadeOf, IsOfBlock, Leaves, List, Next, None, Ok, Option, Picking, Port, ReadIp, Some, Task, Verdict, Volume, WasRead, Went, Wish, WriteIp, WriteSa, [], ap, arith, aside, begun_step, begun_task, block_begun, blocks, inl, inr, move_wanted, read_again, refl, step_again, step_at, subst, volumes_with, wish, ℕ, ◌∷◌, ◌≡◌, ◌⊎◌}
use Rattle.mscp_ported.proofs.Minor.{Minor, minor}
use Rattle.mscp_port.specs.declared.action.Action.TheVariants as actions
use Rattle.mscp_port.specs.declared.stage.Stage.TheVariants as stages
use Rattle.mscp_port.specs.declared.task.Task.TheVariants as tasks
use Rattle.mscp_ported.proofs.Following.{in_step}
use Rattle.mscp_ported.proofs.Look.{block_rings}
use Rattle.mscp_ported.proofs.Wanting.{alive_or_dead}

-- ---- the step in hand

-- a step in hand is that which the controller has begun, by the volumes that are there
abbrev pub IsBegunStep : {K : Type 0} → Port K → Type 0
IsBegunStep p = IsOfBlock p.task
    → p.task ≡ begun_task p.controller.settings.units p.buffers.items p.volumes (begun_step p.controller)

-- and what was wanted for a block is what is wanted for it still
abbrev pub IsWishOf : {K : Type 0} → Port K → Option Wish → Type 0
IsWishOf p w = p.task ≡ tasks.Transfer → IfSome w (λ x. x.action ≡ move_wanted p (block_begun p))

-- for a step without a block a pause was wanted
abbrev pub IsPaused : {K : Type 0} → Port K → Option Wish → Type 0
IsPaused p w = (verdict : Verdict) → p.task ≡ tasks.Step verdict → IfSome w (λ x. x.action ≡ actions.Pause)

pub record Steps {K : Type 0} (p : Port K) (w : Option Wish) : Type 0 where
  pub begun : IsBegunStep p
  pub wanted : IsWishOf p w
  pub paused : IsPaused p w

no_steps : {K : Type 0} (p : Port K) (w : Option Wish) → (IsOfBlock p.task → ⊥) → Steps p w
no_steps p w never = grind arith

-- what a call leaves of the port where a step stays in hand
pub record Keeps {K : Type 0} (old new : Port K) : Type 0 where
  pub controller : new.controller ≡ old.controller
  pub buffers : new.buffers ≡ old.buffers
  pub volumes : new.volumes ≡ old.volumes
  pub task : new.task ≡ old.task

keeps : {K : Type 0} (old new : Port K) (w : Option Wish) → Keeps old new → Steps old w → Steps new w
keeps {K} old new w k s = grind arith

-- a step stays in hand, or none is
either : {K : Type 0} (old new : Port K) (w : Option Wish) → (IsOfBlock new.task → Keeps old new) → Steps old w
    → Steps new w
either {K} old new w k s = grind (arith, keeps, no_steps)

-- ---- calls

free_again : (task : Task) → IsOfBlock (read_again task) → read_again task ≡ task
free_again task h = grind arith

free_aside : (task : Task) → IsOfBlock (aside task) → aside task ≡ task
free_aside task h = grind arith

free_step : (task : Task) → IsOfBlock (step_again task) → ⊥
free_step task h = grind arith

module _ {K : Type 0} (old new : Port K) (w : Option Wish) (s : Steps old w) where
  same_so : new ≡ old → Steps new w
  same_so e = grind (arith, keeps)

  -- what is in hand stays, or is dropped
  hand_so : (new.controller ≡ old.controller) → (new.volumes ≡ old.volumes) → Leaves old new ⊎ Drops old new
      → Steps new w
  hand_so controller volumes hand = grind (arith, keeps, no_steps)

  dead_so : Dies old new → Steps new w
  dead_so d = no_steps new w (λ h. subst (λ x. IsOfBlock x) d.1.task h)

  again_so : {b : Bool} {n : ℕ} → new ≡ record old { is_full = b; task = read_again old.task; left = n } → Steps new w
  again_so e = grind (arith, either, free_again)

  volume_so : (becomes : Volume → Volume) (o : Option ℕ)
      → new ≡ record old { volumes = volumes_with becomes o old.volumes; task = step_at o old.task } → Steps new w
  volume_so becomes o e = grind (arith, keeps, no_steps, free_step)

-- something is wanted
wants_so : {K : Type 0} (picks : Picking K) (blocks : Bool) (action : Action) (bytes : List ℕ) (old new : Port K)
    (w : Option Wish) → Becomes picks (Next blocks action bytes) old new → Steps old w
    → ((code : ℕ) → old.stage ≡ stages.Dead code → IsOfBlock old.task → ⊥)
    → Steps new (Some (record { action = action; bytes = bytes }))
wants_so {K} picks blocks action bytes old new w r s calm = grind (arith, alive_or_dead, no_steps)

module _ {K : Type 0} (picks : Picking K) (hardware : Hardware) (credits : ℕ) (controller : Holdings K)
    (start : Port K) (made : IsMadeOf hardware credits controller start) where
  -- where nothing is wanted no step is in hand
  none_so : (p : Port K) (calls : List Call) → AsksAlways calls → Answered picks start calls p → wish calls ≡ None
      → Steps p None
  none_so p calls asks a none =
      no_steps p None ((in_step picks hardware credits controller start made p calls asks a).hand.wished none)

  pub steps : (p : Port K) (calls : List Call) → AsksAlways calls → Answered picks start calls p → Steps p (wish calls)
  steps p [] asks a = none_so p [] asks a refl
  steps p (ReadIp ∷ calls) asks a =
      let s = steps a.0 calls asks a.1 in elim a.2.frame [
        | inl e ↦ hand_so a.0 p (wish calls) s (ap (λ (q : Port K). q.controller) e) (ap (λ (q : Port K). q.volumes) e)
            a.2.hand
        | inr d ↦ dead_so a.0 p (wish calls) s d
      ]
  steps p (WriteSa word ∷ calls) asks a =
      let s = steps a.0 calls asks a.1 in elim a.2.frame [
        | inl e ↦ hand_so a.0 p (wish calls) s (ap (λ (q : Port K). q.controller) e) (ap (λ (q : Port K). q.volumes) e)
            a.2.hand
        | inr d ↦ dead_so a.0 p (wish calls) s d
      ]
  steps p (Next blocks action bytes ∷ calls) asks a =
      wants_so picks blocks action bytes a.0 p (wish calls) a.2 (steps a.0 calls asks a.1) (λ code dead h. search (
        arith,
        dead,
        (in_step picks hardware credits controller start made a.0 calls asks a.1).hand.up (block_rings a.0.task h),
      ))
  steps p (WriteIp ∷ calls) asks a = none_so p (WriteIp ∷ calls) asks a refl
  steps p (WasRead bytes (Ok done) ∷ calls) asks a = none_so p (WasRead bytes (Ok done) ∷ calls) asks a refl
  steps p (Went outcome (Ok done) ∷ calls) asks a = none_so p (Went outcome (Ok done) ∷ calls) asks a refl
  steps p (call ∷ calls) asks a = by (minor picks call a.0 p a.2 tt) (steps a.0 calls asks a.1)
    where
      by : Minor a.0 p → Steps a.0 (wish calls) → Steps p (wish calls)
      by h s = grind (arith, same_so, either, free_aside, again_so, volume_so, no_steps)
