-- Which calls look for a message of a port's host, or read one on.
use Rattle.mscp_ported.proofs.Common.{Action, Becomes, Call, Choice, Commands, IsDue, IsReadingText, List, Next, Ok, Option, Outcome, Picking, Port, ReadIp, Rings, Side, Descriptor, Task, Wants, WasRead, Went, WriteIp, WriteSa, [], arith, aside, false, hears_of, is_dead, none-some, read_again, step_at, subst, taken_or_not, true, ℕ, ◌≡◌, ◌⊎◌}
use Rattle.mscp_ported.proofs.Deeds.{Deed, IsNewStep, deed}
use Rattle.mscp_ported.proofs.Minor.{minor}
use Rattle.mscp_ported.proofs.Sights.{IsSlide, Seen, sight, task_read}
use Rattle.mscp_ported.proofs.Touching.{Touched, read_ip, wrote_sa}
use Rattle.mscp_ported.proofs.Wanting.{alive_or_dead}
use Rattle.mscp_port.specs.declared.task.Task.TheVariants as tasks
use Rattle.mscp_ported.proofs.Fair.{block_due, nothing_waits}

-- a message is looked for, or read
abbrev pub IsHearing : Task → Type 0
IsHearing (tasks.Slot Commands) = Unit {0}
IsHearing (tasks.Header slot) = Unit {0}
IsHearing (tasks.Text slot size foreign) = Unit {0}
IsHearing task = ⊥

-- a message is read on, and nothing else came meanwhile
pub record ReadsOn {K : Type 0} (old new : Port K) : Type 0 where
  pub hears : IsHearing old.task
  pub controller : new.controller ≡ old.controller
  pub outgoing : new.outgoing ≡ old.outgoing
  pub owes : new.owes_block ≡ old.owes_block

-- ---- what is in hand

again : (t : Task) → IsHearing (read_again t) → IsHearing t
again (tasks.Slot side) h = absurd h
again t h = h

put : (t : Task) → IsHearing (aside t) → IsHearing t
put tasks.Transfer h = absurd h
put t h = h

anew : (o : Option ℕ) (t : Task) → IsHearing (step_at o t) → IsHearing t
anew o t h = grind arith

step_quiet : (t : Task) → IsNewStep t → IsHearing t → ⊥
step_quiet t calm h = grind arith

hears_quiet : (area : Rings) (side : Side) (slot : Descriptor) → IsHearing (hears_of area side slot) → ⊥
hears_quiet area side slot = grind arith

-- what was read is a slot that a message may lie in, or its header
slide_hears : (bytes : List ℕ) (t : Task) → IsHearing (task_read bytes t) → IsHearing t
slide_hears bytes t = grind arith

slide_text : (t : Task) → IsSlide t → IsReadingText t → ⊥
slide_text (tasks.Text slot size foreign) of reading = of
slide_text t of reading = reading

never : {K : Type 0} {new : Port K} (x : Port K) → new ≡ x → (IsHearing x.task → ⊥) → IsHearing new.task → ⊥
never {K} x e f h = f (subst (λ (p : Port K). IsHearing p.task) e h)

forgets : (t : Task) → t ≡ tasks.Free → IsHearing t → ⊥
forgets t e h = subst (λ x. IsHearing x) e h

module _ {K : Type 0} {old new : Port K} where
  on : (x : Port K) → new ≡ x → (IsHearing x.task → IsHearing old.task) → x.controller ≡ old.controller
      → x.outgoing ≡ old.outgoing → x.owes_block ≡ old.owes_block → IsHearing new.task → ReadsOn old new
  on x e back controller outgoing owes h = grind arith

  -- behind a text no other is looked for at once
  pub text_quiet : {bytes : List ℕ} {done : Unit} → Seen bytes done old new → IsReadingText old.task
      → IsHearing new.task → ⊥
  text_quiet k reading h = grind (arith, slide_text, forgets, never)

  read_on : {bytes : List ℕ} {done : Unit} → Seen bytes done old new → IsHearing new.task → ReadsOn old new
  read_on {bytes} k h = grind (arith, on, slide_hears, forgets, never)

  went_quiet : {picks : List Choice → ℕ → Type 0} {outcome : Outcome} → Deed picks outcome old new
      → IsHearing new.task → ⊥
  went_quiet k h = grind (arith, forgets, never, step_quiet, hears_quiet, taken_or_not)

-- ---- what is wanted

module _ {K : Type 0} (picks : List _ → ℕ → Type 0) (action : Action) (old new : Port K)
    (r : Wants picks true old action new) where
  -- a slot is taken where nothing was in hand: then a block isn't due
  slot_taken : IsDue true new new.task → new.task ≡ tasks.Slot Commands → new.owes_block ≡ true
      → new.controller.waiting ≡ []
  slot_taken due slot owes = grind (arith, block_due, nothing_waits)

  from_free : old.task ≡ tasks.Free → IsDue true new new.task → IsHearing new.task → new.owes_block ≡ true
      → new.controller.waiting ≡ []
  from_free free due hears owes = grind (arith, none-some, slot_taken)

  -- a message is looked for as it was; or it is now, and where a block is owed nothing waits
  pub wants_hears : IsHearing new.task → (new ≡ old)
      ⊎ ((is_dead new.stage ≡ false) × (new.owes_block ≡ true → new.controller.waiting ≡ []))
  wants_hears hears = grind (arith, alive_or_dead, from_free)

-- ---- each call

-- it asks for nothing
abbrev pub IsNoNext : Call → Type 0
IsNoNext (Next blocks action bytes) = ⊥
IsNoNext call = Unit {0}

module _ {K : Type 0} (picks : Picking K) (old new : Port K) where
  touched_on : Touched old new → IsHearing new.task → ReadsOn old new
  touched_on h = grind (arith, on, again, forgets)

  pub reads_on : (call : Call) → IsNoNext call → Becomes picks call old new → IsHearing new.task → ReadsOn old new
  reads_on WriteIp none r = λ h. absurd (forgets new.task r.task h)
  reads_on ReadIp none r = touched_on (read_ip old new r)
  reads_on (WriteSa word) none r = touched_on (wrote_sa word old new r)
  reads_on (Next blocks action bytes) none r = absurd none
  reads_on (WasRead bytes (Ok done)) none r = read_on (sight bytes done old new r)
  reads_on (Went outcome (Ok done)) none r =
      λ h. absurd (went_quiet (deed (picks old.controller.picker) outcome done old new r) h)
  reads_on call none r = grind (arith, minor, on, put, again, anew, forgets)
