-- Calls that report no action: what is in step stays so.
use Rattle.mscp_ported.proofs.Common.{Call, IfSome, IsAsNew, List, None, Option, Port, Said, Some, Stage, Talk, Task, Turn, Wish, WriteIp, [], ap, arith, aside, false, inl, inr, is_dead, read_again, refl, silence, step_at, stepped, subst, sym, ℕ, ◌≡◌, ◌⊎◌, true, ◌≢◌}
use Rattle.mscp_port.specs.declared.stage.Stage.TheVariants as stages
use Rattle.mscp_port.specs.declared.task.Task.TheVariants as tasks
use Rattle.mscp_ported.proofs.After.{After, IsNoReset, IsPlain, ends, unmoved}
use Rattle.mscp_ported.proofs.Look.{Fits, InStep, IsAsked, IsClear, IsEnd, IsOfRings, IsOpen, IsOwned, IsSimple, IsTelling, Look, NeedsOut, block_rings, has_area, in_hand, look, told_on}

-- ---- all was forgotten

none_asked : (l : Look) (w : Option Wish) → IfSome w (λ x. IsAsked l tasks.Free x)
none_asked l None = tt
none_asked l (Some w) = tt

pub anew : {K : Type 0} (s : Stage) (old new : Port K) (v : Option Wish) → IsAsNew s old new → has_area s ≡ false
    → InStep (look new) silence v [] []
anew s old new v n no_area = grind (arith, has_area, look, none_asked, in_hand)

first_silent : (s : Stage) → stepped s stages.First silence ≡ silence
first_silent s = grind arith

-- the host wrote IP
pub writes_ip : {K : Type 0} (old new : Port K) (t : Talk) (w v : Option Wish) (said : List Said)
    (texts : List (List ℕ)) → IsAsNew stages.First old new → After WriteIp old (look new) t w v said texts
writes_ip old new t w v said texts n = grind (arith, look, anew, first_silent)

-- or a fatal error came
pub dies : {K : Type 0} (call : Call) (code : ℕ) (old new : Port K) (t : Talk) (w v : Option Wish) (said : List Said)
    (texts : List (List ℕ)) → IsNoReset call → IsAsNew (stages.Dead code) old new
    → After call old (look new) t w v said texts
dies call code old new t w v said texts calm n =
    ends call old (look new) t w v said texts calm (ap is_dead n.stage) (anew (stages.Dead code) old new v n refl)

-- ---- what is in hand stays, or is dropped

-- a slot that is being read, or a block
abbrev pub MayDrop : Task → Type 0
MayDrop (tasks.Slot side) = Unit {0}
MayDrop (tasks.Step verdict) = Unit {0}
MayDrop tasks.Transfer = Unit {0}
MayDrop task = ⊥

drop_open : (l : Look) (task : Task) (turn : Turn) → MayDrop task → Fits l task turn → IsOpen turn
drop_open l task turn may fit = grind arith

drop_hand : (task : Task) (turn : Turn) → MayDrop task → in_hand task turn ≡ []
drop_hand task turn may = grind arith

drop_calm : (task : Task) → MayDrop task → IsTelling task → ⊥
drop_calm (tasks.Return side slot) may h = may
drop_calm task may h = h

abbrev pub StaysOrDrops : Task → Task → Type 0
StaysOrDrops before after = (after ≡ before) ⊎ ((after ≡ tasks.Free) × MayDrop before)

-- a task that is not of the rings tells nothing
pub not_of_rings : (task : Task) → (IsOfRings task → ⊥)
    → (NeedsOut task → ⊥) × (IsTelling task → ⊥) × ((turn : Turn) → in_hand task turn ≡ [])
not_of_rings task never = grind arith

-- such a task is in hand now, and nothing else changed but the turn and whether a word waits
pub retask : (l : Look) (t : Talk) (w v : Option Wish) (said : List Said) (texts : List (List ℕ)) (word : Option ℕ)
    (task : Task) (turn : Turn) → InStep l t w said texts → IfSome word (λ x. t.answer ≡ x)
    → Fits (record l { word = word; task = task }) task turn
    → IfSome v (λ x. IsAsked (record l { word = word; task = task }) task x) → (IsOfRings task → ⊥)
    → (task ≡ tasks.Interrupt → ⊥) → (IsClear task → l.stage ≡ stages.Clearing) → IsOwned turn
    → (l.stage ≢ stages.Up → IsSimple turn) → (IsTelling l.task → ⊥) → in_hand l.task t.turn ≡ []
    → (is_dead l.stage ≡ true → IsEnd (record t { turn = turn }) said texts)
    → InStep (record l { word = word; task = task }) (record t { turn = turn }) v said texts
retask l t w v said texts word task turn k answer fits asked no_rings no_step clear own idle calm before ended =
    grind (arith, not_of_rings, block_rings, told_on)

pub dropped : (l : Look) (t : Talk) (w : Option Wish) (said : List Said) (texts : List (List ℕ)) (after : Task)
    → StaysOrDrops l.task after → InStep l t w said texts → InStep (record l { task = after }) t w said texts
dropped l t w said texts after either k = grind (arith, retask, drop_open, none_asked, drop_calm, drop_hand)

pub again_so : (task : Task) → StaysOrDrops task (read_again task)
again_so (tasks.Slot side) = inr (refl, tt)
again_so task = inl refl

pub aside_so : (task : Task) → StaysOrDrops task (aside task)
aside_so tasks.Transfer = inr (refl, tt)
aside_so task = inl refl

pub step_so : (o : Option ℕ) (task : Task) → StaysOrDrops task (step_at o task)
step_so o task = grind arith

module _ {K : Type 0} (call : Call) (old new : Port K) (t : Talk) (w : Option Wish) (said : List Said)
    (texts : List (List ℕ)) (plain : IsPlain call old) (k : InStep (look old) t w said texts) where
  -- no more changed than this
  pub lets_be : (after : Task) → StaysOrDrops old.task after → look new ≡ record (look old) { task = after }
      → After call old (look new) t w w said texts
  lets_be after either e =
      subst (λ l. After call old l t w w said texts) (sym e)
      (unmoved call old (record (look old) { task = after }) t w w said texts refl refl plain
      (dropped (look old) t w said texts after either k))

  pub same_port : new ≡ old → After call old (look new) t w w said texts
  same_port e = lets_be old.task (inl refl) (ap look e)
