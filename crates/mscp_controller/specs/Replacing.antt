-- What is promised of a controller whose picker is replaced between calls.
use Rattle.std.specs.Prelude.{◌≡◌, ℕ, zero, suc, List, [], ◌∷◌, length}
use Rattle.mscp_queue.specs.declared.view.Choice.{Choice}
use Rattle.mscp_drive.specs.Settings.{IsValid, Settings}
use Rattle.mscp_controller.specs.Holdings.{Holdings, fresh}
use Rattle.mscp_controller.specs.Legal.{IsPick}
use Rattle.mscp_controller.specs.Sweeping.{IsSwept, Sweeps}
use Rattle.mscp_controller.specs.Calls.{AnswersCall, AtEachCall, Call, StartsChosen, history}
use Rattle.mscp_controller.specs.Controllers.{KeepsPromise}

-- a call of a controller, or another picker, which picks from then on
pub data Turn (K : Type 0) : Type 0 where
  Called : Call → Turn K
  Replaced : K → Turn K

-- the calls among them
abbrev pub calls_of : {K : Type 0} → List (Turn K) → List Call
calls_of [] = []
calls_of (Called call ∷ turns) = call ∷ calls_of turns
calls_of (Replaced picker ∷ turns) = calls_of turns

-- what may be answered to them, one after the other, and what is held after them: each call is answered by the picker
-- that the controller has then
abbrev pub AnsweredInTurn : {K : Type 0}
    → (K → List Choice → ℕ → Type 0) → Holdings K → List (Turn K) → Holdings K → Type 0
AnsweredInTurn picks old [] new = new ≡ old
AnsweredInTurn {K} picks old (Called call ∷ turns) new =
    (next : Holdings K) × AnswersCall (picks old.picker) old call next × AnsweredInTurn picks next turns new
AnsweredInTurn picks old (Replaced picker ∷ turns) new = AnsweredInTurn picks (record old { picker = picker }) turns new

-- the picker that the controller has at a call, before which so many were made
abbrev pub picker_at : {K : Type 0} → K → List (Turn K) → ℕ → K
picker_at now [] n = now
picker_at now (Called call ∷ turns) zero = now
picker_at now (Called call ∷ turns) (suc n) = picker_at now turns n
picker_at now (Replaced picker ∷ turns) n = picker_at picker turns n

-- what is promised of a controller that was made with this picker, whose picker was replaced among these calls, and
-- that now holds this
pub record KeepsPromiseInTurn {K : Type 0} (picks : K → List Choice → ℕ → Type 0) (picker : K) (c : Settings)
    (turns : List (Turn K)) (held : Holdings K) : Type 0 where
  -- the promise is kept, whoever picks
  pub kept : KeepsPromise (λ view place. Unit {0}) c (calls_of turns) held
  -- each start, and each that a begin tells, is one that the picker which the controller had then may pick, in the view
  -- at its begin, or at the step where nothing was begun (profile)
  pub picked : AtEachCall (calls_of turns) (StartsChosen (λ so_far.
      IsPick c (picks (picker_at picker turns (length so_far))) (history so_far)))
  -- where that picker sweeps, it is the one of least cost in that view, and of those the oldest (profile)
  pub swept : AtEachCall (calls_of turns) (StartsChosen (λ so_far n.
      Sweeps (picks (picker_at picker turns (length so_far))) → IsSwept c (history so_far) n))

-- the law of pickers that are replaced (profile)
abbrev pub PromiseIsKeptInTurn : {K : Type 0} → (K → List Choice → ℕ → Type 0) → K → Type 0
PromiseIsKeptInTurn {K} picks picker =
    (c : Settings) (turns : List (Turn K)) (held : Holdings K) → IsValid c
    → AnsweredInTurn picks (fresh c picker) turns held → KeepsPromiseInTurn picks picker c turns held
