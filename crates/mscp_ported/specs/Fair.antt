-- Between two polls comes a step of a command, if one may be served: so a host that polls at once again can't keep its
-- own
-- commands back, and a figure that is told twice has fallen.
use Rattle.std.specs.Prelude.{◌≡◌, ◌⊎◌, ℕ, Bool, true, List, [], ◌∷◌, Option, None, Ok}
use Rattle.mscp_controller.specs.Holdings.{Holdings}
use Rattle.mscp_controller.specs.declared.entry.Sent.TheVariants as sents
use Rattle.mscp_port.specs.declared.action.Action.{Action}
use Rattle.mscp_port.specs.declared.hardware.Hardware.{Hardware}
use Rattle.mscp_port.specs.declared.port.Port.{Port}
use Rattle.mscp_port.specs.declared.rings.Side.TheVariants.{Commands}
use Rattle.mscp_port.specs.declared.slot.Descriptor.{Descriptor}
use Rattle.mscp_port.specs.declared.task.Task.TheVariants as tasks
use Rattle.mscp_port.specs.Calls.{IsMadeOf}
use Rattle.mscp_ported.specs.Departures.{IsForgotten}
use Rattle.mscp_port.specs.Histories.{Answered, Picking, Call, Next, WasRead, Went}
use Rattle.mscp_port.specs.Messages.{own_end_of}
use Rattle.mscp_port.specs.Moved.{IsStepping}
use Rattle.mscp_port.specs.Seen.{answered_to, is_poll}

-- these bytes are the text of a poll, and the controller answers it
pub record IsPollHeard {K : Type 0} (bytes : List ℕ) (p : Port K) : Type 0 where
  pub text : (slot : Descriptor) × (size : ℕ) × (foreign : Bool) × (p.task ≡ tasks.Text slot size foreign)
      × (own_end_of p foreign bytes ≡ None)
  pub poll : is_poll bytes ≡ true
  pub answered : (reference : ℕ) × (aborted : Option ℕ)
      × (answered_to p bytes ≡ Ok (sents.Answered reference aborted))

-- by a call a poll is heard, or a step of a command is told to have gone somehow
abbrev pub HearsPoll : {K : Type 0} → Call → Port K → Type 0
HearsPoll (WasRead bytes (Ok done)) old = IsPollHeard bytes old
HearsPoll call old = ⊥

abbrev pub TellsStep : {K : Type 0} → Call → Port K → Type 0
TellsStep (Went outcome (Ok done)) old = IsStepping old.task
TellsStep call old = ⊥

-- a poll was heard since the port forgot last what its host had said, and no step was told since
abbrev pub IsOwed : {K : Type 0} (picks : Picking K) (start p : Port K) (calls : List Call)
    → Answered picks start calls p → Type 0
IsOwed picks start p [] a = ⊥
IsOwed picks start p (call ∷ earlier) a =
    HearsPoll call a.0
    ⊎ ((IsForgotten a.0 p ⊎ TellsStep call a.0 → ⊥) × IsOwed picks start a.0 earlier a.1)

-- the law of turns: whoever calls a port that was made over a controller and asks for blocks, while a step is owed the
-- port takes no slot of commands in hand but where no command waits
abbrev pub PortsServeBetweenPolls : {K : Type 0} → Picking K → Type 0
PortsServeBetweenPolls {K} picks =
    (hardware : Hardware) (credits : ℕ) (controller : Holdings K) (start p : Port K) (calls : List Call)
    (action : Action) (bytes : List ℕ) → IsMadeOf hardware credits controller start
    → (a : Answered picks start (Next true action bytes ∷ calls) p) → a.0.task ≡ tasks.Free
    → IsOwed picks start a.0 calls a.1
    → p.task ≡ tasks.Slot Commands → p.controller.waiting ≡ []
