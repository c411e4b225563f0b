-- What comes of calls on a port's handle. Much of a port is its own, so each is a relation.
use Rattle.std.specs.Prelude.{◌≡◌, ℕ, ℤ, List, unwrap_or, Result, Ok, Err, IfSome}
use Rattle.mscp_controller.specs.Holdings.{fresh}
use Rattle.mscp_port.specs.declared.action.Action.{Action}
use Rattle.mscp_port.specs.declared.action.Ask.{Ask}
use Rattle.mscp_port.specs.declared.action.Outcome.{Outcome}
use Rattle.mscp_port.specs.declared.action.Unasked.{Unasked}
use Rattle.mscp_port.specs.declared.port.watching.NoUnit.{NoUnit}
use Rattle.mscp_port.specs.declared.volumes.Medium.{Medium}
use Rattle.mscp_port.specs.declared.volumes.Volume.{Volume}
use Rattle.mscp_port.specs.declared.volumes.VolumeFault.{VolumeFault}
use Rattle.mscp_port.specs.declared.volumes.VolumeFault.TheVariants as faults
use Rattle.mscp_port.specs.Calls as ports
use Rattle.mscp_port.specs.Watching as watched
use Rattle.mscp_memory.specs.PortHandles.{Handle, Held, placed, with_held}
use Rattle.mscp_memory.specs.declared.policy.Policy.TheVariants.{Oldest}
use Rattle.mscp_memory.specs.Policies.{PolicyPicks}
use Rattle.mscp_port.specs.Ports.{asked, asks_blocks}
use Rattle.mscp_port.specs.Wanted.{bytes_wanted}
use Rattle.mscp_c.specs.declared.outs.ActionOut.{ActionOut}
use Rattle.mscp_c.specs.declared.port_given.HardwareIn.{HardwareIn}
use Rattle.mscp_c.specs.declared.status.TheConstants.{BAD_SIZE, DONE, UNKNOWN_UNIT, UNASKED}
use Rattle.mscp_c.specs.declared.units.Limits.{Limits}
use Rattle.mscp_c.specs.declared.units.UnitIn.{UnitIn}
use Rattle.mscp_c.specs.Given.{policy_given, settings_given}
use Rattle.mscp_c.specs.PortGiven.{hardware_given}
use Rattle.mscp_c.specs.PortTold.{action_told, next_code, serial_told}

-- the handle holds what this leaves of what it held, and is the same otherwise
pub record Holds (Leaves : Held → Held → Type 0) (old new : Handle) : Type 0 where
  pub rest : new ≡ with_held old new.held
  pub leaves : Leaves old.held new.held

-- ---- an init

-- a port of this hardware, over a controller of these limits, units and policy to which nothing came so far, is in the
-- room. Where the picker's number is none there is a fault
pub record MakesPort (l : Limits) (us : List UnitIn) (picker : ℕ) (hardware : HardwareIn) (credits : ℕ)
    (old new : Handle) : Type 0 where
  pub rest : new ≡ placed old new.held
  pub makes : IfSome (hardware_given hardware) (λ h.
      ports.IsMadeOf h credits (fresh (settings_given l us) (unwrap_or (policy_given picker) Oldest)) new.held)

-- ---- what is wanted, and how it went

-- status and out-struct tell what the port wants next of what it is asked for
pub record TellsWanted (ask : Ask) (old : Handle) (before : ActionOut) (status : ℤ) (new : Handle) (after : ActionOut)
    : Type 0 where
  pub action : Action
  pub wants : ports.Wants (PolicyPicks (asked ask old.held).controller.picker) (asks_blocks ask) (asked ask old.held)
      action new.held
  pub rest : new ≡ with_held old new.held
  pub code : status ≡ next_code action
  pub told : after ≡ action_told action (bytes_wanted new.held new.held.task) (serial_told new.held) before

-- the status of what was told of an action: done, or not asked for
abbrev pub told_code : Result (Unit {0}) Unasked → ℤ
told_code (Ok done) = DONE
told_code (Err unasked) = UNASKED

-- a call of what the handle holds was answered so, and its status tells the answer
pub record TellsAnswer {Answer : Type 0} (code_of : Answer → ℤ) (Follows : Held → Answer → Held → Type 0) (old : Handle)
    (status : ℤ) (new : Handle) : Type 0 where
  pub answer : Answer
  pub follows : Follows old.held answer new.held
  pub rest : new ≡ with_held old new.held
  pub code : status ≡ code_of answer

-- it tells what came of bytes that were read
abbrev pub TellsHeard : List ℕ → Handle → ℤ → Handle → Type 0
TellsHeard bytes = TellsAnswer told_code (ports.Hears bytes)

-- it tells what came of an action that went so. Of each action just what follows this outcome of it
abbrev pub TellsWent : Outcome → Handle → ℤ → Handle → Type 0
TellsWent outcome =
    TellsAnswer told_code (λ old. ports.Goes (PolicyPicks old.controller.picker) outcome old)

-- of one that tells of a block by its serial
abbrev pub TellsWentBy : ℕ → Outcome → Handle → ℤ → Handle → Type 0
TellsWentBy serial outcome =
    TellsAnswer told_code (λ old. ports.GoesBy (PolicyPicks old.controller.picker) serial outcome old)

-- the status of a volume that went, or whose protection was switched: done, or there is no such unit
abbrev pub volume_code : Result (Unit {0}) NoUnit → ℤ
volume_code (Ok done) = DONE
volume_code (Err fault) = UNKNOWN_UNIT

-- it tells what came of a volume of a unit that went, or whose protection was switched
abbrev pub TellsVolume : (Volume → Volume) → ℕ → Handle → ℤ → Handle → Type 0
TellsVolume becomes unit = TellsAnswer volume_code (watched.Changes becomes unit)

-- the status of a volume that came
abbrev pub put_code : Result (Unit {0}) VolumeFault → ℤ
put_code (Ok done) = DONE
put_code (Err faults.NoUnit) = UNKNOWN_UNIT
put_code (Err faults.Size) = BAD_SIZE

-- and of one that came
abbrev pub TellsPut : Medium → ℕ → Handle → ℤ → Handle → Type 0
TellsPut m unit = TellsAnswer put_code (watched.PutsIn m unit)
