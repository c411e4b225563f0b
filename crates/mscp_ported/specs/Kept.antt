-- What a port keeps of a command is what the message said by which that command came.
use Rattle.std.specs.Prelude.{◌≡◌, ◌⊎◌, ℕ, List, [], ◌∷◌, IfSome}
use Rattle.mscp_packet.specs.Number.{num}
use Rattle.mscp_packet.specs.declared.end.End.{End}
use Rattle.mscp_drive.specs.declared.connection.Connection.{Connection}
use Rattle.mscp_controller.specs.Holdings.{Holdings}
use Rattle.mscp_port.specs.declared.buffers.Buffer.{Buffer}
use Rattle.mscp_port.specs.declared.hardware.Hardware.{Hardware}
use Rattle.mscp_port.specs.declared.port.Port.{Port}
use Rattle.mscp_port.specs.Blocks.{kept_of}
use Rattle.mscp_port.specs.Buffers.{buffer_in}
use Rattle.mscp_port.specs.Calls.{IsMadeOf}
use Rattle.mscp_port.specs.Histories.{Answered, Picking, Call, WasRead}
use Rattle.mscp_ported.specs.Mounted.{Ends}
use Rattle.mscp_port.specs.Ports.{IsReadingText}
use Rattle.mscp_port.specs.Seen.{changes_at}
use Rattle.mscp_port.specs.Volumes.{place_in}

-- a message was read that has this reference number and is to this unit, and this is what it says, with how often that
-- unit's volume had changed then
pub record IsOfMessage {K : Type 0} (number to : ℕ) (bytes : List ℕ) (old : Port K) (b : Buffer) : Type 0 where
  pub text : IsReadingText old.task
  pub reference : num bytes 0 4 ≡ number
  pub unit : num bytes 4 2 ≡ to
  pub kept : b ≡ buffer_in bytes (changes_at old.volumes (place_in old.controller.settings.units to))

-- by a call
abbrev pub IsSaidBy : {K : Type 0} → ℕ → ℕ → Call → Port K → Buffer → Type 0
IsSaidBy number to (WasRead bytes result) old b = IsOfMessage number to bytes old b
IsSaidBy number to call old b = ⊥

-- by a call of a history
abbrev pub WasSaid : {K : Type 0} (picks : Picking K) (number to : ℕ) (start p : Port K) (calls : List Call)
    → Answered picks start calls p
    → Buffer → Type 0
WasSaid picks number to start p [] a b = ⊥
WasSaid picks number to start p (call ∷ earlier) a b =
    IsSaidBy number to call a.0 b ⊎ WasSaid picks number to start a.0 earlier a.1 b

-- the law of what is kept: whoever calls a port that was made over a controller, what is kept under the reference
-- number of a command whose end of Success comes was said by a message of that number, to the unit that the end names
abbrev pub PortsKeepWhatWasSaid : {K : Type 0} → Picking K → Type 0
PortsKeepWhatWasSaid {K} picks =
    (hardware : Hardware) (credits : ℕ) (controller : Holdings K) (start p : Port K) (call : Call) (calls : List Call)
    (place : ℕ) (via : Connection) (e : End)
    → IsMadeOf hardware credits controller start → (a : Answered picks start (call ∷ calls) p)
    → Ends picks place a.0 p via e
    → IfSome (kept_of via e.reference a.0.buffers.items) (λ b. WasSaid picks e.reference e.unit start a.0 calls a.1 b)
