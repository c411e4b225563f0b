-- An end fits the message whose end it is: by unit and endcode, and that of an ABORT or a poll by the command that it
-- is about (manual, "End Messages", "GET COMMAND STATUS").
use Rattle.std.specs.Prelude.{◌≡◌, ◌⊎◌, ◌+◌, ◌<◌, ◌≤◌, ◌∷◌, [], ℕ, All, List, filter, length, slice_index, true, None}
use Rattle.mscp_packet.specs.EndcodeBytes as endcodes
use Rattle.mscp_packet.specs.Number.{num}
use Rattle.mscp_packet.specs.Opcodes.{opcode_of}
use Rattle.mscp_packet.specs.Statuses as statuses
use Rattle.mscp_drive.specs.Settings.{IsValid, Settings}
use Rattle.mscp_drive.specs.declared.connection.Connection.TheVariants.{First}
use Rattle.mscp_controller.specs.Calls.{AnsweredCalls, Call as Made}
use Rattle.mscp_controller.specs.Holdings.{Holdings, fresh, outstanding_of}
use Rattle.mscp_port.specs.declared.hardware.Hardware.{Hardware}
use Rattle.mscp_port.specs.declared.port.Port.{Port}
use Rattle.mscp_port.specs.Calls.{IsMadeOf}
use Rattle.mscp_port.specs.Histories.{Answered, Call, Picking}
use Rattle.mscp_ported.specs.Answers.{asks_next}
use Rattle.mscp_ported.specs.Awaited.{ReadsBytes, awaited, has_number}
use Rattle.mscp_ported.specs.Ends.{ends_said_by}

-- an endcode is that of a message's opcode byte; or that of an unknown opcode, where no opcode has that byte
abbrev pub IsCodeFor : ℕ → List ℕ → Type 0
IsCodeFor code message =
    ((code ≡ endcodes.unknown) × (opcode_of (slice_index message 8) ≡ None))
    ⊎ (code ≡ slice_index message 8 + endcodes.unknown)

-- a unit is the one that a message names; or it is any, where the message asks for the next unit
abbrev pub IsUnitFor : ℕ → List ℕ → Type 0
IsUnitFor unit message = (unit ≡ num message 4 2) ⊎ (asks_next message ≡ true)

-- an end has such a unit and endcode; and that of an ABORT or of a poll is about the command that the
-- message names, and succeeds, if that has all bytes of one
pub record Fits (text message : List ℕ) : Type 0 where
  pub unit : IsUnitFor (num text 4 2) message
  pub code : IsCodeFor (slice_index text 8) message
  pub about : (slice_index text 8 ≡ endcodes.abort) ⊎ (slice_index text 8 ≡ endcodes.get_command_status)
      → 16 ≤ length message → num text 12 4 ≡ num message 12 4
  pub succeeds : (slice_index text 8 ≡ endcodes.abort) ⊎ (slice_index text 8 ≡ endcodes.get_command_status)
      → 16 ≤ length message → num text 10 2 ≡ statuses.success

-- the law of endcodes: a port was made over a controller, which had answered some calls before, has nothing of its
-- host's, and no unit without a block. Whoever calls the port, what it reads being bytes: an end of the controller's
-- that begins to go out fits the awaited message of its number
abbrev pub PortsEndByOpcode : {K : Type 0} → Picking K → K → Type 0
PortsEndByOpcode {K} picks picker =
    (c : Settings) (before : List Made) (controller : Holdings K) (hardware : Hardware) (credits : ℕ)
    (start p : Port K) (call : Call) (calls : List Call) (text message : List ℕ) → IsValid c
    → All (λ unit. 0 < unit.size) c.units
    → AnsweredCalls (picks picker) (fresh c picker) before controller → outstanding_of First controller ≡ []
    → IsMadeOf hardware credits controller start → ReadsBytes (call ∷ calls)
    → (a : Answered picks start (call ∷ calls) p) → ends_said_by call a.0 p ≡ text ∷ []
    → filter (has_number (num text 0 4)) (awaited picks start a.0 calls a.1) ≡ message ∷ [] → Fits text message
