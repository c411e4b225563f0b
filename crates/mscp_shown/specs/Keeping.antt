-- What is promised of all that a legal trace shows on the wire.
use Rattle.std.specs.Prelude.{◌≡◌, ℕ, ◌%◌, ◌^◌, ◌<◌, ◌≤◌, true, All, List, length, take, slice_index, Option, IfSome}
use Rattle.mscp_drive.specs.Settings.{IsValid, Settings, credits_of}
use Rattle.mscp_drive.specs.declared.connection.Connection.{Connection}
use Rattle.mscp_drive.specs.declared.block.Block.TheVariants.{Bad}
use Rattle.mscp_drive.specs.declared.event.Event.{Event}
use Rattle.mscp_drive.specs.declared.event.Event.TheVariants as events
use Rattle.mscp_packet.specs.declared.command.Order.TheVariants as orders
use Rattle.mscp_controller.specs.Commands.{connection, is_waiting, reference, sent_command}
use Rattle.mscp_controller.specs.History.{Moment, Trace, answers, is_step, moment}
use Rattle.mscp_controller.specs.Legal.{IsLegal}
use Rattle.mscp_wire.specs.Wire.{AreRight}
use Rattle.mscp_shown.specs.Shown.{shown}

-- each element of a list is a byte
abbrev pub AreBytes : List ℕ → Type 0
AreBytes b = (i : ℕ) → i < length b → slice_index b i < 256

-- an event is one that may come: its message is of bytes, and the status of a bad block is one that a drive or a medium
-- may have: its code is 5 to 11 (manual, "Status and Event Codes")
abbrev pub IsPossible : Event → Type 0
IsPossible (events.Send via b) = AreBytes b.items
IsPossible (events.Step (Bad status)) = (status < 2 ^ 16) × (5 ≤ status % 32) × (status % 32 ≤ 11)
IsPossible event = Unit {0}

-- a host may be told so many credits, if it is told any: each connection has no more
abbrev pub Covers : Option ℕ → Settings → Type 0
Covers credits c = IfSome credits (λ n. (via : Connection) → credits_of c via ≤ n)

-- a moment is a poll of a connection about the command of this reference number, and is answered
pub record Polls (via : Connection) (reference : ℕ) (m : Moment) : Type 0 where
  pub answered : answers via m.1 ≡ true
  pub about : (sent_command m).order ≡ orders.Status reference

-- between two polls about a command, which came before both and waits until the second, a step comes: a host polls once
-- in a controller timeout (manual, "Host Command Timeouts")
abbrev pub IsPatient : Trace → Type 0
IsPatient t = (x i j : ℕ) → x < i → i < j → j < length t → is_waiting (take j t) x ≡ true
    → Polls (connection (take j t) x) (reference (take j t) x) (moment t i)
    → Polls (connection (take j t) x) (reference (take j t) x) (moment t j)
    → (k : ℕ) × (i < k) × (k < j) × (is_step (moment t k).0 ≡ true)

-- the law: all that a legal trace of events that may come shows on the wire is right, where its hosts are patient
abbrev pub LegalTracesAreRight : Type 0
LegalTracesAreRight =
    (c : Settings) (t : Trace) (credits : Option ℕ) → IsValid c → IsLegal c t → All (λ m. IsPossible m.0) t
    → IsPatient t → Covers credits c → AreRight credits (shown t)
