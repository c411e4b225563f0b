-- How what a call answers is told.
use Rattle.std.specs.Prelude.{◌≡◌, ℕ, ◌%◌, ℤ, nat_eq, nat_lt, if◌then◌else◌, Bool, true, false, is_some, unwrap_or, List, ◌++◌, length, map, take, drop, Option, Some, None, Result, Ok, Err}
use Rattle.arrayvec.specs.ArrayVec.{ArrayVec}
use Rattle.mscp_packet.specs.declared.command.Order.{Order}
use Rattle.mscp_packet.specs.declared.command.Order.TheVariants as orders
use Rattle.mscp_packet.specs.declared.end.End.{End}
use Rattle.mscp_packet.specs.Commands.{opcode_byte}
use Rattle.mscp_packet.specs.Statuses.{success}
use Rattle.mscp_drive.specs.declared.connection.Connection.{Connection}
use Rattle.mscp_drive.specs.declared.connection.Connection.TheVariants.{First, Second}
use Rattle.mscp_queue.specs.Names.{name_on}
use Rattle.mscp_drive.specs.declared.block.Block.{Block}
use Rattle.mscp_drive.specs.declared.block.Block.TheVariants.{Good, Bad}
use Rattle.mscp_queue.specs.declared.report.Report.{Report}
use Rattle.mscp_queue.specs.declared.report.Report.TheVariants.{Idle, Served}
use Rattle.mscp_queue.specs.declared.upcoming.Upcoming.{Upcoming}
use Rattle.mscp_queue.specs.Figures.{figure_of_name, figures}
use Rattle.mscp_queue.specs.declared.why.Holder.{Holder}
use Rattle.mscp_queue.specs.Why.{holders_of_name}
use Rattle.mscp_controller.specs.declared.entry.SendFault.{SendFault}
use Rattle.mscp_controller.specs.declared.entry.Sent.{Sent}
use Rattle.mscp_controller.specs.declared.entry.Sent.TheVariants.{Queued, Answered}
use Rattle.mscp_memory.specs.ControllerHandles.{Held}
use Rattle.mscp_c.specs.declared.status.TheConstants as status
use Rattle.mscp_c.specs.declared.outs.SentOut.{SentOut}
use Rattle.mscp_c.specs.declared.outs.PacketOut.{PacketOut}
use Rattle.mscp_c.specs.declared.outs.UpcomingOut.{UpcomingOut}
use Rattle.mscp_c.specs.declared.outs.ReportOut.{ReportOut}
use Rattle.mscp_c.specs.declared.outs.FigureOut.{FigureOut}
use Rattle.mscp_c.specs.declared.outs.HolderOut.{HolderOut}
use Rattle.mscp_c.specs.Statuses.{send_fault_code}

-- a flag as a number
abbrev pub flag : Bool → ℕ
flag true = 1
flag false = 0

-- a connection as a number
abbrev pub connection_told : Connection → ℕ
connection_told First = 0
connection_told Second = 1

-- ---- a message

-- the status of the answer
abbrev pub send_code : Result Sent SendFault → ℤ
send_code (Ok (Queued reference)) = status.QUEUED
send_code (Ok (Answered reference aborted)) = status.ANSWERED
send_code (Err fault) = send_fault_code fault

-- what is told of it. Of a refusal nothing is
abbrev pub sent_told : Result Sent SendFault → SentOut → SentOut
sent_told (Ok (Queued reference)) out = record { reference = reference; aborted = 0; has_aborted = 0 }
sent_told (Ok (Answered reference aborted)) out =
    record { reference = reference; aborted = unwrap_or aborted 0; has_aborted = flag (is_some aborted) }
sent_told (Err fault) out = out

-- ---- a packet

-- these bytes are told: so many, from the first on, and those behind them are what they were
pub record PacketTold (b : List ℕ) (old new : PacketOut) : Type 0 where
  pub count : new.length ≡ length b
  pub bytes : take (length b) new.bytes ≡ b
  pub rest : drop (length b) new.bytes ≡ drop (length b) old.bytes

-- the status of a take
abbrev pub take_code : Option (ArrayVec ℕ) → ℤ
take_code None = status.NOTHING
take_code (Some end) = status.DONE

-- what is told of it. Where there is no end nothing is
abbrev pub TakeTold : Option (ArrayVec ℕ) → PacketOut → PacketOut → Type 0
TakeTold None old new = new ≡ old
TakeTold (Some end) old new = PacketTold end.items old new

-- ---- a begin

-- the bytes of a transfer, 0 of any other order
abbrev pub bytes_of : Order → ℕ
bytes_of (orders.Move kind bytes block) = bytes
bytes_of order = 0

-- the status of a begin
abbrev pub begin_code : Option Upcoming → ℤ
begin_code None = status.NOTHING
begin_code (Some upcoming) = status.DONE

-- what is told of it. Where nothing waits nothing is
abbrev pub upcoming_told : Option Upcoming → ℕ → UpcomingOut → UpcomingOut
upcoming_told None serial out = out
upcoming_told (Some u) serial out = record {
  serial = serial;
  reference = u.command.reference;
  bytes = bytes_of u.command.order;
  lbn = unwrap_or u.lbn 0;
  done = u.done;
  weight = u.weight;
  unit = u.command.unit;
  opcode = opcode_byte u.command.order;
  touches = flag (is_some u.lbn);
  connection = connection_told u.connection;
}

-- ---- a step

-- the outcome of a block of this status, if it is one: good where it is 0
abbrev pub block_told : ℕ → Option Block
block_told status =
    if nat_eq status success then Some Good else (if nat_lt (status % 32) 5 then None else Some (Bad status))

-- the status of a report
abbrev pub report_code : Report → ℤ
report_code Idle = status.NOTHING
report_code (Served connection reference unit lbn started seek ended) = status.DONE

-- the status of an end, 0 where there is none
abbrev pub status_told : Option End → ℕ
status_told None = 0
status_told (Some end) = end.status

-- what is told of a report. Where nothing waits nothing is
abbrev pub report_told : Report → ReportOut → ReportOut
report_told Idle out = out
report_told (Served connection reference unit lbn started seek ended) out = record {
  reference = reference;
  lbn = unwrap_or lbn 0;
  seek = seek;
  unit = unit;
  status = status_told ended;
  touched = flag (is_some lbn);
  started = flag started;
  ended = flag (is_some ended);
  connection = connection_told connection;
}

-- ---- figures

-- the figures of the waiting commands, and that of the connection's command of this reference number, 0 where none
-- waits
abbrev pub figures_in : Held → List (Connection × ℕ × ℕ)
figures_in h = figures h.settings.budget h.waiting

abbrev pub figure_in : Held → Connection → ℕ → ℕ
figure_in h via reference = figure_of_name h.settings.budget h.waiting (name_on via reference)

-- a connection, a reference number and a figure
abbrev pub figure_told : (Connection × ℕ × ℕ) → FigureOut
figure_told f = record { reference = f.1; figure = f.2; connection = connection_told f.0 }

-- as many of the figures as there is room for, and then what was there
abbrev pub figures_told : List (Connection × ℕ × ℕ) → List FigureOut → List FigureOut
figures_told fs out = map figure_told (take (length out) fs) ++ drop (length fs) out

-- ---- why a command may not start

-- who keeps the connection's command of this reference number back, nobody where none waits of it
abbrev pub holders_in : Held → Connection → ℕ → List Holder
holders_in h via reference = holders_of_name h.settings.budget h.waiting (name_on via reference)

abbrev pub holder_told : Holder → HolderOut
holder_told it = record {
  reference = it.reference;
  connection = connection_told it.connection;
  fences = flag it.fences;
  overdrawn = flag it.overdrawn;
}

-- as many of them as there is room for, and then what was there
abbrev pub holders_told : List Holder → List HolderOut → List HolderOut
holders_told hs out = map holder_told (take (length out) hs) ++ drop (length hs) out
