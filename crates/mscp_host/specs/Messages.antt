-- What a port sends: an envelope, and a text (UQSSP, "Envelope Header" and "Message Types").
use Rattle.std.specs.Prelude.{ℕ, ◌/◌, ◌%◌, not, nat_eq, nat_lt, nat_le, if◌then◌else◌, List, length, take, slice_index, Result, Ok, Err}
use Rattle.mscp_packet.specs.EndcodeBytes as endcodes
use Rattle.mscp_packet.specs.Number.{num}
use Rattle.mscp_packet.specs.declared.end.End.{End}
use Rattle.mscp_packet.specs.declared.end.EndBody.TheVariants as bodies
use Rattle.mscp_packet.specs.declared.reading.EndFault.{EndFault}
use Rattle.mscp_packet.specs.declared.reading.EndFault.TheVariants as ends
use Rattle.mscp_host.specs.declared.envelope.Envelope.{Envelope}
use Rattle.mscp_host.specs.declared.message.HearFault.{HearFault}
use Rattle.mscp_host.specs.declared.message.HearFault.TheVariants as faults
use Rattle.mscp_host.specs.declared.message.Message.{Message}
use Rattle.mscp_host.specs.declared.message.Message.TheVariants as messages
use Rattle.mscp_host.specs.Accounts.{end_in}

-- the length of the text, the credits with the type, and the connection
abbrev pub envelope_in : List ℕ → Envelope
envelope_in b = record {
  length = num b 0 2;
  credits = slice_index b 2 % 16;
  kind = slice_index b 2 / 16;
  connection = slice_index b 3;
}

-- an end without a body, of an opcode that has no line in the table of ends
abbrev pub bare_end : List ℕ → End
bare_end t = record {
  reference = num t 0 4;
  unit = num t 4 2;
  code = slice_index t 8;
  status = num t 10 2;
  body = bodies.Bare;
}

-- an end of any opcode
abbrev pub any_end : List ℕ → Result End EndFault → Result Message HearFault
any_end t (Ok e) = Ok (messages.End e)
any_end t (Err ends.Code) = Ok (messages.End (bare_end t))
any_end t (Err ends.Length) = Err faults.Unreadable

-- a sequential message is an end, if the top bit of byte 8 is set, or an attention message, if the one below it is
-- (manual, "End Messages" and "Attention Messages")
abbrev pub sequential_in : List ℕ → Result Message HearFault
sequential_in t =
    if nat_lt (length t) 12 then Err faults.Unreadable else (
    if nat_le endcodes.unknown (slice_index t 8) then any_end t (end_in t) else (
    if nat_le endcodes.available_attention (slice_index t 8) then Ok (messages.Attention (slice_index t 8) (num t 4 2))
    else Err faults.Unreadable))

-- a message of a type
abbrev pub typed_in : ℕ → List ℕ → Result Message HearFault
typed_in kind t =
    if nat_eq kind 0 then sequential_in t else (
    if nat_eq kind 1 then Ok messages.Datagram else (
    if nat_eq kind 2 then Ok messages.Credits else Err faults.Kind))

-- the message of an envelope and the bytes behind it, or why it is none: the first that holds
abbrev pub message_in : Envelope → List ℕ → Result Message HearFault
message_in v b =
    if nat_lt (length b) v.length then Err faults.Cut else (
    if not (nat_eq v.connection 0) then Err faults.Connection else
    typed_in v.kind (take v.length b))
