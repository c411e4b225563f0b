-- The line that shows a packet, which is a message written as a word of hexadecimal digits.
use Rattle.std.specs.Prelude.{◌≡◌, ℕ, ◌==◌, nat_lt, if◌then◌else◌, List, [], ◌∷◌, ◌++◌, length, slice_index, codes, Result, Ok, Err, IsOk}
use Rattle.std.specs.Fmt.{decimal}
use Rattle.hex.specs.Hex.{decode_of, encode_lower}
use Rattle.hex.specs.declared.error.FromHexError.{FromHexError}
use Rattle.mscp_packet.specs.EndcodeBytes.{unknown}
use Rattle.mscp_packet.specs.Statuses.{invalid_opcode}
use Rattle.mscp_packet.specs.Commands.{command_of, order_name}
use Rattle.mscp_packet.specs.Ends.{kind_of_code, reading_with}
use Rattle.mscp_packet.specs.declared.command.Command.{Command}
use Rattle.mscp_packet.specs.declared.command.Order.{Order}
use Rattle.mscp_packet.specs.declared.command.Order.TheVariants as orders
use Rattle.mscp_packet.specs.declared.end.End.{End}
use Rattle.mscp_packet.specs.declared.end.EndBody.{EndBody}
use Rattle.mscp_packet.specs.declared.end.EndBody.TheVariants as bodies
use Rattle.mscp_packet.specs.declared.reading.EndFault.{EndFault}
use Rattle.mscp_packet.specs.declared.reading.EndFault.TheVariants as ends
use Rattle.mscp_packet.specs.declared.reading.PacketFault.{PacketFault}
use Rattle.mscp_packet.specs.declared.reading.PacketFault.TheVariants as messages
use Rattle.mscp_packet.specs.Steps.{◌>>=◌}
use Rattle.mscp_text.specs.Lines.{line, status_text}
use Rattle.mscp_text.specs.declared.packet.Packet.{Packet}
use Rattle.mscp_text.specs.declared.packet.Packet.TheVariants as packets
use Rattle.mscp_text.specs.declared.packet.ShowFault.{ShowFault}
use Rattle.mscp_text.specs.declared.packet.ShowFault.TheVariants as faults

-- ---- a command

-- what is wrong with a command of this status (profile)
abbrev pub invalid_name : ℕ → List ℕ
invalid_name status = if status == invalid_opcode then codes "unknown" else codes "short"

-- what a command asks for (profile; the names are the manual's)
abbrev pub order_text : Order → List ℕ
order_text (orders.Abort other) = order_name (orders.Abort other) ++ codes " of " ++ decimal other
order_text (orders.Status other) = order_name (orders.Status other) ++ codes " of " ++ decimal other
order_text (orders.SetController version) =
    order_name (orders.SetController version) ++ codes " version " ++ decimal version
order_text (orders.Move kind count block) =
    order_name (orders.Move kind count block) ++ codes " bytes " ++ decimal count ++ codes " block " ++ decimal block
order_text (orders.Invalid opcode status) = invalid_name status ++ codes " opcode " ++ decimal opcode
order_text order = order_name order

abbrev pub command_text : Command → List ℕ
command_text command =
    codes "command " ++ decimal command.reference ++ codes " unit " ++ decimal command.unit ++ codes " "
    ++ order_text command.order

-- ---- an end

-- an endcode as two lower case hexadecimal digits
abbrev pub code_text : ℕ → List ℕ
code_text code = encode_lower (code ∷ [])

-- what an end tells beside its status (profile)
abbrev pub body_text : EndBody → List ℕ
body_text bodies.Bare = []
body_text (bodies.Abort other) = codes " of " ++ decimal other
body_text (bodies.Status other figure) = codes " of " ++ decimal other ++ codes " figure " ++ decimal figure
body_text (bodies.UnitStatus id media track group cylinder) =
    codes " id " ++ decimal id ++ codes " media " ++ decimal media ++ codes " track " ++ decimal track
    ++ codes " group " ++ decimal group ++ codes " cylinder " ++ decimal cylinder
body_text (bodies.Controller timeout id) = codes " timeout " ++ decimal timeout ++ codes " id " ++ decimal id
body_text (bodies.Online id media size serial) =
    codes " id " ++ decimal id ++ codes " media " ++ decimal media ++ codes " size " ++ decimal size
    ++ codes " serial " ++ decimal serial
body_text (bodies.Moved count) = codes " bytes " ++ decimal count

abbrev pub end_text : End → List ℕ
end_text e =
    codes "end " ++ decimal e.reference ++ codes " unit " ++ decimal e.unit ++ codes " code " ++ code_text e.code
    ++ codes " status " ++ status_text e.status ++ body_text e.body

-- ---- a packet

-- the line of a packet
abbrev pub packet_line : Packet → List ℕ
packet_line (packets.Command command) = line (command_text command)
packet_line (packets.End e) = line (end_text e)

-- ---- the packet of a word

abbrev pub in_hex : Result (List ℕ) FromHexError → Result (List ℕ) ShowFault
in_hex (Ok bytes) = Ok bytes
in_hex (Err fault) = Err faults.Hex

-- the bytes of a word, each of two hexadecimal digits of either case
abbrev pub bytes_of : List ℕ → Result (List ℕ) ShowFault
bytes_of word = in_hex (decode_of word)

-- these bytes, of which there have to be 12 to 64 (profile)
abbrev pub sized : List ℕ → Result (List ℕ) ShowFault
sized b =
    if nat_lt (length b) 12 then Err faults.Short else (if nat_lt 64 (length b) then Err faults.Long else Ok b)

-- the message that a word is the digits of, of 12 to 64 bytes
abbrev pub message_of : List ℕ → Result (List ℕ) ShowFault
message_of word = bytes_of word >>= sized

-- what the faults of the readers of messages are called here
abbrev pub of_message : PacketFault → ShowFault
of_message messages.Short = faults.Short
of_message messages.Long = faults.Long

abbrev pub of_end : EndFault → ShowFault
of_end ends.Code = faults.Code
of_end ends.Length = faults.Length

abbrev pub as_end : Result End EndFault → Result Packet ShowFault
as_end (Ok e) = Ok (packets.End e)
as_end (Err fault) = Err (of_end fault)

-- the packet of a message: a command, or where the top bit of byte 8 is set an end (profile)
abbrev pub packet_of : List ℕ → Result Packet ShowFault
packet_of b =
    if nat_lt (slice_index b 8) unknown
    then Ok (packets.Command (command_of b))
    else as_end (reading_with (kind_of_code (slice_index b 8)) b)

-- the line of a word's packet, or its first fault (profile)
unfoldable pub shown : List ℕ → Result (List ℕ) ShowFault
shown word = do
  message ← message_of word
  packet ← packet_of message
  Ok (packet_line packet)

-- what was returned, seen by view, is what the definition says. Memory may run out where that is a line, and a fault is
-- told without memory (profile)
abbrev pub Shows : {X : Type 0} → (X → List ℕ) → Result X ShowFault → Result (List ℕ) ShowFault → Type 0
Shows view (Ok text) wanted = wanted ≡ Ok (view text)
Shows view (Err faults.OutOfMemory) wanted = IsOk wanted
Shows view (Err fault) wanted = wanted ≡ Err fault
