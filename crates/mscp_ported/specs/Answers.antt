-- Which messages a port answers itself, and with what, and what its controller gets of the others (manual, "Command
-- Messages"; port: UQSSP, "Diagnostic and Utilities Protocol").
use Rattle.std.specs.Prelude.{◌≡◌, ◌+◌, ◌/◌, ◌%◌, ◌==◌, ◌&&◌, ◌++◌, ◌∷◌, [], ℕ, Bool, true, false, nat_le, nat_lt, if◌then◌else◌, List, drop, find, is_none, length, option_map, replicate, slice_index, take, Option, None, Some, Ok}
use Rattle.byteorder.specs.Endian.{little_bytes}
use Rattle.mscp_packet.specs.EndcodeBytes as endcodes
use Rattle.mscp_packet.specs.Number.{num}
use Rattle.mscp_packet.specs.OpcodeBytes as opcodes
use Rattle.mscp_packet.specs.Statuses as statuses
use Rattle.mscp_drive.specs.Both.{of}
use Rattle.mscp_drive.specs.Extent.{blocks}
use Rattle.mscp_drive.specs.Shape.{Shape}
use Rattle.mscp_drive.specs.declared.connection.Connection.TheVariants.{First}
use Rattle.mscp_controller.specs.Holdings.{Holdings, after_message}
use Rattle.mscp_port.specs.declared.hardware.Hardware.{Hardware}
use Rattle.mscp_port.specs.declared.port.Outgoing.{Outgoing}
use Rattle.mscp_port.specs.declared.port.OutgoingKind.{OutgoingKind}
use Rattle.mscp_port.specs.declared.port.OutgoingKind.TheVariants as kinds
use Rattle.mscp_port.specs.declared.port.Port.{Port}
use Rattle.mscp_port.specs.declared.volumes.Volume.{Volume}
use Rattle.mscp_port.specs.Calls.{IsMadeOf}
use Rattle.mscp_packet.specs.Opcodes.{port_answers}
use Rattle.mscp_port.specs.Histories.{Answered, Call, Picking, WasRead}
use Rattle.mscp_packet.specs.Opcodes.{is_transfer_opcode}
use Rattle.mscp_port.specs.Volumes.{place_in, volume_at}
use Rattle.mscp_ported.specs.Talk.{AsksAlways, Opened, Slot, talk_of}

-- ---- messages

-- an end of the port's own: its endcode and status, and whether it tells that no byte was moved
pub record Own : Type 0 where
  pub code : ℕ
  pub status : ℕ
  pub tells_bytes : Bool

-- what a port answers, as the table says, asks nothing of a disk: DETERMINE ACCESS PATHS, COMPARE CONTROLLER DATA and
-- FLUSH
abbrev pub asks_nothing : ℕ → Bool
asks_nothing opcode = port_answers opcode

-- ACCESS, ERASE, COMPARE HOST DATA, READ and WRITE, with all their fields
abbrev pub moves_data : List ℕ → Bool
moves_data b = is_transfer_opcode (slice_index b 8) && nat_le 32 (length b)

-- a transfer whose first block isn't on the volume, or another one
abbrev pub past_end : ℕ → ℕ → ℕ → Option ℕ
past_end size block count =
    if nat_le size block then Some statuses.invalid_block
    else if nat_lt size (block + blocks count) then Some statuses.invalid_version
    else None

abbrev pub own_refusal : List ℕ → Option Volume → Option ℕ
own_refusal b None = None
own_refusal b (Some v) = if v.is_there && moves_data b then past_end v.size (num b 28 4) (num b 12 4) else None

-- a message for the utilities has an unknown opcode here, and one that asks nothing, of a unit which isn't there,
-- succeeds
abbrev pub own_answer : Bool → Option Volume → List ℕ → Option Own
own_answer foreign v b =
    if foreign then Some (record {
      code = endcodes.unknown;
      status = statuses.invalid_opcode;
      tells_bytes = false;
    })
    else if is_none v && asks_nothing (slice_index b 8) then Some (record {
      code = slice_index b 8 + endcodes.unknown;
      status = statuses.success;
      tells_bytes = false;
    })
    else option_map (λ status. record {
      code = slice_index b 8 + endcodes.unknown;
      status = status;
      tells_bytes = true;
    }) (own_refusal b v)

-- the number and the unit are the message's
abbrev pub own_text : List ℕ → Own → List ℕ
own_text b own =
    little_bytes 4 (num b 0 4) ++ little_bytes 2 (num b 4 2) ++ (0 ∷ 0 ∷ own.code ∷ 0 ∷ [])
    ++ little_bytes 2 own.status ++ (if own.tells_bytes then replicate 20 0 else [])

abbrev pub kind_answered : Bool → OutgoingKind
kind_answered foreign = if foreign then kinds.UtilitiesEnd else kinds.End

-- the volume of the unit that a message names, if there is such a unit
abbrev pub volume_named : {K : Type 0} → Port K → List ℕ → Option Volume
volume_named p b = option_map (volume_at p.volumes) (place_in p.controller.settings.units (num b 4 2))

-- the connection of a message is in the high byte of its header: 2 is that of the utilities
abbrev pub is_for_utilities : ℕ → Bool
is_for_utilities header = header / 0x100_0000 == 2

-- it is the answer to a message with this header and text
pub record IsOwnAnswer {K : Type 0} (p : Port K) (header : ℕ) (text : List ℕ) (o : Outgoing) : Type 0 where
  pub kind : o.kind ≡ kind_answered (is_for_utilities header)
  pub own : (own : Own) × (own_answer (is_for_utilities header) (volume_named p text) text ≡ Some own)
      × (o.bytes.items ≡ own_text text own)

-- the law of answers: whoever calls a port that was made over a controller, and tells of actions only after they were
-- wanted: what begins to go out as a text is read is the answer to that message, which the port may give itself; and no
-- end waits then that came for the host before, so that it passes that of no command
abbrev pub PortsAnswerAsTheyMay : {K : Type 0} → Picking K → Type 0
PortsAnswerAsTheyMay {K} picks =
    (hardware : Hardware) (credits : ℕ) (controller : Holdings K) (start p : Port K) (calls : List Call)
    (bytes : List ℕ) (done : Unit) (o : Outgoing) → IsMadeOf hardware credits controller start
    → AsksAlways (WasRead bytes (Ok done) ∷ calls) → (a : Answered picks start (WasRead bytes (Ok done) ∷ calls) p)
    → a.0.outgoing ≡ None → p.outgoing ≡ Some o
    → (slot : Slot) × (header : ℕ) × ((talk_of picks start a.0 calls a.1).turn ≡ Opened slot header)
    × IsOwnAnswer a.0 header bytes o × (of First a.0.controller.untaken ≡ [])

-- ---- what the controller gets

abbrev pub number_in : Option Shape → ℕ
number_in None = 0
number_in (Some unit) = unit.number

-- a GET UNIT STATUS with modifier 1 asks for the first unit whose number isn't below that which it names
abbrev pub asks_next : List ℕ → Bool
asks_next b = slice_index b 8 == opcodes.get_unit_status && num b 10 2 % 2 == 1

-- in the place of one that asks nothing of a disk comes an ACCESS of no bytes, with its number and unit: so it
-- passes no command that a transfer may not pass (manual, "Command Categories and Execution Order")
abbrev pub access_of_nothing : List ℕ → List ℕ
access_of_nothing b = take 8 b ++ opcodes.access ∷ replicate 23 0

-- each byte of any other message, but that such a one names that unit, or 0 if there is none
abbrev pub text_handed : List Shape → List ℕ → List ℕ
text_handed units b =
    if asks_nothing (slice_index b 8) then access_of_nothing b
    else if asks_next b
    then take 4 b
    ++ little_bytes 2 (number_in (find (λ unit. nat_le (num b 4 2) unit.number) units)) ++ drop 6 b
    else b

-- what may be answered by the port is never sent to the controller, and anything else is, as of the host's connection
abbrev pub IsHandedOver : {K : Type 0} → Option Own → List ℕ → Port K → Port K → Type 0
IsHandedOver None text old new =
    new.controller ≡ after_message First old.controller (text_handed old.controller.settings.units text)
IsHandedOver (Some own) text old new = new.controller ≡ old.controller

-- the law of what is handed over: whoever calls such a port: a text that was read goes to the controller just if the
-- port may not answer it itself
abbrev pub PortsHandOverTheRest : {K : Type 0} → Picking K → Type 0
PortsHandOverTheRest {K} picks =
    (hardware : Hardware) (credits : ℕ) (controller : Holdings K) (start p : Port K) (calls : List Call)
    (bytes : List ℕ) (done : Unit) (slot : Slot) (header : ℕ) → IsMadeOf hardware credits controller start
    → AsksAlways (WasRead bytes (Ok done) ∷ calls) → (a : Answered picks start (WasRead bytes (Ok done) ∷ calls) p)
    → (talk_of picks start a.0 calls a.1).turn ≡ Opened slot header
    → IsHandedOver (own_answer (is_for_utilities header) (volume_named a.0 bytes) bytes) bytes a.0 p
