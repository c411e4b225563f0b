-- What a poll may tell: by what is outstanding when it comes, and by what comes and ends until it is answered.
use Rattle.std.specs.Prelude.{ℕ, ◌-◌, ◌*◌, Bool, true, false, not, ◌&&◌, ◌||◌, nat_eq, nat_lt, if◌then◌else◌, List, find, Option, Some, None}
use Rattle.std.specs.List.{list_any}
use Rattle.mscp_packet.specs.OpcodeBytes as opcodes
use Rattle.mscp_packet.specs.StatusCodes as statuses
use Rattle.mscp_drive.specs.declared.connection.Connection.{Connection}
use Rattle.mscp_wire.specs.Messages.{is_immediate, is_known, is_named, same_connection, status_code}
use Rattle.mscp_wire.specs.declared.answer.Answer.{Answer}
use Rattle.mscp_wire.specs.declared.sent.Asked.{Asked}
use Rattle.mscp_wire.specs.declared.sent.Asked.TheVariants.{Gone, Nothing, Oldest}
use Rattle.mscp_wire.specs.declared.sent.Sent.{Sent}

-- a number is there, and is this
abbrev pub is_it : Option ℕ → ℕ → Bool
is_it None number = false
is_it (Some found) number = nat_eq found number

-- ---- when a poll comes

-- a command of this connection isn't answered when it arrives, so that its host waits for it
abbrev pub waits_on : Connection → Sent → Bool
waits_on via s = same_connection s.connection via && not (is_immediate s.opcode)

abbrev pub has_number : Option Sent → ℕ → Bool
has_number None number = false
has_number (Some s) number = nat_eq s.reference number

-- a host polls the oldest of those (manual, "Host Command Timeouts"), and x is the oldest
abbrev pub is_oldest : List Sent → Sent → Bool
is_oldest xs x = not (is_immediate x.opcode) && has_number (find (waits_on x.connection) xs) x.reference

-- a poll of this time comes sooner than a controller timeout of so many seconds after one of that time: the host's own
-- haste (manual, "Host Command Timeouts"). It isn't known if a time isn't, or if no timeout was told
abbrev pub is_hasty : Option ℕ → Option ℕ → Option ℕ → Bool
is_hasty (Some timeout) (Some last) (Some time) = nat_lt (time - last) (timeout * 1000000000)
is_hasty timeout last time = false

-- a poll of this command may ask it for its figure: it names its unit and the oldest of its host, and isn't hasty after
-- the poll that was last told one
abbrev pub may_ask : Option ℕ → List Sent → Sent → Sent → Bool
may_ask timeout xs y x = nat_eq x.unit y.unit && is_oldest xs x && not (is_hasty timeout x.polled y.time)

-- what a poll asks of the command that has the number which it names. If there is none the figure is 0. If it may not
-- ask that, any is right
abbrev pub asked_about : Option ℕ → List Sent → Sent → Option Sent → Asked
asked_about timeout xs y None = Gone (Some 0)
asked_about timeout xs y (Some x) = if may_ask timeout xs y x then Oldest x.told else Nothing

-- the same by that number. Of itself a poll may tell any
abbrev pub asked_by : Option ℕ → List Sent → Sent → Option ℕ → Asked
asked_by timeout xs y None = Nothing
asked_by timeout xs y (Some other) =
    if nat_eq other y.reference then Nothing else asked_about timeout xs y (find (is_named y.connection other) xs)

-- a command, once it is known what it asks as a poll of those that are outstanding, by the controller timeout
abbrev pub asking : Option ℕ → List Sent → Sent → Sent
asking timeout xs y =
    record y {
      asked = if nat_eq y.opcode opcodes.get_command_status then asked_by timeout xs y y.parameter else Nothing;
    }

-- ---- when it is answered

-- its command, which has a modifier, is refused as an Invalid Command
abbrev pub is_refused : Sent → Answer → Bool
is_refused y e = y.modified && nat_eq (status_code e) statuses.invalid_command

-- the command that a poll is about, if its command is one and isn't refused
abbrev pub polled_by : Sent → Answer → Option ℕ
polled_by y e =
    if is_known e && nat_eq y.opcode opcodes.get_command_status && not (is_refused y e) then y.parameter else None

-- a figure is lower than the last one, if there is one
abbrev pub is_below : Option ℕ → ℕ → Bool
is_below None figure = true
is_below (Some last) figure = nat_lt figure last

-- a figure may be told that isn't 0: of the oldest command one that is lower than the last (manual, "Host Command
-- Timeouts"). So it may of one that was the oldest and ended since, and then any if another came that has its number
abbrev pub may_be : Asked → Bool → ℕ → Bool
may_be Nothing came figure = true
may_be (Oldest last) came figure = is_below last figure
may_be (Gone last) came figure = came || is_below last figure

-- a figure may be told. 0 says that the command isn't outstanding: its end may be on the way
abbrev pub may_tell : Asked → Bool → Option ℕ → Bool
may_tell asked came None = false
may_tell asked came (Some figure) = nat_eq figure 0 || may_be asked came figure

-- the figure that it tells is right, where its command y is a poll, and these came after y
abbrev pub has_figure : List Sent → Sent → Answer → Option ℕ → Bool
has_figure later y e None = true
has_figure later y e (Some other) = may_tell y.asked (list_any (is_named e.connection other) later) e.figure

-- ---- what the others hear of it

-- it tells the figure of the oldest command
abbrev pub asks_oldest : Asked → Bool
asks_oldest Nothing = false
asks_oldest (Oldest last) = true
asks_oldest (Gone last) = false

abbrev pub is_polled : Connection → Option ℕ → Sent → Bool
is_polled via None s = false
is_polled via (Some other) s = is_named via other s

-- the end e of y tells the figure of s
abbrev pub tells : Sent → Answer → Sent → Bool
tells y e s = asks_oldest y.asked && is_polled e.connection (polled_by y e) s

-- s is a poll of y
abbrev pub polls : Sent → Sent → Bool
polls y s =
    same_connection s.connection y.connection && nat_eq s.opcode opcodes.get_command_status
    && is_it s.parameter y.reference

-- what a poll asks once the command that it names ended. If that came after the poll, any figure was right meanwhile
abbrev pub left : Asked → Asked
left (Oldest last) = Gone last
left asked = Nothing

-- ---- beside which commands a GET UNIT STATUS is answered

-- an AVAILABLE or an ONLINE changes the state of its unit
abbrev pub turns : ℕ → Bool
turns opcode = nat_eq opcode opcodes.available || nat_eq opcode opcodes.online

-- y is one, and s a GET UNIT STATUS of its unit, or of whichever is next
abbrev pub turns_beside : Sent → Sent → Bool
turns_beside y s =
    turns y.opcode && nat_eq s.opcode opcodes.get_unit_status && same_connection s.connection y.connection
    && (s.next || nat_eq s.unit y.unit)

-- a command that is outstanding, once the end e of y came: it hears the figure that is told of it, and when y was sent,
-- to a poll of y that is gone, and a GET UNIT STATUS that its unit may have another state
abbrev pub hears : Sent → Answer → Sent → Sent
hears y e s = record s {
  told = if tells y e s then e.figure else s.told;
  polled = if tells y e s then y.time else s.polled;
  asked = if polls y s then left s.asked else s.asked;
  beside = turns_beside y s || s.beside;
}
