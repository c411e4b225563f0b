-- What a line after the header asks for: these events, one after the other.
use Rattle.std.specs.Prelude.{◌≡◌, ℕ, is_some, Bool, true, false, if◌then◌else◌, List, [], ◌∷◌, replicate, codes, Option, Some, None, Result, Ok, Err}
use Rattle.std.specs.Str.{bytes_eq}
use Rattle.mscp_packet.specs.Commands.{command_bytes, order_opcode}
use Rattle.mscp_packet.specs.declared.command.Command.{Command}
use Rattle.mscp_packet.specs.declared.command.Order.TheVariants as orders
use Rattle.mscp_packet.specs.declared.command.MoveKind.TheVariants as moves
use Rattle.mscp_drive.specs.declared.block.Block.TheVariants.{Good, Bad}
use Rattle.mscp_drive.specs.declared.connection.Connection.{Connection}
use Rattle.mscp_drive.specs.declared.connection.Connection.TheVariants.{First, Second}
use Rattle.mscp_drive.specs.declared.event.Event.{Event}
use Rattle.mscp_drive.specs.declared.event.Event.TheVariants as events
use Rattle.mscp_packet.specs.Steps.{◌>>=◌}
use Rattle.mscp_reader.specs.Lexical.{wide, narrow, steps_in, message, status, bad_in}
use Rattle.mscp_reader.specs.declared.fault.Cause.{Cause}
use Rattle.mscp_reader.specs.declared.fault.Cause.TheVariants as causes
use Rattle.mscp_reader.specs.declared.events.Form.{Form}
use Rattle.mscp_reader.specs.declared.events.Form.TheVariants as forms
use Rattle.mscp_reader.specs.declared.request.Request.{Request}
use Rattle.mscp_reader.specs.declared.request.Request.TheVariants as requests

-- ---- so many fields and no others

abbrev pub none : List (List ℕ) → Result (Unit {0}) Cause
none [] = Ok tt
none fields = Err causes.Count

abbrev pub one : List (List ℕ) → Result (List ℕ) Cause
one (a ∷ []) = Ok a
one fields = Err causes.Count

abbrev pub two : List (List ℕ) → Result (List ℕ × List ℕ) Cause
two (a ∷ b ∷ []) = Ok (a, b)
two fields = Err causes.Count

abbrev pub four : List (List ℕ) → Result (List ℕ × List ℕ × List ℕ × List ℕ) Cause
four (a ∷ b ∷ c ∷ d ∷ []) = Ok (a, b, c, d)
four fields = Err causes.Count

abbrev pub five : List (List ℕ) → Result (List ℕ × List ℕ × List ℕ × List ℕ × List ℕ) Cause
five (a ∷ b ∷ c ∷ d ∷ e ∷ []) = Ok (a, b, c, d, e)
five fields = Err causes.Count

-- ---- the first word

-- the form of a line with this first word, if it is another command to a unit than a transfer (profile)
unfoldable pub plain_form : List ℕ → Option Form
plain_form word =
    if bytes_eq word (codes "online") then Some (forms.Plain orders.Online) else (
    if bytes_eq word (codes "available") then Some (forms.Plain orders.Available) else (
    if bytes_eq word (codes "setunit") then Some (forms.Plain orders.SetUnit) else (
    if bytes_eq word (codes "unitstatus") then Some (forms.Plain orders.UnitStatus) else None)))

-- or if it is a message that names no unit (profile)
unfoldable pub message_form : List ℕ → Option Form
message_form word =
    if bytes_eq word (codes "status") then Some forms.Status else (
    if bytes_eq word (codes "abort") then Some forms.Abort else (
    if bytes_eq word (codes "packet") then Some forms.Packet else (
    if bytes_eq word (codes "setcontroller") then Some forms.SetController else plain_form word)))

-- or if it takes an end or is of the drive (profile)
unfoldable pub event_form : List ℕ → Option Form
event_form word =
    if bytes_eq word (codes "step") then Some forms.Step else (
    if bytes_eq word (codes "take") then Some forms.Take else (
    if bytes_eq word (codes "look") then Some forms.Look else (
    if bytes_eq word (codes "bad") then Some forms.Bad else message_form word)))

-- or of any form, one line for each (profile)
unfoldable pub form_of : List ℕ → Option Form
form_of word =
    if bytes_eq word (codes "read") then Some (forms.Transfer moves.Read) else (
    if bytes_eq word (codes "write") then Some (forms.Transfer moves.Write) else (
    if bytes_eq word (codes "access") then Some (forms.Transfer moves.Access) else (
    if bytes_eq word (codes "erase") then Some (forms.Transfer moves.Erase) else (
    if bytes_eq word (codes "compare") then Some (forms.Transfer moves.Compare) else event_form word))))

-- the order that a form names is a valid command's
abbrev pub IsValidForm : Form → Type 0
IsValidForm (forms.Plain order) = is_some (order_opcode order) ≡ true
IsValidForm form = Unit {0}

-- ---- the fields

-- the host of a connection sends a command
abbrev pub sent : Connection → Command → List Event
sent via command = events.Send via (record { items = command_bytes command }) ∷ []

-- events for which no fields are needed
abbrev pub alone : List Event → List (List ℕ) → Result (List Event) Cause
alone new fields = do
  f ← none fields
  Ok new

-- what a line of this form asks for by these fields. If the line is of a host, it is the host of this connection
-- (profile)
unfoldable pub asked : Connection → Form → List (List ℕ) → Result (List Event) Cause
asked via (forms.Transfer kind) fields = do
  f ← four fields
  reference ← wide f.0
  unit ← narrow f.1
  count ← wide f.2
  block ← wide f.3
  Ok (sent via (record { reference = reference; unit = unit; order = orders.Move kind count block }))
asked via (forms.Plain order) fields = do
  f ← two fields
  reference ← wide f.0
  unit ← narrow f.1
  Ok (sent via (record { reference = reference; unit = unit; order = order }))
asked via forms.SetController fields = do
  f ← one fields
  reference ← wide f
  Ok (sent via (record { reference = reference; unit = 0; order = orders.SetController 0 }))
asked via forms.Abort fields = do
  f ← two fields
  reference ← wide f.0
  other ← wide f.1
  Ok (sent via (record { reference = reference; unit = 0; order = orders.Abort other }))
asked via forms.Status fields = do
  f ← two fields
  reference ← wide f.0
  other ← wide f.1
  Ok (sent via (record { reference = reference; unit = 0; order = orders.Status other }))
asked via forms.Packet fields = do
  f ← one fields
  bytes ← message f
  Ok (events.Send via (record { items = bytes }) ∷ [])
asked via forms.Step fields = do
  f ← one fields
  n ← wide f
  count ← steps_in n
  Ok (replicate count (events.Step Good))
asked via forms.Bad fields = do
  f ← one fields
  n ← status f
  code ← bad_in n
  Ok (events.Step (Bad code) ∷ [])
asked via forms.Take fields = alone (events.Take via ∷ []) fields
asked via forms.Look fields = alone (events.Look ∷ []) fields

-- a line of this form is of a host: something is sent or taken (profile)
abbrev pub is_of_host : Form → Bool
is_of_host forms.Step = false
is_of_host forms.Bad = false
is_of_host forms.Look = false
is_of_host form = true

-- what a line of this form asks for behind the word `second`: it has to be of a host (profile)
abbrev pub asked_of_second : Option Form → List (List ℕ) → Result (List Event) Cause
asked_of_second None fields = Err causes.Word
asked_of_second (Some form) fields = if is_of_host form then asked Second form fields else Err causes.Word

-- what the words behind the word `second` ask for (profile)
unfoldable pub second_request : List (List ℕ) → Result (List Event) Cause
second_request [] = Err causes.Count
second_request (word ∷ fields) = asked_of_second (form_of word) fields

-- what a line of this form asks for, or of no form, with this first word
abbrev pub asked_if : Option Form → List ℕ → List (List ℕ) → Result (List Event) Cause
asked_if (Some form) word fields = asked First form fields
asked_if None word fields = if bytes_eq word (codes "second") then second_request fields else Err causes.Word

-- what the words of a line ask for. A line without a word asks for nothing, and the first connection isn't named
-- (profile)
unfoldable pub request : List (List ℕ) → Result (List Event) Cause
request [] = Ok []
request (word ∷ fields) = asked_if (form_of word) word fields

-- ---- a request as it is read

abbrev pub or_none : Result (List ℕ) Cause → List ℕ
or_none (Ok bytes) = bytes
or_none (Err cause) = []

-- the bytes of a message of these digits, or none if it is no message
abbrev pub bytes_in : List ℕ → List ℕ
bytes_in digits = or_none (message digits)

-- its events
abbrev pub events_of : Request → List Event
events_of (requests.Send via valid) = sent via valid.command
events_of (requests.Packet via digits) = events.Send via (record { items = bytes_in digits.now }) ∷ []
events_of (requests.Take via) = events.Take via ∷ []
events_of (requests.Steps count block) = replicate count (events.Step block)
events_of requests.Look = events.Look ∷ []
