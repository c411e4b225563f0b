-- The bytes that a controller is saved as. All numbers are little-endian, and what has no number of its own is written
-- as one: a connection, and whether something is so.
use Rattle.std.specs.Prelude.{ℕ, ◌+◌, ◌-◌, ◌*◌, Bool, if◌then◌else◌, List, [], ◌∷◌, ◌++◌, length, flat_map, replicate, Option, Some, None}
use Rattle.byteorder.specs.Endian.{little_bytes}
use Rattle.mscp_packet.specs.declared.end.End.{End}
use Rattle.mscp_packet.specs.Commands.{command_bytes}
use Rattle.mscp_packet.specs.Ends.{end_bytes}
use Rattle.mscp_drive.specs.Shape.{Shape}
use Rattle.mscp_queue.specs.declared.drive.Drive.{Drive}
use Rattle.mscp_drive.specs.declared.connection.Connection.{Connection}
use Rattle.mscp_drive.specs.declared.connection.Connection.TheVariants.{First, Second}
use Rattle.mscp_queue.specs.declared.name.Name.{Name}
use Rattle.mscp_queue.specs.Records.{Record}
use Rattle.mscp_controller.specs.Holdings.{Holdings}
use Rattle.mscp_drive.specs.Settings.{Settings}
use Rattle.mscp_saved.specs.declared.writing.Counts.{Counts}

-- ---- sizes

-- the head, a drive, a waiting command and an end take so many bytes
abbrev pub head_size : ℕ
head_size = 48

abbrev pub drive_size : ℕ
drive_size = 34

abbrev pub waiting_size : ℕ
waiting_size = 41

abbrev pub end_size : ℕ
end_size = 48

-- with so many drives, waiting commands and ends all is so long
abbrev pub saved_length : ℕ → ℕ → ℕ → ℕ
saved_length drives waiting ends = head_size + drive_size * drives + waiting_size * waiting + end_size * ends

-- "MSCQ", as a number
abbrev pub magic : ℕ
magic = 0x5143534D

abbrev pub version : ℕ
version = 1

-- ---- parts

-- a connection as a number
abbrev pub connection_byte : Connection → ℕ
connection_byte First = 1
connection_byte Second = 2

-- whether something is so
abbrev pub flag_byte : Bool → ℕ
flag_byte so = if so then 1 else 0

-- what was begun, if something was: its connection, and its reference number
abbrev pub begun_connection : Option Name → ℕ
begun_connection None = 0
begun_connection (Some name) = connection_byte name.connection

abbrev pub begun_reference : Option Name → ℕ
begun_reference None = 0
begun_reference (Some name) = name.reference

abbrev pub begun_bytes : Option Name → List ℕ
begun_bytes begun = begun_connection begun ∷ little_bytes 4 (begun_reference begun)

-- bytes, and zeros up to a size
abbrev pub padded : ℕ → List ℕ → List ℕ
padded size b = b ++ replicate (size - length b) 0

-- a unit: its number, its sizes, and its identifiers
abbrev pub sizes_bytes : Shape → List ℕ
sizes_bytes u =
    little_bytes 2 u.number
    ++ little_bytes 2 u.track
    ++ little_bytes 2 u.group
    ++ little_bytes 2 u.cylinder
    ++ little_bytes 4 u.size

abbrev pub identifiers_bytes : Shape → List ℕ
identifiers_bytes u = little_bytes 8 u.id ++ little_bytes 4 u.media ++ little_bytes 4 u.serial

-- a drive: its unit, its state, and its head
abbrev pub drive_bytes : Drive → List ℕ
drive_bytes d =
    sizes_bytes d.unit
    ++ identifiers_bytes d.unit
    ++ (flag_byte d.online ∷ [])
    ++ (flag_byte d.head.up ∷ [])
    ++ little_bytes 4 d.head.cylinder

-- a waiting command: its message, how many steps it had, by how many blocks it was passed, and its connection
abbrev pub waiting_bytes : Record → List ℕ
waiting_bytes r =
    padded 32 (command_bytes r.command)
    ++ little_bytes 4 r.done
    ++ little_bytes 4 r.passed
    ++ (connection_byte r.connection ∷ [])

-- an end: its message
abbrev pub end_cell : End → List ℕ
end_cell e = padded end_size (end_bytes e)

-- ---- all

-- what tells that it is a saved controller, of this version of the format, and of so many bytes
abbrev pub frame_bytes : Counts → List ℕ
frame_bytes n =
    little_bytes 4 magic
    ++ little_bytes 4 version
    ++ little_bytes 4 (saved_length n.drives n.waiting (n.first + n.second))

-- the settings but for the units; between them the picker's number, which is its caller's, and how many drives
-- there are
abbrev pub limits_bytes : Settings → List ℕ
limits_bytes c =
    little_bytes 4 c.credits ++ little_bytes 4 c.second ++ little_bytes 4 c.budget ++ little_bytes 4 c.longest

abbrev pub settings_bytes : ℕ → ℕ → Settings → List ℕ
settings_bytes picker drives c =
    limits_bytes c
    ++ little_bytes 2 c.timeout
    ++ (picker ∷ [])
    ++ (drives ∷ [])
    ++ little_bytes 8 c.id

-- how many commands wait, how many ends of each connection weren't taken, and what was begun
abbrev pub counts_bytes : Counts → Option Name → List ℕ
counts_bytes n begun = (n.waiting ∷ []) ++ (n.first ∷ []) ++ (n.second ∷ []) ++ begun_bytes begun

-- the head, of so many parts
abbrev pub head_with : ℕ → Settings → Counts → Option Name → List ℕ
head_with picker c n begun = frame_bytes n ++ settings_bytes picker n.drives c ++ counts_bytes n begun

-- how many there are of each part
abbrev pub counts_of : {K : Type 0} → Holdings K → Counts
counts_of h = record {
  drives = length h.drives;
  waiting = length h.waiting;
  first = length h.untaken.first;
  second = length h.untaken.second;
}

abbrev pub head_bytes : {K : Type 0} → ℕ → Holdings K → List ℕ
head_bytes picker h = head_with picker h.settings (counts_of h) h.begun

-- all that callers see of a controller: the drives in the order of their units, the waiting commands and the ends of
-- each connection oldest first
abbrev pub saved_bytes : {K : Type 0} → ℕ → Holdings K → List ℕ
saved_bytes picker h =
    head_bytes picker h
    ++ flat_map drive_bytes h.drives
    ++ flat_map waiting_bytes h.waiting
    ++ flat_map end_cell h.untaken.first
    ++ flat_map end_cell h.untaken.second
