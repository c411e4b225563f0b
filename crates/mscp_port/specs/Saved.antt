-- The bytes that a port is saved as. All numbers are little-endian, and what has no number of its own is written as
-- one.
use Rattle.std.specs.Prelude.{◌≡◌, ℕ, ◌+◌, ◌*◌, ◌^◌, ◌≤◌, ◌<◌, List, [], ◌∷◌, ◌++◌, length, flat_map, All, Option, Some, None, IfSome}
use Rattle.byteorder.specs.Endian.{little_bytes}
use Rattle.mscp_saved.specs.Saved.{flag_byte, saved_bytes as controller_bytes}
use Rattle.mscp_port.specs.declared.buffers.Buffer.{Buffer}
use Rattle.mscp_port.specs.declared.codes.Coded.{Coded}
use Rattle.mscp_port.specs.declared.decided.Decided.{Decided}
use Rattle.mscp_port.specs.declared.hardware.Hardware.{Hardware}
use Rattle.mscp_port.specs.declared.port.Outgoing.{Outgoing}
use Rattle.mscp_port.specs.declared.port.OutgoingKind.{OutgoingKind}
use Rattle.mscp_port.specs.declared.port.OutgoingKind.TheVariants as kinds
use Rattle.mscp_port.specs.declared.port.Port.{Port}
use Rattle.mscp_port.specs.declared.port.Words.{Words}
use Rattle.mscp_port.specs.declared.stage.Stage.{Stage}
use Rattle.mscp_port.specs.declared.volumes.Volume.{Volume}
use Rattle.mscp_port.specs.Areas.{AreRings, Rings}
use Rattle.mscp_port.specs.Codes.{IsTask, bus_byte, coded_task, number_or_none, some_byte, stage_byte, stage_word}

-- ---- sizes

-- the head, the volume of a unit, what is kept of a command, and what an end says that waits take so many bytes
abbrev pub head_size : ℕ
head_size = 82

abbrev pub volume_size : ℕ
volume_size = 18

abbrev pub buffer_size : ℕ
buffer_size = 21

abbrev pub decided_size : ℕ
decided_size = 13

-- the head and the 16 volumes
abbrev pub front_size : ℕ
front_size = head_size + volume_size * 16

-- "MSCP", as a number
abbrev pub magic : ℕ
magic = 0x5043534D

abbrev pub version : ℕ
version = 3

-- ---- parts

-- what tells that it is a saved port, of this version of the format, and of so many bytes
abbrev pub frame_bytes : ℕ → List ℕ
frame_bytes total = little_bytes 4 magic ++ little_bytes 4 version ++ little_bytes 4 total

abbrev pub hardware_bytes : Hardware → List ℕ
hardware_bytes h = bus_byte h.bus ∷ h.model ∷ h.software ∷ h.version ∷ []

-- credits, slots that were given back, and whether something is so
abbrev pub counts_bytes : {K : Type 0} → Port K → List ℕ
counts_bytes p =
    p.more ∷ p.untold ∷ p.responses ∷ p.commands
    ∷ flag_byte p.is_polled ∷ flag_byte p.is_stalled ∷ flag_byte p.is_full
    ∷ flag_byte p.owes_block ∷ []

-- what the host has set, and the seconds that are left
abbrev pub host_bytes : {K : Type 0} → Port K → List ℕ
host_bytes p = little_bytes 2 p.flags ++ little_bytes 2 p.timeout ++ little_bytes 2 p.left

abbrev pub words_bytes : Words → List ℕ
words_bytes w = little_bytes 2 w.first ++ little_bytes 2 w.second

abbrev pub stage_bytes : Stage → List ℕ
stage_bytes s = stage_byte s ∷ little_bytes 2 (stage_word s)

abbrev pub written_bytes : Option ℕ → List ℕ
written_bytes written = some_byte written ∷ little_bytes 2 (number_or_none written)

-- what is written where no rings are
abbrev pub rings_or_none : Option Rings → Rings
rings_or_none None = record { base = 0; responses = 0; commands = 0 }
rings_or_none (Some r) = r

abbrev pub area_bytes : Rings → List ℕ
area_bytes r = little_bytes 4 r.base ++ little_bytes 4 r.responses ++ little_bytes 4 r.commands

abbrev pub rings_bytes : Option Rings → List ℕ
rings_bytes rings = some_byte rings ∷ area_bytes (rings_or_none rings)

-- with four zeros in front of the status of a block
abbrev pub coded_bytes : Coded → List ℕ
coded_bytes c =
    (c.task ∷ c.whom ∷ [])
    ++ little_bytes 4 c.first
    ++ little_bytes 4 c.second
    ++ little_bytes 4 0
    ++ little_bytes 2 c.two
    ++ (c.how ∷ [])

-- what goes out: 0 where nothing does, 1 for an attention message, 2 for an end of the disk's, 3 for one of the
-- utilities; and its text
abbrev pub kind_byte : OutgoingKind → ℕ
kind_byte kinds.Attention = 1
kind_byte kinds.End = 2
kind_byte kinds.UtilitiesEnd = 3

abbrev pub outgoing_byte : Option Outgoing → ℕ
outgoing_byte None = 0
outgoing_byte (Some o) = kind_byte o.kind

abbrev pub outgoing_text : Option Outgoing → List ℕ
outgoing_text None = []
outgoing_text (Some o) = o.bytes.items

-- how long that is, of how many commands something is kept, and of how many ends that wait
abbrev pub lengths_bytes : {K : Type 0} → Port K → List ℕ
lengths_bytes p =
    outgoing_byte p.outgoing ∷ length (outgoing_text p.outgoing) ∷ length p.buffers.items ∷ length p.decided.items ∷ []

abbrev pub volume_bytes : Volume → List ℕ
volume_bytes v =
    (flag_byte v.is_there ∷ flag_byte v.is_protected ∷ flag_byte v.is_protected_by_host ∷ flag_byte v.is_news
    ∷ flag_byte v.is_removable ∷ flag_byte v.is_mounted ∷ [])
    ++ little_bytes 4 v.changes
    ++ little_bytes 4 v.size
    ++ little_bytes 4 v.media

abbrev pub buffer_bytes : Buffer → List ℕ
buffer_bytes b =
    little_bytes 4 b.reference
    ++ little_bytes 4 b.address
    ++ little_bytes 4 b.count
    ++ little_bytes 2 b.modifiers
    ++ little_bytes 2 b.flags
    ++ little_bytes 4 b.changes
    ++ (b.opcode ∷ [])

-- what an end says that waits
abbrev pub decided_bytes : Decided → List ℕ
decided_bytes d =
    little_bytes 2 d.status ++ little_bytes 2 d.flags ++ little_bytes 4 d.media ++ little_bytes 4 d.size
    ++ (d.code ∷ [])

-- ---- all

-- with so many bytes of a text, so many commands and ends, and so many bytes of a controller all is so long
abbrev pub saved_length : ℕ → ℕ → ℕ → ℕ → ℕ
saved_length text buffers decided controller =
    front_size + text + buffer_size * buffers + decided_size * decided + controller

-- how long all is of a port before so many bytes of a controller
abbrev pub length_before : {K : Type 0} → ℕ → Port K → ℕ
length_before controller p =
    saved_length (length (outgoing_text p.outgoing)) (length p.buffers.items) (length p.decided.items) controller

-- how long all is of a port whose picker has this number
abbrev pub length_of : {K : Type 0} → ℕ → Port K → ℕ
length_of picker p = length_before (length (controller_bytes picker p.controller)) p

abbrev pub state_bytes : {K : Type 0} → Port K → List ℕ
state_bytes p = hardware_bytes p.hardware ++ counts_bytes p ++ host_bytes p ++ words_bytes p.words

abbrev pub hand_bytes : {K : Type 0} → Port K → List ℕ
hand_bytes p =
    stage_bytes p.stage
    ++ written_bytes p.written
    ++ rings_bytes p.rings
    ++ coded_bytes (coded_task p.task)
    ++ lengths_bytes p
    ++ little_bytes 8 p.serial

abbrev pub head_bytes : {K : Type 0} → ℕ → Port K → List ℕ
head_bytes total p = frame_bytes total ++ state_bytes p ++ hand_bytes p

-- what is in front of the controller, where all is so long: the volumes in the order of the units, what goes out, what
-- is kept of commands, and what ends say that wait
abbrev pub front_bytes : {K : Type 0} → ℕ → Port K → List ℕ
front_bytes total p =
    head_bytes total p
    ++ flat_map volume_bytes p.volumes
    ++ outgoing_text p.outgoing
    ++ flat_map buffer_bytes p.buffers.items
    ++ flat_map decided_bytes p.decided.items

-- all of a port: the volumes in the order of the units, what goes out, what is kept of commands, what ends say
-- that wait, and the controller
abbrev pub saved_bytes : {K : Type 0} → ℕ → Port K → List ℕ
saved_bytes picker p =
    head_bytes (length_of picker p) p
    ++ flat_map volume_bytes p.volumes
    ++ outgoing_text p.outgoing
    ++ flat_map buffer_bytes p.buffers.items
    ++ flat_map decided_bytes p.decided.items
    ++ controller_bytes picker p.controller

-- ---- ranges

-- the numbers of a volume fit their types
pub record HasVolumeRange (v : Volume) : Type 0 where
  pub changes : v.changes < 2 ^ 32
  pub size : v.size < 2 ^ 32
  pub media : v.media < 2 ^ 32

-- those of what is kept of a command
pub record HasBufferRange (b : Buffer) : Type 0 where
  pub reference : b.reference < 2 ^ 32
  pub address : b.address < 2 ^ 32
  pub count : b.count < 2 ^ 32
  pub modifiers : b.modifiers < 2 ^ 16
  pub flags : b.flags < 2 ^ 16
  pub changes : b.changes < 2 ^ 32

-- those of what an end says that waits
pub record HasDecidedRange (d : Decided) : Type 0 where
  pub status : d.status < 2 ^ 16
  pub flags : d.flags < 2 ^ 16
  pub media : d.media < 2 ^ 32
  pub size : d.size < 2 ^ 32

-- those of a task
pub record HasCodedRange (c : Coded) : Type 0 where
  pub first : c.first < 2 ^ 32
  pub second : c.second < 2 ^ 32
  pub two : c.two < 2 ^ 16

-- those of what the host has set
pub record HasStateRange {K : Type 0} (p : Port K) : Type 0 where
  pub flags : p.flags < 2 ^ 16
  pub timeout : p.timeout < 2 ^ 16
  pub left : p.left < 2 ^ 16
  pub first : p.words.first < 2 ^ 16
  pub second : p.words.second < 2 ^ 16

-- those of what the port has in hand
pub record HasHandRange {K : Type 0} (p : Port K) : Type 0 where
  pub stage : stage_word p.stage < 2 ^ 16
  pub written : number_or_none p.written < 2 ^ 16
  pub rings : IfSome p.rings (λ r. AreRings r)
  pub coded : HasCodedRange (coded_task p.task)
  pub serial : p.serial < 2 ^ 64
  pub task : IsTask p.task

-- all of them, and how many there are of each part
pub record HasRange {K : Type 0} (p : Port K) : Type 0 where
  pub state : HasStateRange p
  pub hand : HasHandRange p
  pub volumes : All HasVolumeRange p.volumes
  pub sixteen : length p.volumes ≡ 16
  pub buffers : All HasBufferRange p.buffers.items
  pub few : length p.buffers.items ≤ 64
  pub decided : All HasDecidedRange p.decided.items
  pub few_decided : length p.decided.items ≤ 64
  pub short : length (outgoing_text p.outgoing) ≤ 48
