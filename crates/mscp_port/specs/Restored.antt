-- What comes of bytes that a port is to be made of: the port that they say, or why there is none.
use Rattle.std.specs.Prelude.{ℕ, ◌+◌, ◌-◌, ◌*◌, ◌^◌, ◌≤◌, ◌<◌, Bool, not, ◌&&◌, nat_eq, nat_le, if◌then◌else◌, List, [], length, take, drop, slice_index, Option, Some, None, Result, Ok, Err}
use Rattle.std.specs.Str.{bytes_eq}
use Rattle.mscp_packet.specs.Number.{num}
use Rattle.mscp_controller.specs.Holdings.{Holdings}
use Rattle.mscp_saved.specs.declared.fault.RestoreFault.{RestoreFault as ControllerFault}
use Rattle.mscp_saved.specs.Read.{held_in as controller_said, parts_in}
use Rattle.mscp_saved.specs.Restored.{IsSaved as IsSavedController, restored as controller_restored}
use Rattle.mscp_port.specs.declared.buffers.Buffer.{Buffer}
use Rattle.mscp_port.specs.declared.codes.Coded.{Coded}
use Rattle.mscp_port.specs.declared.decided.Decided.{Decided}
use Rattle.mscp_port.specs.declared.hardware.Hardware.{Hardware}
use Rattle.mscp_port.specs.declared.port.Outgoing.{Outgoing}
use Rattle.mscp_port.specs.declared.port.OutgoingKind.{OutgoingKind}
use Rattle.mscp_port.specs.declared.port.OutgoingKind.TheVariants as kinds
use Rattle.mscp_port.specs.declared.port.Port.{Port}
use Rattle.mscp_port.specs.declared.port.Words.{Words}
use Rattle.mscp_port.specs.declared.port.restoring.RestoreFault.{RestoreFault}
use Rattle.mscp_port.specs.declared.port.restoring.RestoreFault.TheVariants as faults
use Rattle.mscp_port.specs.declared.volumes.Volume.{Volume}
use Rattle.mscp_port.specs.Areas.{Rings, rings_of}
use Rattle.mscp_port.specs.Codes.{bus_in, has_size, optional, stage_in, task_in}
use Rattle.mscp_port.specs.Decided.{decided_in}
use Rattle.mscp_port.specs.Saved.{buffer_size, decided_size, front_bytes, front_size, head_size, length_before, magic, saved_bytes, version, volume_size}

-- ---- what bytes say. Of bytes that are nobody's something is said, too

abbrev pub hardware_in : List ℕ → Hardware
hardware_in b = record {
  bus = bus_in (slice_index b 12);
  model = slice_index b 13;
  software = slice_index b 14;
  version = slice_index b 15;
}

abbrev pub area_in : List ℕ → Rings
area_in b = record { base = num b 41 4; responses = num b 45 4; commands = num b 49 4 }

abbrev pub rings_if : ℕ → Rings → Option Rings
rings_if byte r = if nat_eq byte 1 then rings_of r else None

abbrev pub coded_in : List ℕ → Coded
coded_in b = record {
  task = slice_index b 53;
  whom = slice_index b 54;
  first = num b 55 4;
  second = num b 59 4;
  two = num b 67 2;
  how = slice_index b 69;
}

abbrev pub words_in : List ℕ → Words
words_in b = record { first = num b 30 2; second = num b 32 2 }

-- what a message is that goes out, by its number
abbrev pub kind_in : ℕ → OutgoingKind
kind_in byte = if nat_eq byte 1 then kinds.Attention else if nat_eq byte 2 then kinds.End else kinds.UtilitiesEnd

-- what goes out, by its number and its text
abbrev pub outgoing_in : ℕ → List ℕ → Option Outgoing
outgoing_in byte text =
    if nat_eq byte 0 then None else Some (record { bytes = record { items = text }; kind = kind_in byte })

-- the volume in the bytes of one
abbrev pub volume_in : List ℕ → Volume
volume_in b = record {
  is_there = nat_eq (slice_index b 0) 1;
  is_protected = nat_eq (slice_index b 1) 1;
  is_protected_by_host = nat_eq (slice_index b 2) 1;
  is_removable = nat_eq (slice_index b 4) 1;
  changes = num b 6 4;
  size = num b 10 4;
  media = num b 14 4;
  is_mounted = nat_eq (slice_index b 5) 1;
  is_news = nat_eq (slice_index b 3) 1;
}

-- what is kept of a command, in the bytes of that
abbrev pub buffer_in : List ℕ → Buffer
buffer_in b = record {
  reference = num b 0 4;
  address = num b 4 4;
  count = num b 8 4;
  modifiers = num b 12 2;
  flags = num b 14 2;
  changes = num b 16 4;
  opcode = slice_index b 20;
}

-- ---- where the parts are

-- how long what goes out is, of how many commands something is kept, and of how many ends that wait
abbrev pub text_count : List ℕ → ℕ
text_count b = slice_index b 71

abbrev pub buffer_count : List ℕ → ℕ
buffer_count b = slice_index b 72

abbrev pub decided_count : List ℕ → ℕ
decided_count b = slice_index b 73

-- the volumes are behind the head, what goes out behind them, and then what is kept of commands, what ends say
-- that wait, and the controller
abbrev pub buffer_place : List ℕ → ℕ
buffer_place b = front_size + text_count b

abbrev pub decided_place : List ℕ → ℕ
decided_place b = buffer_place b + buffer_size * buffer_count b

abbrev pub controller_place : List ℕ → ℕ
controller_place b = decided_place b + decided_size * decided_count b

abbrev pub volumes_in : List ℕ → List Volume
volumes_in b = parts_in volume_in volume_size 16 (drop head_size b)

abbrev pub text_in : List ℕ → List ℕ
text_in b = take (text_count b) (drop front_size b)

abbrev pub buffers_in : List ℕ → List Buffer
buffers_in b = parts_in buffer_in buffer_size (buffer_count b) (drop (buffer_place b) b)

abbrev pub all_decided_in : List ℕ → List Decided
all_decided_in b = parts_in decided_in decided_size (decided_count b) (drop (decided_place b) b)

-- all that is said of a port over this controller
abbrev pub port_in : {K : Type 0} → List ℕ → Holdings K → Port K
port_in b h = record {
  hardware = hardware_in b;
  controller = h;
  more = slice_index b 16;
  untold = slice_index b 17;
  stage = stage_in (slice_index b 34) (num b 35 2);
  words = words_in b;
  written = optional (slice_index b 37) (num b 38 2);
  rings = rings_if (slice_index b 40) (area_in b);
  responses = slice_index b 18;
  commands = slice_index b 19;
  task = task_in (coded_in b);
  outgoing = outgoing_in (slice_index b 70) (text_in b);
  is_polled = nat_eq (slice_index b 20) 1;
  is_stalled = nat_eq (slice_index b 21) 1;
  is_full = nat_eq (slice_index b 22) 1;
  owes_block = nat_eq (slice_index b 23) 1;
  serial = num b 74 8;
  buffers = record { items = buffers_in b };
  decided = record { items = all_decided_in b };
  volumes = volumes_in b;
  flags = num b 24 2;
  timeout = num b 26 2;
  left = num b 28 2;
}

-- the controller that its bytes say, with this picker
abbrev pub controller_in : {K : Type 0} → K → List ℕ → Holdings K
controller_in picker b = controller_said picker (drop (controller_place b) b)

-- the port over that
abbrev pub held_in : {K : Type 0} → K → List ℕ → Port K
held_in picker b = port_in b (controller_in picker b)

-- all that is said of a port but for its controller, in whose place any other stands
abbrev pub front_in : List ℕ → Port (Unit {0})
front_in b = port_in b (controller_said (tt {0}) [])

-- the bytes in front of the controller's that it is saved as, before as many bytes of a controller as there are
abbrev pub told_front : List ℕ → List ℕ
told_front b = front_bytes (length_before (length b - controller_place b) (front_in b)) (front_in b)

-- ---- why not

-- there is a head with volumes, and as many bytes as it tells, which are not too few for its parts; and no more of each
-- part than a port has
abbrev pub is_framed : List ℕ → Bool
is_framed b =
    nat_le front_size (length b)
    && (nat_eq (num b 8 4) (length b)
    && (nat_le (text_count b) 48 && (nat_le (buffer_count b) 64 && (nat_le (decided_count b) 64
    && nat_le (controller_place b) (length b)))))

-- the same, as facts
pub record IsFramed (b : List ℕ) : Type 0 where
  pub front : 370 ≤ length b
  pub told : length b < 2 ^ 32
  pub text : text_count b ≤ 48
  pub buffers : buffer_count b ≤ 64
  pub decided : decided_count b ≤ 64
  pub parts : controller_place b ≤ length b

-- why no parts are read: the first that holds
abbrev pub frame_fault : List ℕ → Option RestoreFault
frame_fault b =
    if not (is_framed b) then Some faults.Length else (
    if not (nat_eq (num b 0 4) magic) then Some faults.Magic else (
    if not (nat_eq (num b 4 4) version) then Some faults.Version else (
    if not (has_size (coded_in b)) then Some faults.Size else None)))

-- this port, where the bytes are those that it is saved as
abbrev pub whose : {K : Type 0} → ℕ → List ℕ → Port K → Result (Port K) RestoreFault
whose number b p = if bytes_eq (saved_bytes number p) b then Ok p else Err faults.Form

-- the port over the controller that its bytes say, or why they are none's
abbrev pub over : {K : Type 0} → ℕ → List ℕ → Result (Holdings K) ControllerFault → Result (Port K) RestoreFault
over number b (Err fault) = Err (faults.Controller fault)
over number b (Ok h) = whose number b (port_in b h)

abbrev pub restored_unless : {K : Type 0} → Option RestoreFault → ℕ → K → List ℕ → Result (Port K) RestoreFault
restored_unless (Some fault) number picker b = Err fault
restored_unless None number picker b =
    over number b (controller_restored number picker (drop (controller_place b) b))

-- what comes of bytes for a picker of this number: the port that they say, whose bytes they are, or why they are none's
abbrev pub restored : {K : Type 0} → ℕ → K → List ℕ → Result (Port K) RestoreFault
restored number picker b = restored_unless (frame_fault b) number picker b

-- something, unless there is a fault
abbrev pub unless : {X : Type 0} → X → Option RestoreFault → Result X RestoreFault
unless x (Some fault) = Err fault
unless x None = Ok x

-- bytes are a saved port's: there is a head, and its controller's bytes are a saved one's
pub record IsSaved {K : Type 0} (picker : K) (b : List ℕ) : Type 0 where
  pub framed : IsFramed b
  pub controller : IsSavedController picker (drop (controller_place b) b)
