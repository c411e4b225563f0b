-- How what a port is is told.
use Rattle.std.specs.Prelude.{ℕ, ℤ, ◌&&◌, is_some, Option, None, Some}
use Rattle.mscp_memory.specs.PortHandles.{Held}
use Rattle.mscp_port.specs.Codes.{stage_byte, stage_word}
use Rattle.mscp_port.specs.declared.hardware.Bus.{Bus}
use Rattle.mscp_port.specs.declared.hardware.Bus.TheVariants.{Q, Uni}
use Rattle.mscp_port.specs.declared.hardware.Hardware.{Hardware}
use Rattle.mscp_port.specs.declared.volumes.Volume.{Volume}
use Rattle.mscp_c.specs.declared.outs.StateOut.{StateOut}
use Rattle.mscp_c.specs.declared.outs.VolumeOut.{VolumeOut}
use Rattle.mscp_c.specs.declared.port_given.HardwareIn.{HardwareIn}
use Rattle.mscp_c.specs.declared.status.TheConstants as status
use Rattle.mscp_c.specs.Told.{flag}

-- its stage, as the header has it; and whether something is to go out, but the ring of responses was full
abbrev pub state_told : Held → StateOut
state_told p = record {
  word = stage_word p.stage;
  stage = stage_byte p.stage;
  is_held_back = flag (is_some p.outgoing && p.is_full);
}

-- the number of a bus, which an init takes for it, and the hardware by such numbers
abbrev pub bus_told : Bus → ℕ
bus_told Q = 0
bus_told Uni = 1

abbrev pub hardware_told : Hardware → HardwareIn
hardware_told h = record { bus = bus_told h.bus; model = h.model; software = h.software; version = h.version }

-- the status: whether there is such a unit
abbrev pub seen_code : Option Volume → ℤ
seen_code None = status.UNKNOWN_UNIT
seen_code (Some v) = status.DONE

-- what is told of its volume. Where there is no such unit nothing is
abbrev pub volume_told : Option Volume → VolumeOut → VolumeOut
volume_told None out = out
volume_told (Some v) out = record {
  size = v.size;
  media = v.media;
  is_there = flag v.is_there;
  is_protected = flag v.is_protected;
  is_protected_by_host = flag v.is_protected_by_host;
  is_online = flag v.is_mounted;
  is_removable = flag v.is_removable;
}
