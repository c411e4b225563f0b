-- How the volume of a unit changes.
use Rattle.std.specs.Prelude.{◌≡◌, ◌<◌, ℕ, ◌+◌, ◌%◌, ◌/◌, ◌==◌, if◌then◌else◌, Bool, true, false, List, nat_eq, nat_le, ◌&&◌, slice_index_or, slice_set, Option, None, Some, Result, Ok, Err}
use Rattle.std.specs.List.{position}
use Rattle.mscp_drive.specs.Shape.{Shape}
use Rattle.mscp_port.specs.declared.buffers.Buffer.{Buffer}
use Rattle.mscp_port.specs.declared.volumes.Medium.{Medium}
use Rattle.mscp_port.specs.declared.volumes.Volume.{Volume}
use Rattle.mscp_port.specs.declared.volumes.VolumeFault.{VolumeFault}
use Rattle.mscp_port.specs.declared.volumes.VolumeFault.TheVariants as faults
use Rattle.mscp_packet.specs.EndcodeBytes as endcodes
use Rattle.mscp_packet.specs.declared.command.MoveKind.{MoveKind}
use Rattle.mscp_port.specs.Blocks.{writes}

abbrev pub no_volume : Volume
no_volume = record {
  is_there = false;
  is_protected = false;
  is_protected_by_host = false;
  is_removable = false;
  changes = 0;
  size = 0;
  media = 0;
  is_mounted = false;
  is_news = false;
}

-- the volume at a place
abbrev pub volume_at : List Volume → ℕ → Volume
volume_at volumes place = slice_index_or volumes place no_volume

-- another volume is there, or none: it is counted, and its host is to hear of one that came. The unit isn't online
-- with it
abbrev pub volume_changed : Bool → Volume → Volume
volume_changed there v = record v {
  is_there = there;
  is_protected = false;
  is_protected_by_host = false;
  is_mounted = false;
  changes = (v.changes + 1) % 0x1_0000_0000;
  is_news = there;
}

-- this one came
abbrev pub volume_put : Medium → Volume → Volume
volume_put m v = record (volume_changed true v) {
  size = m.size;
  media = m.media;
  is_protected = m.is_protected;
  is_removable = m.is_removable;
}

-- a reset of the port leaves the volume: the unit isn't online, its host has protected nothing, and is to hear of none
abbrev pub volume_reset : Volume → Volume
volume_reset v = record v { is_mounted = false; is_protected_by_host = false; is_news = false }

-- ---- what the Success of a command does

-- the host protects what is on the volume, or does so no more, if the modifier 4 says that it sets that: by its unit
-- flag 0x1000
abbrev pub protected_by : Buffer → Volume → Volume
protected_by b v =
    if b.modifiers / 4 % 2 == 1 then record v { is_protected_by_host = b.flags / 0x1000 % 2 == 1 } else v

-- the unit is online with the volume that is in it, and its host needs no news of it any more
abbrev pub brought_online : Volume → Volume
brought_online v = record v { is_mounted = true; is_news = false }

-- by its endcode: AVAILABLE takes the unit offline, ONLINE brings it online, and sets the host's protection, as SET
-- UNIT CHARACTERISTICS does
abbrev pub volume_heeded : ℕ → Option Buffer → Volume → Volume
volume_heeded code None v =
    if code == endcodes.available then record v { is_mounted = false; is_protected_by_host = false } else v
volume_heeded code (Some b) v =
    if code == endcodes.available then record v { is_mounted = false; is_protected_by_host = false }
    else if code == endcodes.online then protected_by b (brought_online v)
    else if code == endcodes.set_unit_characteristics then protected_by b v
    else v

-- ---- the volumes of all units

-- the place of the unit of a number, if there is one
abbrev pub place_in : List Shape → ℕ → Option ℕ
place_in units number = position (λ unit. nat_eq unit.number number) units

-- the volume of the unit of a number: none where there is no such unit
abbrev pub volume_in_place : List Volume → Option ℕ → Volume
volume_in_place volumes None = no_volume
volume_in_place volumes (Some place) = volume_at volumes place

abbrev pub volume_found : List Shape → List Volume → ℕ → Volume
volume_found units volumes number = volume_in_place volumes (place_in units number)

-- the volumes, once the one at this place became what this makes of it
abbrev pub volumes_with : (Volume → Volume) → Option ℕ → List Volume → List Volume
volumes_with becomes None volumes = volumes
volumes_with becomes (Some place) volumes = slice_set volumes place (becomes (volume_at volumes place))

-- nothing may be written on it, or something may again, if it is there
abbrev pub volume_protected : Bool → Volume → Volume
volume_protected protected v = record v { is_protected = if v.is_there then protected else false }

-- whether this may be put into a unit, if there is such a unit: it has blocks, and no more than the unit
abbrev pub medium_answer : Medium → Option Shape → Result (Unit {0}) VolumeFault
medium_answer m None = Err faults.NoUnit
medium_answer m (Some unit) = if nat_le 1 m.size && nat_le m.size unit.size then Ok tt else Err faults.Size

-- the volumes, once the command ended of whose message this is kept, to the unit at a place
abbrev pub volumes_heeded : ℕ → Option Buffer → Option ℕ → List Volume → List Volume
volumes_heeded code kept None volumes = volumes
volumes_heeded code kept (Some place) volumes =
    slice_set volumes place (volume_heeded code kept (volume_at volumes place))

-- the volume in the unit is the one that was there when this command came, and that the unit was brought online
-- with
pub record IsOnVolume (b : Buffer) (v : Volume) : Type 0 where
  pub there : v.is_there ≡ true
  pub same : b.changes ≡ v.changes
  pub mounted : v.is_mounted ≡ true

-- this block may be moved on this volume: it is there, the unit is online with it, and what is written isn't protected
pub record MayMove (kind : MoveKind) (block : ℕ) (v : Volume) : Type 0 where
  pub there : v.is_there ≡ true
  pub mounted : v.is_mounted ≡ true
  pub hardware : writes kind ≡ true → v.is_protected ≡ false
  pub host : writes kind ≡ true → v.is_protected_by_host ≡ false
  pub on : block < v.size
