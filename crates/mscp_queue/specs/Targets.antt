-- What of a command that waits is the same at each start, so that it is found once.
use Rattle.std.specs.Prelude.{◌≡◌, ℕ, ◌+◌, ◌/◌, ◌<◌, min, true, nat_eq, List, map, unwrap_or}
use Rattle.std.specs.List.{position_or_len}
use Rattle.mscp_packet.specs.declared.command.Command.{Command}
use Rattle.mscp_drive.specs.Shape.{Shape, cylinder_of, last_cylinder, one_block}
use Rattle.mscp_drive.specs.UnitList.{unit_found}
use Rattle.mscp_queue.specs.declared.target.Target.{Target}
use Rattle.mscp_queue.specs.declared.drive.Drive.{Drive}
use Rattle.mscp_queue.specs.Drives.{IsOnUnit}
use Rattle.mscp_queue.specs.Orders.{first_block, is_move}
use Rattle.mscp_queue.specs.Records.{Record}

-- the place of the unit of this number
abbrev pub unit_place : List Shape → ℕ → ℕ
unit_place units number = position_or_len (λ u. nat_eq u.number number) units

-- the range of a cylinder: a unit has 64 ranges of so many cylinders that its last one is in one
abbrev pub range_of : Shape → ℕ → ℕ
range_of u cylinder = min (cylinder / (last_cylinder u / 64 + 1)) 63

-- what is found once on a drive: its place, the cylinder of a first block, and the range of that
abbrev pub target_on : ℕ → Shape → ℕ → Target
target_on drive u cylinder = record { drive = drive; cylinder = cylinder; range = range_of u cylinder }

-- the place of a command's unit, and the cylinder of its first block there, with its range
abbrev pub target_of : List Shape → Command → Target
target_of units command =
    target_on (unit_place units command.unit) (unwrap_or (unit_found units command.unit) one_block)
    (cylinder_of (unwrap_or (unit_found units command.unit) one_block) (first_block command.order))

-- the same of each record
abbrev pub targets_of : List Shape → List Record → List Target
targets_of units rs = map (λ r. target_of units r.command) rs

-- what stands past the end of a list of targets
abbrev pub no_target : Target
no_target = record { drive = 0; cylinder = 0; range = 0 }

-- the target of a record's command on this drive: the head is on a cylinder of the unit, and the first block of a
-- transfer
-- is one of the unit's, and on this cylinder
pub record IsTargeted (d : Drive) (cylinder : ℕ) (r : Record) : Type 0 where
  pub head : IsOnUnit d
  pub block : is_move r.command.order ≡ true → first_block r.command.order < d.unit.size
  pub cylinder_is : cylinder ≡ cylinder_of d.unit (first_block r.command.order)
