-- The numbers of what callers see of a controller fit their types.
use Rattle.std.specs.Prelude.{◌^◌, ◌<◌, All, IfSome}
use Rattle.mscp_packet.specs.Commands.{HasCommandRange}
use Rattle.mscp_packet.specs.Ends.{HasEndRange}
use Rattle.mscp_queue.specs.declared.drive.Drive.{Drive}
use Rattle.mscp_queue.specs.Records.{Record}
use Rattle.mscp_drive.specs.Shape.{Shape}
use Rattle.mscp_controller.specs.Holdings.{Holdings}
use Rattle.mscp_drive.specs.Settings.{Settings}

-- a unit's number and its sizes, none of which is zero
pub record HasSizesRange (u : Shape) : Type 0 where
  pub number : u.number < 2 ^ 16
  pub track : u.track < 2 ^ 16
  pub group : u.group < 2 ^ 16
  pub cylinder : u.cylinder < 2 ^ 16
  pub size : u.size < 2 ^ 32
  pub some_track : 0 < u.track
  pub some_group : 0 < u.group
  pub some_cylinder : 0 < u.cylinder
  pub some_size : 0 < u.size

-- its identifiers
pub record HasIdentifiersRange (u : Shape) : Type 0 where
  pub id : u.id < 2 ^ 64
  pub media : u.media < 2 ^ 32
  pub serial : u.serial < 2 ^ 32

-- all of a unit
pub record HasUnitRange (u : Shape) : Type 0 where
  pub sizes : HasSizesRange u
  pub identifiers : HasIdentifiersRange u

-- those of a drive
pub record HasDriveRange (d : Drive) : Type 0 where
  pub unit : HasUnitRange d.unit
  pub cylinder : d.head.cylinder < 2 ^ 32

-- those of a waiting command
pub record HasWaitingRange (r : Record) : Type 0 where
  pub command : HasCommandRange r.command
  pub done : r.done < 2 ^ 32
  pub passed : r.passed < 2 ^ 32

-- those of the settings, but for the units
pub record HasLimitRange (c : Settings) : Type 0 where
  pub credits : c.credits < 2 ^ 32
  pub second : c.second < 2 ^ 32
  pub budget : c.budget < 2 ^ 32
  pub longest : c.longest < 2 ^ 32
  pub timeout : c.timeout < 2 ^ 16
  pub id : c.id < 2 ^ 64

-- all of them
pub record HasRange {K : Type 0} (h : Holdings K) : Type 0 where
  pub limits : HasLimitRange h.settings
  pub drives : All HasDriveRange h.drives
  pub waiting : All HasWaitingRange h.waiting
  pub first : All HasEndRange h.untaken.first
  pub second : All HasEndRange h.untaken.second
  pub begun : IfSome h.begun (λ name. name.reference < 2 ^ 32)
