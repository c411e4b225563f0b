-- Units with their states and heads.
use Rattle.std.specs.Prelude.{ℕ, ◌≤◌, Bool, false, true, find, unwrap_or, nat_eq, if◌then◌else◌, List, map}
use Rattle.mscp_drive.specs.Shape.{Shape, last_cylinder, one_block}
use Rattle.mscp_queue.specs.declared.drive.Drive.{Drive}

-- a unit to which nothing came so far: it is available, and its head is on cylinder 0 and goes up (profile)
abbrev pub fresh_drive : Shape → Drive
fresh_drive u = record { unit = u; online = false; head = record { cylinder = 0; up = true } }

-- the drive has this unit number
abbrev pub has_number : ℕ → Drive → Bool
has_number number d = nat_eq d.unit.number number

-- the drive of the unit of this number. No unit that isn't configured is asked for
abbrev pub drive_of : List Drive → ℕ → Drive
drive_of ds number = unwrap_or (find (has_number number) ds) (fresh_drive one_block)

-- the unit of this number is online: false where it isn't configured
abbrev pub is_online_in : List Drive → ℕ → Bool
is_online_in ds number = (drive_of ds number).online

-- the drives once that of this unit number is this one
abbrev pub replaced : ℕ → Drive → List Drive → List Drive
replaced number new ds = map (λ d. if has_number number d then new else d) ds

-- the head is on a cylinder of its unit
abbrev pub IsOnUnit : Drive → Type 0
IsOnUnit d = d.head.cylinder ≤ last_cylinder d.unit
