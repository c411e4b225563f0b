-- The waiting commands as records, in order of arrival.
use Rattle.std.specs.Prelude.{◌≡◌, ℕ, ◌+◌, ◌-◌, ◌<◌, cond, Bool, true, not, nat_eq, nat_lt, filter, List, [], ◌∷◌, length, slice_index_or, Option, Some, None, if◌then◌else◌}
use Rattle.mscp_packet.specs.declared.command.Command.{Command}
use Rattle.mscp_packet.specs.declared.command.Order.TheVariants as orders
use Rattle.mscp_packet.specs.declared.end.End.{End}
use Rattle.mscp_queue.specs.declared.drive.Drive.{Drive}
use Rattle.mscp_drive.specs.declared.connection.Connection.{Connection}
use Rattle.mscp_drive.specs.declared.connection.Connection.TheVariants.{First}
use Rattle.mscp_queue.specs.declared.name.Name.{Name}
use Rattle.mscp_queue.specs.Drives.{drive_of}
use Rattle.mscp_queue.specs.Names.{name_on, same_name}
use Rattle.mscp_queue.specs.Orders.{order_weight}
use Rattle.mscp_queue.specs.Outcomes.{aborted_end}

-- a waiting command: the connection that it came by, how many steps it takes, how many it had, how many of its blocks
-- were good, and by how many blocks it was passed (profile)
pub record Record : Type 0 where
  pub connection : Connection
  pub command : Command
  pub weight : ℕ
  pub done : ℕ
  pub good : ℕ
  pub passed : ℕ

-- the record of a command that came by a connection and begins to wait
abbrev pub fresh_record : Connection → Command → Record
fresh_record connection command =
    record {
      connection = connection;
      command = command;
      weight = order_weight command.order;
      done = 0;
      good = 0;
      passed = 0;
    }

-- a record of nothing, which stands past the end of a list
abbrev pub no_record : Record
no_record =
    record {
      connection = First;
      command = record { reference = 0; unit = 0; order = orders.Abort 0 };
      weight = 0;
      done = 0;
      good = 0;
      passed = 0;
    }

-- the record at a place: past the end, one of nothing
abbrev pub record_at : List Record → ℕ → Record
record_at rs place = slice_index_or rs place no_record

-- the name of a record's command
abbrev pub name_of : Record → Name
name_of r = name_on r.connection r.command.reference

-- the record is of the command of this name
abbrev pub has_name : Name → Record → Bool
has_name name r = same_name (name_of r) name

-- the drive of the record at a place
abbrev pub drive_at : List Drive → List Record → ℕ → Drive
drive_at ds rs place = drive_of ds (record_at rs place).command.unit

-- no other record has the name of the one at a place
abbrev pub IsAlone : List Record → ℕ → Type 0
IsAlone rs place =
    (other : ℕ) → other < length rs → name_of (record_at rs other) ≡ name_of (record_at rs place) → other ≡ place

-- the records without that of the command of this name
abbrev pub without : Name → List Record → List Record
without name rs = filter (λ r. not (has_name name r)) rs

-- the end of a record's command that is aborted, which counts the bytes of its good blocks (manual)
abbrev pub aborted_record : Record → End
aborted_record r = aborted_end r.command r.good

-- how many steps are left of a record (profile)
abbrev pub left_of : Record → ℕ
left_of r = r.weight - r.done

-- the record's command was served and waits for its next step (profile)
abbrev pub is_in_service : Record → Bool
is_in_service r = nat_lt 0 r.done

-- a record of this name is in service
abbrev pub IsServing : Name → List Record → Type 0
IsServing name rs =
    (place : ℕ) × (place < length rs) × (is_in_service (record_at rs place) ≡ true)
    × (name_of (record_at rs place) ≡ name)

-- how many steps are left of a record, if it is in service
abbrev pub left_if_serving : Record → ℕ
left_if_serving r = if is_in_service r then left_of r else 0

-- the record's command was never served (profile)
abbrev pub is_unstarted : Record → Bool
is_unstarted r = nat_eq r.done 0

-- what the start of a record's command costs each earlier command that waits: all the steps that it takes (profile)
abbrev pub charge : Record → ℕ
charge r = r.weight

-- what a step of a record costs each earlier command: the charge of a start (profile)
abbrev pub step_charge : Record → ℕ
step_charge r = cond (is_unstarted r) (charge r) 0

-- the record without the count of the blocks by which its command was passed
abbrev pub bare : Record → Record
bare r = record r { passed = 0 }

-- the record once its command was passed at this charge
abbrev pub passed_by : ℕ → Record → Record
passed_by n r = record r { passed = r.passed + n }

-- the record after a step of its command that doesn't end it: the block was good
abbrev pub advanced : Record → Record
advanced r = record r { done = r.done + 1; good = r.good + 1 }

-- what a step leaves of the record, which ended its command or not
abbrev pub remains : Record → Option End → List Record
remains r None = advanced r ∷ []
remains r (Some end) = []
