-- What bytes say that may be those of a saved controller. Each number stands where it is written. Of bytes that nothing
-- is saved as something is said, too: whether it can be, and is saved as they are, is asked elsewhere.
use Rattle.std.specs.Prelude.{ℕ, zero, suc, ◌+◌, ◌*◌, ◌&&◌, nat_eq, nat_lt, if◌then◌else◌, List, [], ◌∷◌, ◌++◌, take, drop, slice_index, Option, Some, None}
use Rattle.mscp_packet.specs.declared.end.BodyKind.{BodyKind}
use Rattle.mscp_packet.specs.declared.end.EndBody.TheVariants as bodies
use Rattle.mscp_packet.specs.declared.end.End.{End}
use Rattle.mscp_packet.specs.Commands.{command_of}
use Rattle.mscp_packet.specs.Ends.{end_at, kind_of_code}
use Rattle.mscp_packet.specs.Number.{num}
use Rattle.mscp_drive.specs.Shape.{Shape, shape, one_block}
use Rattle.mscp_queue.specs.declared.drive.Drive.{Drive}
use Rattle.mscp_drive.specs.declared.connection.Connection.{Connection}
use Rattle.mscp_drive.specs.declared.connection.Connection.TheVariants.{First, Second}
use Rattle.mscp_queue.specs.declared.name.Name.{Name}
use Rattle.mscp_queue.specs.Kept.{units_of}
use Rattle.mscp_queue.specs.Names.{name_on}
use Rattle.mscp_queue.specs.Orders.{order_weight}
use Rattle.mscp_queue.specs.Records.{Record}
use Rattle.mscp_controller.specs.Holdings.{Holdings}
use Rattle.mscp_controller.specs.Restored.{made_of}
use Rattle.mscp_drive.specs.Settings.{Settings}
use Rattle.mscp_saved.specs.Saved.{drive_size, end_size, head_size, waiting_size}

-- ---- parts

-- the connection of a number
abbrev pub connection_in : ℕ → Connection
connection_in byte = if nat_eq byte 1 then First else Second

-- the name of a connection's number and a reference number, if the former is one
abbrev pub name_in : ℕ → ℕ → Option Name
name_in byte reference = if nat_eq byte 0 then None else Some (name_on (connection_in byte) reference)

-- a unit, or one of one block where a size is zero
abbrev pub sized : Shape → Shape
sized u =
    if nat_lt 0 u.track && (nat_lt 0 u.group && (nat_lt 0 u.cylinder && nat_lt 0 u.size)) then u else one_block

-- the unit in the bytes of a drive
abbrev pub unit_in : List ℕ → Shape
unit_in b =
    sized (shape (num b 0 2) (num b 2 2) (num b 4 2) (num b 6 2) (num b 8 4) (num b 12 8) (num b 20 4) (num b 24 4))

-- the drive in them
abbrev pub drive_in : List ℕ → Drive
drive_in b = record {
  unit = unit_in b;
  online = nat_eq (slice_index b 28) 1;
  head = record { cylinder = num b 30 4; up = nat_eq (slice_index b 29) 1 };
}

-- the waiting command in the bytes of one: a message says what it asks for, and that how many steps it takes
abbrev pub waiting_in : List ℕ → Record
waiting_in b = record {
  connection = connection_in (slice_index b 40);
  command = command_of (take 32 b);
  weight = order_weight (command_of (take 32 b)).order;
  done = num b 32 4;
  good = num b 32 4;
  passed = num b 36 4;
}

-- what is read as an end and is none: it has no endcode
abbrev pub no_end : End
no_end = record { reference = 0; unit = 0; code = 0; status = 0; body = bodies.Bare }

-- the end in the bytes of one, whose body is of this shape, if its endcode has one
abbrev pub end_with : Option BodyKind → List ℕ → End
end_with None b = no_end
end_with (Some kind) b = end_at kind b

abbrev pub end_in : List ℕ → End
end_in b = end_with (kind_of_code (slice_index b 8)) b

-- of parts of one size the bytes of that at a place
abbrev pub part : ℕ → ℕ → List ℕ → List ℕ
part size place b = take size (drop (size * place) b)

-- what so many parts of one size are read as, in their order
abbrev pub parts_in : {X : Type 0} → (List ℕ → X) → ℕ → ℕ → List ℕ → List X
parts_in f size zero b = []
parts_in f size (suc n) b = parts_in f size n b ++ f (part size n b) ∷ []

-- ---- all

-- how many drives, waiting commands and ends of each connection there are
abbrev pub drive_count : List ℕ → ℕ
drive_count b = slice_index b 31

abbrev pub waiting_count : List ℕ → ℕ
waiting_count b = slice_index b 40

abbrev pub first_count : List ℕ → ℕ
first_count b = slice_index b 41

abbrev pub second_count : List ℕ → ℕ
second_count b = slice_index b 42

-- where the parts begin: the drives behind the head, the waiting commands behind them, and then the ends of the first
-- connection and those of the second
abbrev pub waiting_place : List ℕ → ℕ
waiting_place b = head_size + drive_size * drive_count b

abbrev pub first_place : List ℕ → ℕ
first_place b = waiting_place b + waiting_size * waiting_count b

abbrev pub second_place : List ℕ → ℕ
second_place b = first_place b + end_size * first_count b

abbrev pub drives_in : List ℕ → List Drive
drives_in b = parts_in drive_in drive_size (drive_count b) (drop head_size b)

abbrev pub all_waiting_in : List ℕ → List Record
all_waiting_in b = parts_in waiting_in waiting_size (waiting_count b) (drop (waiting_place b) b)

abbrev pub first_in : List ℕ → List End
first_in b = parts_in end_in end_size (first_count b) (drop (first_place b) b)

abbrev pub second_in : List ℕ → List End
second_in b = parts_in end_in end_size (second_count b) (drop (second_place b) b)

abbrev pub begun_in : List ℕ → Option Name
begun_in b = name_in (slice_index b 43) (num b 44 4)

-- the settings, with the units of these drives
abbrev pub settings_in : List ℕ → List Drive → Settings
settings_in b ds = record {
  credits = num b 12 4;
  second = num b 16 4;
  budget = num b 20 4;
  longest = num b 24 4;
  timeout = num b 28 2;
  id = num b 32 8;
  units = units_of ds;
}

-- all that is said of a controller with this picker
abbrev pub held_in : {K : Type 0} → K → List ℕ → Holdings K
held_in picker b =
    made_of (settings_in b (drives_in b)) (all_waiting_in b) (first_in b) (second_in b) (drives_in b) (begun_in b)
    picker
