-- What is true of each queue, whatever came to it.
use Rattle.std.specs.Prelude.{◌≡◌, ◌≢◌, ℕ, ◌+◌, ◌*◌, ◌^◌, ◌<◌, ◌≤◌, Bool, true, false, ◌||◌, ◌-◌, if◌then◌else◌, nat_lt, option_map, is_some, unwrap_or, List, [], ◌∷◌, length, map, filter, All, IfSome, Option, Some, None, ◌⊎◌, drop, slice_index_or}
use Rattle.std.specs.List.{AllByRecursion}
use Rattle.mscp_packet.specs.declared.command.Command.{Command}
use Rattle.mscp_packet.specs.declared.command.Order.{Order}
use Rattle.mscp_packet.specs.declared.command.Order.TheVariants as orders
use Rattle.mscp_drive.specs.Shape.{Shape, one_block}
use Rattle.mscp_drive.specs.UnitList.{IsUnitList, unit_found}
use Rattle.mscp_queue.specs.declared.target.Target.{Target}
use Rattle.mscp_queue.specs.declared.drive.Drive.{Drive}
use Rattle.mscp_queue.specs.declared.name.Name.{Name}
use Rattle.mscp_queue.specs.declared.upcoming.Upcoming.{Upcoming}
use Rattle.mscp_queue.specs.Targets.{targets_of, no_target}
use Rattle.mscp_queue.specs.Orders.{first_block, is_move, is_sequential, order_weight}
use Rattle.mscp_queue.specs.Drives.{IsOnUnit}
use Rattle.mscp_queue.specs.Pairs.{Pairs}
use Rattle.mscp_queue.specs.Records.{Record, has_name, is_in_service, name_of, record_at}
use Rattle.mscp_queue.specs.Serving.{IsServable, has_block}
use Rattle.mscp_queue.specs.Waiters.{Waiters}

-- the units of drives
abbrev pub units_of : List Drive → List Shape
units_of ds = map (λ d. d.unit) ds

-- a unit of this number is among these
abbrev pub is_known : List Shape → ℕ → Bool
is_known units number = is_some (unit_found units number)

-- a transfer lies inside its unit (profile)
abbrev pub IsInside : List Shape → ℕ → Order → Type 0
IsInside units number (orders.Move kind count block) =
    block + order_weight (orders.Move kind count block) ≤ (unwrap_or (unit_found units number) one_block).size
IsInside units number order = Unit {0}

-- the command is to one of the units, which has the blocks of its steps
abbrev pub HasBlocks : List Shape → Command → Type 0
HasBlocks units command = (is_known units command.unit ≡ true) × IsInside units command.unit command.order

-- what is told of a step is to one of the units, which has the block that the step touches, if it touches one
pub record IsOfUnit (units : List Shape) (u : Upcoming) : Type 0 where
  pub known : is_known units u.command.unit ≡ true
  pub block : IfSome u.lbn (λ block. has_block units u.command.unit block ≡ true)

-- a command that may wait is sequential or a transfer, to one of the units, and no step of it reaches past its unit
pub record IsWaitable (longest : ℕ) (units : List Shape) (command : Command) : Type 0 where
  pub order : (is_sequential command.order || is_move command.order) ≡ true
  pub known : is_known units command.unit ≡ true
  pub short : order_weight command.order ≤ longest
  pub inside : IsInside units command.unit command.order
  -- its blocks have numbers of 32 bits
  pub small : first_block command.order + order_weight command.order ≤ 2 ^ 32

-- a command that waits has steps left, all that were served of it were good, and it was passed by no more than the
-- budget
pub record IsKept (budget longest : ℕ) (units : List Shape) (r : Record) : Type 0 where
  pub waitable : IsWaitable longest units r.command
  pub weight : r.weight ≡ order_weight r.command.order
  pub unfinished : r.done < r.weight
  pub good : r.good ≡ r.done
  pub passed : r.passed ≤ budget

-- the names of the commands of records
abbrev pub names : List Record → List Name
names rs = map name_of rs

-- each of these names stands once
abbrev pub AreApart : List Name → Type 0
AreApart [] = Unit {0}
AreApart (x ∷ xs) = AllByRecursion (λ y. y ≢ x) xs × AreApart xs

-- the command of this name waits, and may be served
abbrev pub IsStillServable : ℕ → List Record → Name → Type 0
IsStillServable budget rs name =
    (place : ℕ) × IsServable budget rs place × (has_name name (record_at rs place) ≡ true)

-- the limits, the waiting commands and the drives of a queue, what was begun, and whether one may be in service
pub record IsHeld (room budget longest : ℕ) (rs : List Record) (ds : List Drive) (begun : Option Name)
    (serving : Bool) : Type 0 where
  pub some_room : 1 ≤ room
  pub few : room ≤ 63
  pub some_blocks : 1 ≤ longest
  pub short : longest ≤ 8388608
  pub small : room * longest + budget < 2 ^ 32
  -- there is room for those that wait
  pub fits : length rs ≤ room
  pub each : All (IsKept budget longest (units_of ds)) rs
  -- each command has a name of its own (manual)
  pub apart : AreApart (names rs)
  -- one is in service at the most
  pub one : length (filter is_in_service rs) ≤ 1
  -- where none may be, none is
  pub idle : serving ≡ false → All (λ r. r.done ≡ 0) rs
  pub units : IsUnitList (units_of ds)
  -- each head is on a cylinder of its unit
  pub heads : All IsOnUnit ds
  -- what was begun waits and may be served
  pub still : (name : Name) → begun ≡ Some name → IsStillServable budget rs name

-- who came earlier was passed at least as often
abbrev pub ArePassedInOrder : List Record → Type 0
ArePassedInOrder rs = Pairs (λ r z. z.passed ≤ r.passed) rs

-- the name of the command at a place that is known
abbrev pub begun_name : List Record → Option ℕ → Option Name
begun_name rs place = option_map (λ k. name_of (record_at rs k)) place

-- a place that is known, once the command at the place `gone` left: none where it was that
abbrev pub place_without : Option ℕ → ℕ → Option ℕ
place_without None gone = None
place_without (Some place) gone =
    if nat_lt place gone then Some place else if nat_lt gone place then Some (place - 1) else None

-- the place of the command in service after a step of the one at a place, which ended it or not
abbrev pub place_served : Bool → ℕ → Option ℕ
place_served ends place = if ends then None else Some place

-- the same, and what a queue knows so that a step costs less: the target of each waiting command, in which order they
-- were
-- passed, and the places of the command in service and of what was begun
pub record IsReady (room longest : ℕ) (w : Waiters) (ds : List Drive) (begun serving : Option ℕ) : Type 0 where
  pub held : IsHeld room w.budget longest w.waiting ds (begun_name w.waiting begun) (is_some serving)
  pub targeted : w.targets ≡ targets_of (units_of ds) w.waiting
  pub order : ArePassedInOrder w.waiting
  pub served : (place : ℕ) → serving ≡ Some place
      → (place < length w.waiting) × (is_in_service (record_at w.waiting place) ≡ true)
  pub waits : (place : ℕ) → begun ≡ Some place → place < length w.waiting

-- ---- what a view is made of

-- waiting commands, the target of each of them, and the drives
pub record CanBeShown (ds : List Drive) (rs : List Record) (targets : List Target) : Type 0 where
  pub few : length rs ≤ 64
  pub drives : length ds ≤ 16
  pub some_drive : 0 < length ds
  -- each head is on a cylinder of its unit
  pub heads : All IsOnUnit ds
  pub waitable : All (λ r. (is_sequential r.command.order || is_move r.command.order) ≡ true) rs
  pub weighs : All (λ r. (1 ≤ r.weight) × (r.weight < 2 ^ 32)) rs
  pub inside : All (λ r. HasBlocks (units_of ds) r.command) rs
  pub targeted : targets ≡ targets_of (units_of ds) rs

-- nobody behind a place may start, where the oldest has so much left of the budget: nothing, or all those behind are
-- of the
-- unit of a sequential command, which stands there
abbrev pub IsShut : List Record → List Target → ℕ → ℕ → Type 0
IsShut rs own place unspent = (unspent ≡ 0)
    ⊎ ((is_sequential (record_at rs place).command.order ≡ true)
    × All (λ a. a.drive ≡ (slice_index_or own place no_target).drive) (drop (place + 1) own))
