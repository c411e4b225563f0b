-- The best start of each drive, which a queue keeps from pick to pick.
use Rattle.std.specs.Prelude.{◌≡◌, ◌≢◌, ◌⊎◌, ℕ, ◌<◌, ◌≤◌, Bool, true, false, not, ◌&&◌, ◌||◌, if◌then◌else◌, bit_and, nat_eq, List, Option, length, map, take, slice_index_or, All}
use Rattle.std.specs.List.{list_all}
use Rattle.mscp_packet.specs.declared.command.Command.{Command}
use Rattle.mscp_drive.specs.Heads.{sweep_cost}
use Rattle.mscp_drive.specs.Shape.{last_cylinder, one_block}
use Rattle.mscp_queue.specs.declared.drive.Drive.{Drive}
use Rattle.mscp_queue.specs.declared.favorites.Favorites.{Favorites}
use Rattle.mscp_queue.specs.declared.target.Target.{Target}
use Rattle.mscp_queue.specs.Drives.{drive_of, fresh_drive}
use Rattle.mscp_queue.specs.Kept.{IsReady}
use Rattle.mscp_queue.specs.Masks.{Kind}
use Rattle.mscp_queue.specs.Orders.{is_sequential, order_cost}
use Rattle.mscp_queue.specs.Records.{Record, no_record}
use Rattle.mscp_queue.specs.Slots.{is_unfenced_at, no_kind}
use Rattle.mscp_queue.specs.Starts.{Start}
use Rattle.mscp_queue.specs.Ranges.{IsIn, IsSooner, range_at}
use Rattle.mscp_queue.specs.Targets.{no_target, range_of}
use Rattle.mscp_queue.specs.Waiters.{Waiters}

-- no start at this cost and place comes before this one
abbrev pub IsAhead : Start → ℕ → ℕ → Type 0
IsAhead s cost place = (s.cost < cost) ⊎ ((s.cost ≡ cost) × (s.place ≤ place))

-- of the places that are so this one's start is the first of the cheapest; or it is that of no command
pub record IsBest (Opens : ℕ → Type 0) (cost : ℕ → ℕ) (s : Start) : Type 0 where
  pub is : (s.place ≡ 64) ⊎ (Opens s.place × (s.cost ≡ cost s.place))
  pub each : (place : ℕ) → Opens place → (s.place < 64) × IsAhead s (cost place) place

-- ---- as slots tell it
-- what the masks tell of the command at a place
abbrev pub kind_there : List Kind → ℕ → Kind
kind_there ks place = slice_index_or ks place no_kind

-- the command at a place is to the unit of this drive, and no command that came earlier keeps it back
pub record IsOpenOn (ks : List Kind) (at place : ℕ) : Type 0 where
  pub inside : place < length ks
  pub drive : (kind_there ks place).drive ≡ at
  pub free : is_unfenced_at ks place ≡ true

-- what a start on a drive costs whose first block is on this cylinder: nothing, if the command is sequential
abbrev pub cost_on : Drive → Bool → ℕ → ℕ
cost_on d sequential to = if sequential then 0 else sweep_cost (last_cylinder d.unit) d.head.cylinder d.head.up to

-- the same of the command at a place
abbrev pub cost_there : Drive → List Kind → List Target → ℕ → ℕ
cost_there d ks own place =
    cost_on d (kind_there ks place).sequential (slice_index_or own place no_target).cylinder

-- each command whose target is the drive at a place has its first block on a cylinder of it, whose range is known
abbrev pub AreOnDrive : ℕ → Drive → List Target → Type 0
AreOnDrive at d own =
    All (λ a. a.drive ≡ at → (a.cylinder ≤ last_cylinder d.unit) × (a.range ≡ range_of d.unit a.cylinder)) own

-- the slots found are of those in front; and where there is another, all in front are transfers, and the head comes to
-- it later than to one of them
pub record IsNearOf (sequential : ℕ) (d : Drive) (ranges : List ℕ) (front found : ℕ) : Type 0 where
  pub to : (k : ℕ) → IsIn found k → IsIn front k
  pub from : (k : ℕ) → IsIn front k → IsIn found k ⊎ ((bit_and front sequential ≡ 0)
      × ((j : ℕ) × IsIn found j × IsSooner d.head.up (range_of d.unit d.head.cylinder) (range_at ranges j)
      (range_at ranges k)))

-- ---- as a queue keeps it
abbrev pub commands : List Record → List Command
commands rs = map (λ r. r.command) rs

-- the command at a place: past the end, that of nothing
abbrev pub command_at : List Command → ℕ → Command
command_at cs place = slice_index_or cs place no_record.command

-- one keeps the other, which came later, back: both are to one unit, and one of them is sequential (manual, "Command
-- Categories and Execution Order")
abbrev pub bars : Command → Command → Bool
bars one other = nat_eq one.unit other.unit && (is_sequential one.order || is_sequential other.order)

-- nobody in front keeps the command at a place back
abbrev pub is_clear : List Command → ℕ → Bool
is_clear cs place = list_all (λ one. not (bars one (command_at cs place))) (take place cs)

-- the command at a place is to the unit of this number, and nobody in front keeps it back
pub record IsClearOn (cs : List Command) (number place : ℕ) : Type 0 where
  pub inside : place < length cs
  pub unit : (command_at cs place).unit ≡ number
  pub clear : is_clear cs place ≡ true

-- what the start of the command at a place costs on a drive (profile)
abbrev pub cost_at : Drive → List Command → ℕ → ℕ
cost_at d cs place = order_cost d.unit d.head (command_at cs place).order

-- the drive at a place
abbrev pub drive_in : List Drive → ℕ → Drive
drive_in ds at = slice_index_or ds at (fresh_drive one_block)

-- the start that is kept for a drive
abbrev pub start_in : Favorites → ℕ → Start
start_in f k = slice_index_or f.starts k (record { cost = 0; place = 255 })

-- whether the best start of a drive is known
abbrev pub knows : Favorites → ℕ → Bool
knows f k = not (nat_eq (start_in f k).place 255)

-- the best start of no drive is known
abbrev pub KnowsNothing : Favorites → Type 0
KnowsNothing f = (k : ℕ) → knows f k ≡ false

-- the starts are as before but for one
pub record IsLearned (drive : ℕ) (start : Start) (old new : Favorites) : Type 0 where
  pub own : start_in new drive ≡ start
  pub other : (k : ℕ) → k ≢ drive → start_in new k ≡ start_in old k

-- each start that is known is the best of its drive
pub record AreFavored (ds : List Drive) (cs : List Command) (f : Favorites) : Type 0 where
  pub each : (k : ℕ) → k < length ds → knows f k ≡ true
      → IsBest (IsClearOn cs (drive_in ds k).unit.number) (cost_at (drive_in ds k) cs) (start_in f k)

-- a queue is ready, and it knows the best starts of its waiting commands
pub record IsPrepared (room longest : ℕ) (w : Waiters) (ds : List Drive) (begun serving : Option ℕ)
    (f : Favorites) : Type 0 where
  pub ready : IsReady room longest w ds begun serving
  pub favored : AreFavored ds (commands w.waiting) f

-- ---- what is picked
-- what the start of the command at a place costs on the drive of its unit (profile)
abbrev pub cost_of : List Drive → List Command → ℕ → ℕ
cost_of ds cs place = cost_at (drive_of ds (command_at cs place).unit) cs place

-- nobody in front keeps the command at a place back
pub record IsClear (cs : List Command) (place : ℕ) : Type 0 where
  pub inside : place < length cs
  pub clear : is_clear cs place ≡ true

-- of the starts of these the one at a place is the first of the cheapest
pub record IsFirstOf (ds : List Drive) (cs : List Command) (place : ℕ) : Type 0 where
  pub is : IsClear cs place
  pub each : (other : ℕ) → IsClear cs other
      → (cost_of ds cs place < cost_of ds cs other) ⊎ ((cost_of ds cs place ≡ cost_of ds cs other) × (place ≤ other))
