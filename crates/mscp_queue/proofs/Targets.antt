-- The target of a command is where its drive and its first block are found.
use Rattle.mscp_queue.proofs.Common.{◌≡◌, ℕ, ◌+◌, ◌<◌, ◌≤◌, true, cond, not, List, [], ◌∷◌, ◌++◌, map, take, drop, get_or, length, refl, ap, sym, ◌∙◌, subst, arith, All, nat_eq, unwrap_or, position, div-mul-le_self, le-div, drop-map, get_or-map, get_or_default, map-append, take-map, Command, Shape, cylinder_of, last_cylinder, Target, Drive, Connection, IsTargeted, range_of, target_of, targets_of, unit_place, IsOnUnit, drive_of, has_number, CanBeShown, HasBlocks, is_known, units_of, first_block, Record, advanced, drive_at, fresh_record, no_record, no_target, passed_by, record_at}
use Rattle.mscp_queue.proofs.Drives.{drive_place, known_at, known_inside}
use Rattle.mscp_queue.proofs.Placed.{cut_at, map_map}
use Rattle.mscp_queue.proofs.Held.{some_steps}
use Rattle.mscp_queue.proofs.Turns.{found_unit, inside_of}

-- ---- the place of a drive is that of its unit
pub place_same : (ds : List Drive) (n : ℕ) → drive_place ds n ≡ unit_place (units_of ds) n
place_same [] n = refl
place_same (d ∷ ds) n = ap (λ k. cond (not (nat_eq d.unit.number n)) (1 + k) 0) (place_same ds n)

pub place_found : (ds : List Drive) (n other : ℕ) → is_known (units_of ds) n ≡ true
    → unwrap_or (position (has_number n) ds) other ≡ unit_place (units_of ds) n
place_found ds n other h = Rattle.mscp_queue.proofs.Drives.place_found ds n other h ∙ place_same ds n

pub place_inside : (ds : List Drive) (n : ℕ) → is_known (units_of ds) n ≡ true → unit_place (units_of ds) n < length ds
place_inside ds n h = subst (λ k. k < length ds) (place_same ds n) (known_inside ds n h)

-- ---- the cylinder of a block
-- no block of a unit lies past its last cylinder
pub cylinder_within : (u : Shape) (block : ℕ) → block < u.size → cylinder_of u block ≤ last_cylinder u
cylinder_within u block h = search (arith, le-div, div-mul-le_self)

-- the range of a target is one of 64
pub range_low : (units : List Shape) (command : Command) (a : Target) → a ≡ target_of units command → a.range < 64
range_low units command a e = grind arith

-- ---- a target
-- a target as it is found
pub target_made : (ds : List Drive) (command : Command) (place block cylinder range : ℕ) (d : Drive)
    → is_known (units_of ds) command.unit ≡ true → place ≡ unit_place (units_of ds) command.unit
    → block ≡ first_block command.order → cylinder ≡ cylinder_of (get_or ds place d).unit block
    → range ≡ range_of (get_or ds place d).unit cylinder
    → record { drive = place; cylinder = cylinder; range = range } ≡ target_of (units_of ds) command
target_made ds command place block cylinder range d known at first is in_range =
    search (arith, place_same ds command.unit, known_at ds command.unit d known, found_unit command.unit ds)

-- ---- the target of a waiting command that can be shown
pub own_blocks : (ds : List Drive) (rs : List Record) (targets : List Target) (place : ℕ) (r : Record)
    → CanBeShown ds rs targets → place < length rs → r ≡ get_or rs place r → HasBlocks (units_of ds) r.command
own_blocks ds rs targets place r h l own = search arith

pub own_target : (ds : List Drive) (rs : List Record) (targets : List Target) (place : ℕ) (r : Record) (other : Target)
    → CanBeShown ds rs targets → place < length rs → r ≡ get_or rs place r
    → get_or targets place other ≡ target_of (units_of ds) r.command
own_target ds rs targets place r other h l own = search (arith, get_or-map)

-- the drive that a record's target leads to, and the cylinder of its first block there
pub record IsLed (ds : List Drive) (r : Record) (at : ℕ) (d : Drive) (cylinder : ℕ) : Type 0 where
  pub drive : d ≡ drive_of ds r.command.unit
  pub targeted : IsTargeted d cylinder r

-- the place of its drive
pub led_place : (ds : List Drive) (r : Record) (at : ℕ) (a : Target)
    → at ≡ a.drive → a ≡ target_of (units_of ds) r.command → at ≡ drive_place ds r.command.unit
led_place ds r at a is own = is ∙ (ap (λ (a : Target). a.drive) own ∙ sym (place_same ds r.command.unit))

pub led_inside : (ds : List Drive) (r : Record) (at : ℕ) (a : Target) → HasBlocks (units_of ds) r.command → at ≡ a.drive
    → a ≡ target_of (units_of ds) r.command → at < length ds
led_inside ds r at a blocks is own = search (arith, led_place ds r, known_inside ds r.command.unit blocks.0)

pub led : (ds : List Drive) (r : Record) (at : ℕ) (a : Target) (d : Drive) → All IsOnUnit ds → HasBlocks (units_of ds)
    r.command → at ≡ a.drive → a ≡ target_of (units_of ds) r.command → d ≡ get_or ds at d → IsLed ds r at d a.cylinder
led ds r at a d heads blocks is own found = search (
  arith,
  led_place ds r,
  known_at ds r.command.unit d blocks.0,
  led_inside ds r,
  found_unit r.command.unit ds,
  inside_of,
  found_unit,
  some_steps,
  known_at,
)

-- the place of the drive of a waiting command
pub record HasDrive (ds : List Drive) (r : Record) (at : ℕ) : Type 0 where
  pub below : at < length ds
  pub few : at < 16
  pub place : at ≡ drive_place ds r.command.unit

pub has_drive : (ds : List Drive) (rs : List Record)
    (targets : List Target) (place : ℕ) (r : Record) (at : ℕ) (other : Target) → CanBeShown ds rs targets
    → place < length rs → r ≡ get_or rs place r → at ≡ (get_or targets place other).drive → HasDrive ds r at
has_drive ds rs targets place r at other h l own is = search (
  arith,
  own_target ds rs targets place r other h l own,
  led_inside ds r,
  own_blocks ds rs targets place r h l own,
  led_place ds r,
)

pub has_drive_there : (ds : List Drive) (rs : List Record) (targets : List Target) (place at : ℕ)
    → CanBeShown ds rs targets → place < length rs → at ≡ (get_or targets place no_target).drive
    → HasDrive ds (record_at rs place) at
has_drive_there ds rs targets place at h l is = search (arith, has_drive, get_or_default)

-- its drive, and the cylinder of its first block there
pub record LeadsTo (ds : List Drive) (rs : List Record) (place : ℕ) (r : Record) (d : Drive) (cylinder : ℕ) :
    Type 0 where
  pub drive : d ≡ drive_at ds rs place
  pub targeted : IsTargeted d cylinder r

pub leads_to : (ds : List Drive)
    (rs : List Record) (targets : List Target) (place : ℕ) (r : Record) (at : ℕ) (other : Target) (d : Drive)
    → CanBeShown ds rs targets → place < length rs → r ≡ get_or rs place r → at ≡ (get_or targets place other).drive
    → d ≡ get_or ds at d → LeadsTo ds rs place r d (get_or targets place other).cylinder
leads_to ds rs targets place r at other d h l own is found = search (
  arith,
  led ds r,
  own_blocks ds rs targets place r h l own,
  own_target ds rs targets place r other h l own,
  get_or_default rs place r no_record l,
)

-- ---- the targets stay those of the records
-- and another leaves each target as it is
pub targets_kept : (us : List Shape) (rs new : List Record) (place charge : ℕ) → place < length rs
    → new ≡ map (passed_by charge) (take place rs) ++ (advanced (record_at rs place) ∷ drop (place + 1) rs)
    → targets_of us rs ≡ targets_of us new
targets_kept us rs new place charge l e = search (arith, cut_at no_record rs place l, map-append, map_map)

-- a command comes
pub targets_pushed : (us : List Shape) (rs new : List Record) (targets targets' : List Target)
    (by : Connection) (command : Command) (target : Target) → targets ≡ targets_of us rs → target ≡ target_of us command
    → targets' ≡ targets ++ target ∷ [] → new ≡ rs ++ fresh_record by command ∷ [] → targets' ≡ targets_of us new
targets_pushed us rs new targets targets' by command target old own more e = search (arith, map-append)

-- a command leaves
pub targets_cut : (us : List Shape) (rs : List Record) (place : ℕ) → take place (targets_of us rs) ++ drop (place + 1)
    (targets_of us rs) ≡ targets_of us (take place rs ++ drop (place + 1) rs)
targets_cut us rs place = search (arith, take-map, drop-map, map-append)
