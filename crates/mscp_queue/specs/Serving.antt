-- One step: what it does with a record and its drive, what is told of it before, and which record it may serve.
use Rattle.std.specs.Prelude.{◌≡◌, ℕ, ◌+◌, ◌<◌, Bool, true, false, if◌then◌else◌, List, ◌++◌, length, map, take, drop, All, find, nat_lt, Option, Some, None, option_map}
use Rattle.std.specs.List.{position}
use Rattle.mscp_packet.specs.declared.command.Order.{Order}
use Rattle.mscp_packet.specs.declared.end.End.{End}
use Rattle.mscp_drive.specs.Shape.{Shape, cylinder_of}
use Rattle.mscp_drive.specs.UnitList.{unit_found}
use Rattle.mscp_drive.specs.Heads.{distance}
use Rattle.mscp_drive.specs.declared.head.Head.{Head}
use Rattle.mscp_drive.specs.declared.block.Block.{Block}
use Rattle.mscp_queue.specs.declared.report.Report.{Report}
use Rattle.mscp_queue.specs.declared.report.Report.TheVariants.{Idle, Served}
use Rattle.mscp_queue.specs.declared.drive.Drive.{Drive}
use Rattle.mscp_queue.specs.declared.plan.Plan.{Plan}
use Rattle.mscp_queue.specs.declared.upcoming.Upcoming.{Upcoming}
use Rattle.mscp_queue.specs.declared.view.Choice.{Choice}
use Rattle.mscp_queue.specs.declared.name.Name.{Name}
use Rattle.mscp_queue.specs.Names.{same_name}
use Rattle.mscp_queue.specs.Outcomes.{block_touched, goes_on, head_after, outcome_at, state_after}
use Rattle.mscp_queue.specs.Drives.{drive_of, replaced}
use Rattle.mscp_queue.specs.Records.{Record, drive_at, has_name, step_charge, is_unstarted, left_of, passed_by, record_at, remains}
use Rattle.mscp_queue.specs.Views.{IsPick, is_open_at}

-- ---- a record on its drive

-- the block that a step of a record's command touches on its drive (manual)
abbrev pub touched : Drive → Record → Option ℕ
touched d r = block_touched d.online r.command.order r.done

-- how far the head goes to it (profile)
abbrev pub seek_from : Drive → Option ℕ → ℕ
seek_from d None = 0
seek_from d (Some block) = distance d.head.cylinder (cylinder_of d.unit block)

-- the end that a step with this block gives to a record's command, if it ends (manual)
abbrev pub end_given : Block → Drive → Record → Option End
end_given k d r =
    if goes_on d.online r.command.order k (left_of r) then None
    else Some (outcome_at d.unit d.online r.command r.good k)

-- the state that a step leaves its unit in, which ended the order so or not (manual)
abbrev pub state_left : Bool → Order → Option End → Bool
state_left online order None = online
state_left online order (Some e) = state_after online order e.status

-- the head after a step of a record's command (profile)
abbrev pub head_left : Drive → Record → Head
head_left d r = head_after (is_unstarted r) (option_map (cylinder_of d.unit) (touched d r)) d.head

-- what a step with this block does: the block that it touches, how far the head goes and where it is then, and the end
-- of the command
abbrev pub plan_of : Block → Drive → Record → Plan
plan_of k d r = record {
  lbn = touched d r;
  seek = seek_from d (touched d r);
  head = head_left d r;
  ended = end_given k d r;
}

-- the drive after a step of a record's command (manual, the head is the profile's)
abbrev pub drive_after : Block → Drive → Record → Drive
drive_after k d r = record {
  unit = d.unit;
  online = state_left d.online r.command.order (end_given k d r);
  head = head_left d r;
}

-- what a step with this block reports of a record (manual)
abbrev pub report_of : Block → Drive → Record → Report
report_of k d r =
    Served r.connection r.command.reference r.command.unit (touched d r) (is_unstarted r) (seek_from d (touched d r))
    (end_given k d r)

-- the end that a report brings, if it brings one
abbrev pub end_in : Report → Option End
end_in Idle = None
end_in (Served connection reference unit lbn started seek ended) = ended

-- what is told of a record before its step: its connection and its command, the block that the step touches, and how
-- many steps the command had and takes (profile)
abbrev pub upcoming_of : Drive → Record → Upcoming
upcoming_of d r =
    record { connection = r.connection; command = r.command; lbn = touched d r; done = r.done; weight = r.weight }

-- the unit has this block, if it is one
abbrev pub is_block_of : Option Shape → ℕ → Bool
is_block_of None block = false
is_block_of (Some unit) block = nat_lt block unit.size

-- the unit of this number has this block
abbrev pub has_block : List Shape → ℕ → ℕ → Bool
has_block units unit block = is_block_of (unit_found units unit) block

-- ---- a record among the others

-- the waiting commands after a step of the record at a place: each one in front of a start was passed (profile)
abbrev pub waiting_after : Block → Drive → List Record → ℕ → List Record
waiting_after k d rs place =
    map (passed_by (step_charge (record_at rs place))) (take place rs)
    ++ (remains (record_at rs place) (end_given k d (record_at rs place)) ++ drop (place + 1) rs)

-- the record at a place may be served: it is in service, or nothing is and it may start (manual, the budget is
-- the profile's)
pub record IsServable (budget : ℕ) (rs : List Record) (place : ℕ) : Type 0 where
  pub inside : place < length rs
  pub idle : is_unstarted (record_at rs place) ≡ true → All (λ r. r.done ≡ 0) rs
  pub opens : is_unstarted (record_at rs place) ≡ true → is_open_at budget rs place ≡ true

-- the command of this name was begun (profile)
abbrev pub is_begun : Name → Option Name → Bool
is_begun name None = false
is_begun name (Some begun) = same_name begun name

-- the place of what was begun, if something was (profile)
abbrev pub place_begun : List Record → Option Name → Option ℕ
place_begun rs None = None
place_begun rs (Some name) = position (has_name name) rs

-- what is begun without the command of this name: nothing, where it was that (profile)
abbrev pub begun_without : Name → Option Name → Option Name
begun_without name begun = if is_begun name begun then None else begun

-- what is told of the step of the command that was begun, if one was: of the waiting one of this name (profile)
abbrev pub upcoming_begun : List Drive → List Record → Option Name → Option Upcoming
upcoming_begun ds rs None = None
upcoming_begun ds rs (Some name) =
    option_map (λ r. upcoming_of (drive_of ds r.command.unit) r) (find (has_name name) rs)

-- the record at a place may be served next: it may be served, and it is what was begun, or where nothing was, it is in
-- service or the picker may pick it (profile)
pub record IsNext (picks : List Choice → ℕ → Type 0) (budget : ℕ)
    (ds : List Drive) (rs : List Record) (begun : Option Name) (place : ℕ) : Type 0 where
  pub servable : IsServable budget rs place
  pub same : (name : Name) → begun ≡ Some name → has_name name (record_at rs place) ≡ true
  pub picked : begun ≡ None → is_unstarted (record_at rs place) ≡ true → IsPick picks budget ds rs place

-- the drives after a step of the record at a place: that of its unit has changed
abbrev pub drives_after : Block → List Drive → List Record → ℕ → List Drive
drives_after k ds rs place =
    replaced (record_at rs place).command.unit (drive_after k (drive_at ds rs place) (record_at rs place)) ds
