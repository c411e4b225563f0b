-- What callers see of a queue: its limits, its waiting commands, its drives and its picker.
use Rattle.std.specs.Prelude.{◌≡◌, ℕ, List, [], ◌∷◌, ◌++◌, map, Option, Some, None}
use Rattle.mscp_packet.specs.declared.command.Command.{Command}
use Rattle.mscp_drive.specs.Shape.{Shape}
use Rattle.mscp_drive.specs.declared.block.Block.{Block}
use Rattle.mscp_queue.specs.declared.report.Report.{Report}
use Rattle.mscp_queue.specs.declared.report.Report.TheVariants.{Idle}
use Rattle.mscp_queue.specs.declared.drive.Drive.{Drive}
use Rattle.mscp_queue.specs.declared.upcoming.Upcoming.{Upcoming}
use Rattle.mscp_queue.specs.declared.view.Choice.{Choice}
use Rattle.mscp_drive.specs.declared.connection.Connection.{Connection}
use Rattle.mscp_queue.specs.declared.name.Name.{Name}
use Rattle.mscp_queue.specs.Drives.{fresh_drive}
use Rattle.mscp_queue.specs.Records.{Record, drive_at, fresh_record, name_of, record_at, without}
use Rattle.mscp_queue.specs.Serving.{IsNext, begun_without, drives_after, report_of, upcoming_of, waiting_after}

-- how many commands may wait, by how many blocks one may be passed, and the longest transfer in blocks (profile); the
-- waiting commands, in order of arrival; the drives, in the order of their units; what was begun, if something was; and
-- who picks
pub record Line (K : Type 0) : Type 0 where
  pub room : ℕ
  pub budget : ℕ
  pub longest : ℕ
  pub waiting : List Record
  pub drives : List Drive
  pub begun : Option Name
  pub picker : K

-- a queue to which nothing came so far
abbrev pub fresh : {K : Type 0} → List Shape → ℕ → ℕ → ℕ → K → Line K
fresh units room budget longest picker = record {
  room = room;
  budget = budget;
  longest = longest;
  waiting = [];
  drives = map fresh_drive units;
  begun = None;
  picker = picker;
}

-- a queue once a command waits that came by a connection
abbrev pub pushed : {K : Type 0} → Line K → Connection → Command → Line K
pushed line connection command = record line { waiting = line.waiting ++ fresh_record connection command ∷ [] }

-- a queue once the command at a place was begun
abbrev pub begun_at : {K : Type 0} → Line K → ℕ → Line K
begun_at line place = record line { begun = Some (name_of (record_at line.waiting place)) }

-- the record at a place is begun
pub record BeginsAt {K : Type 0} (picks : List Choice → ℕ → Type 0)
    (old : Line K) (upcoming : Upcoming) (new : Line K) (place : ℕ) : Type 0 where
  -- it may be served next (profile)
  pub next : IsNext picks old.budget old.drives old.waiting old.begun place
  -- this is what is told of it (profile)
  pub told : upcoming ≡ upcoming_of (drive_at old.drives old.waiting place) (record_at old.waiting place)
  -- and it is kept that it was begun
  pub left : new ≡ begun_at old place

-- what a begin may tell, and what it leaves (profile)
abbrev pub Begins : {K : Type 0} → (List Choice → ℕ → Type 0) → Line K → Option Upcoming → Line K → Type 0
Begins picks old None new = (old.waiting ≡ []) × (old.begun ≡ None) × (new ≡ old)
Begins picks old (Some upcoming) new = (place : ℕ) × BeginsAt picks old upcoming new place

-- a queue once the command of this name was aborted: it is begun no more
abbrev pub aborting : {K : Type 0} → Name → Line K → Line K
aborting name line = record line { waiting = without name line.waiting; begun = begun_without name line.begun }

-- a queue after a step of the record at a place
abbrev pub served : {K : Type 0} → Block → Line K → ℕ → Line K
served k line place = record line {
  waiting = waiting_after k (drive_at line.drives line.waiting place) line.waiting place;
  drives = drives_after k line.drives line.waiting place;
  begun = None;
}

-- the step serves the record at a place
pub record ServesAt {K : Type 0} (picks : List Choice → ℕ → Type 0)
    (k : Block) (old : Line K) (report : Report) (new : Line K) (place : ℕ) : Type 0 where
  -- it may be served next (profile)
  pub next : IsNext picks old.budget old.drives old.waiting old.begun place
  -- this is what is reported of it (manual, the seek is the profile's)
  pub told : report ≡ report_of k (drive_at old.drives old.waiting place) (record_at old.waiting place)
  -- and this is what it leaves
  pub left : new ≡ served k old place

-- what a step with this block may report, and what it leaves: a relation, since any record that may start may be the
-- one that the picker picks (profile)
abbrev pub Serves : {K : Type 0} → (List Choice → ℕ → Type 0) → Block → Line K → Report → Line K → Type 0
Serves picks k old Idle new = (old.waiting ≡ []) × (old.begun ≡ None) × (new ≡ old)
Serves picks k old report new = (place : ℕ) × ServesAt picks k old report new place
