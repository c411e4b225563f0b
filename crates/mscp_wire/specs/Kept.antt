-- What is kept beside the commands that are outstanding, so that each is found soon.
use Rattle.std.specs.Prelude.{◌≡◌, ℕ, ◌+◌, ◌-◌, ◌*◌, ◌/◌, ◌%◌, ◌<◌, ◌≤◌, ◌^◌, cond, nat_le, length, take, Bool, true, false, not, ◌&&◌, ◌||◌, nat_eq, if◌then◌else◌, List, get_or, count_by, Option, Some, None}
use Rattle.std.specs.List.{filter_map}
use Rattle.mscp_packet.specs.OpcodeBytes as opcodes
use Rattle.mscp_drive.specs.declared.connection.Connection.{Connection}
use Rattle.mscp_drive.specs.declared.connection.Connection.TheVariants.{First, Second}
use Rattle.mscp_wire.specs.Messages.{is_immediate, is_named, is_ordered, is_sequential, same_connection}
use Rattle.mscp_wire.specs.Polls.{is_it, left, polls, turns_beside}
use Rattle.mscp_wire.specs.Polls.{tells as told_by}
use Rattle.mscp_wire.specs.declared.answer.Answer.{Answer}
use Rattle.mscp_wire.specs.Units.{key}
use Rattle.mscp_wire.specs.declared.sent.Asked.{Asked}
use Rattle.mscp_wire.specs.declared.sent.Asked.TheVariants.{Gone, Nothing, Oldest}
use Rattle.mscp_wire.specs.declared.sent.Sent.{Sent}
use Rattle.mscp_wire.specs.declared.tallies.Tallies.{Tallies}

-- ---- where commands stand

-- a command that is outstanding stands in a cell. Those whose command left are empty
abbrev pub sents : List (Option Sent) → List Sent
sents cells = filter_map (λ cell. cell) cells

-- what stands in a cell
abbrev pub cell : List (Option Sent) → ℕ → Option Sent
cell cells at = get_or cells at None

-- a command of which this is true stands in a cell
abbrev pub stands : (Sent → Bool) → Option Sent → Bool
stands p None = false
stands p (Some s) = p s

-- the place of a cell's command among those that are outstanding: so many stand before it
abbrev pub place : List (Option Sent) → ℕ → ℕ
place cells at = length (sents (take at cells))

-- the same, if there is a cell
abbrev pub place_if : List (Option Sent) → Option ℕ → Option ℕ
place_if cells None = None
place_if cells (Some at) = Some (place cells at)

-- ---- by which tag they are sought

-- the tag for a number of a connection, of commands that are answered when they arrive or of others
abbrev pub tag : Connection → ℕ → Bool → ℕ
tag via number immediate = (2 * key via number + cond immediate 1 0) % 65536

-- a command has its place in the line of its unit: it is sequential, or has its place beside such
abbrev pub is_lined : Sent → Bool
is_lined s = is_sequential s.opcode || is_ordered s.opcode

-- the number of one that is about another
abbrev pub about : Option ℕ → ℕ
about None = 65537
about (Some other) = 65538 + other

-- the number of one that has no place there: of an ABORT and a GET COMMAND STATUS by what it is about, of a GET
-- UNIT STATUS its unit, but of those of the next unit and of all others 65536
abbrev pub aside : Sent → ℕ
aside s =
    if nat_eq s.opcode opcodes.abort || nat_eq s.opcode opcodes.get_command_status then about s.parameter
    else if nat_eq s.opcode opcodes.get_unit_status && not s.next then s.unit else 65536

abbrev pub tag_of : Sent → ℕ
tag_of s =
    if is_lined s then tag s.connection s.unit false else tag s.connection (aside s) (is_immediate s.opcode)

abbrev pub tag_if : Option Sent → ℕ
tag_if None = 65535
tag_if (Some s) = tag_of s

-- each command stands beside its tag
pub record AreTagged (cells : List (Option Sent)) (tags : List ℕ) : Type 0 where
  pub many : length cells ≤ length tags
  pub each : (at : ℕ) (s : Sent) → cell cells at ≡ Some s → get_or tags at 0 ≡ tag_of s

-- ---- which cell is next

-- none of which this is true stands from a cell on and before another
abbrev pub NoneIn : (Sent → Bool) → List (Option Sent) → ℕ → ℕ → Type 0
NoneIn p cells from end = (i : ℕ) → from ≤ i → i < end → stands p (cell cells i) ≡ false

-- one stands in this cell, and it is the first of those
pub record IsFound (p : Sent → Bool) (cells : List (Option Sent)) (from end at : ℕ) : Type 0 where
  pub low : from ≤ at
  pub high : at < end
  pub there : stands p (cell cells at) ≡ true
  pub none : NoneIn p cells from at

-- the next cell of those in which one stands, if one does
abbrev pub IsNext : (Sent → Bool) → List (Option Sent) → ℕ → ℕ → Option ℕ → Type 0
IsNext p cells from end None = NoneIn p cells from end
IsNext p cells from end (Some at) = IsFound p cells from end at

-- ---- what is counted

-- the small number for a key, by all of its digits
abbrev pub slot : ℕ → ℕ
slot n = (n + n / 131072 * 2) % 131072

-- and for a number of a connection
abbrev pub slot_of : Connection → ℕ → ℕ
slot_of via number = slot (key via number)

-- commands are counted by their names,
abbrev pub by_name : Sent → Option ℕ
by_name s = Some (slot_of s.connection s.reference)

-- sequential ones by their units,
abbrev pub by_fence : Sent → Option ℕ
by_fence s = if is_sequential s.opcode then Some (slot_of s.connection s.unit) else None

-- and so are those that are sequential or have their place beside such
abbrev pub by_line : Sent → Option ℕ
by_line s = if is_sequential s.opcode || is_ordered s.opcode then Some (slot_of s.connection s.unit) else None

-- a poll asks something: of one of which any figure is right nothing more is heard
abbrev pub asks : Asked → Bool
asks Nothing = false
asks (Oldest last) = true
asks (Gone last) = true

-- such polls by the names of the commands that they are about
abbrev pub slot_if : Connection → Option ℕ → Option ℕ
slot_if via None = None
slot_if via (Some number) = Some (slot_of via number)

abbrev pub by_asked : Sent → Option ℕ
by_asked s =
    if nat_eq s.opcode opcodes.get_command_status && asks s.asked then slot_if s.connection s.parameter else None

-- a GET UNIT STATUS beside which its unit had one state so far is counted by that, or by its connection if it asks for
-- the next unit
abbrev pub by_status : Sent → Option ℕ
by_status s =
    if nat_eq s.opcode opcodes.get_unit_status && not s.next && not s.beside
    then Some (slot_of s.connection s.unit)
    else None

abbrev pub by_next : Sent → Option ℕ
by_next s =
    if nat_eq s.opcode opcodes.get_unit_status && s.next && not s.beside then Some (slot_of s.connection 0) else None

-- a count of 65535 stays, since it isn't known how many more there were
abbrev pub more : ℕ → ℕ
more count = if nat_le 65535 count then 65535 else count + 1

abbrev pub fewer : ℕ → ℕ
fewer count = if nat_le 65535 count then 65535 else count - 1

-- so many of the commands fall to each number, if fewer than 65535 are counted. Of a number without a count nobody
-- knows
abbrev pub IsTally : (Sent → Option ℕ) → List ℕ → List Sent → Type 0
IsTally by counts xs =
    (i : ℕ) → get_or counts i 65535 < 65535 → get_or counts i 65535 ≡ count_by (λ s. is_it (by s) i) xs

-- a command is of a connection
abbrev pub is_on : Connection → Sent → Bool
is_on via s = same_connection s.connection via

-- these are the counts of the commands: by their names, their units and what they ask, and of each connection
pub record IsKept {A : Type 0} (xs : List Sent) (kinds : Tallies A) : Type 0 where
  pub names : IsTally by_name kinds.names.counts.items xs
  pub fences : IsTally by_fence kinds.fences.counts.items xs
  pub lines : IsTally by_line kinds.lines.counts.items xs
  pub asked : IsTally by_asked kinds.asked.counts.items xs
  pub statuses : IsTally by_status kinds.statuses.counts.items xs
  pub nexts : IsTally by_next kinds.nexts.counts.items xs
  pub first : kinds.first ≡ count_by (is_on First) xs
  pub second : kinds.second ≡ count_by (is_on Second) xs

-- no GET UNIT STATUS is counted of this unit or of whichever is next
abbrev pub has_none : {A : Type 0} → Connection → ℕ → Tallies A → Bool
has_none via unit kinds =
    nat_eq (get_or kinds.statuses.counts.items (slot_of via unit) 65535) 0
    && nat_eq (get_or kinds.nexts.counts.items (slot_of via 0) 65535) 0

-- the numbers of each connection's may grow
pub record IsFew {A : Type 0} (kinds : Tallies A) : Type 0 where
  pub first : kinds.first < 2 ^ 63
  pub second : kinds.second < 2 ^ 63

-- and a command is among those
pub record IsCounted {A : Type 0} (s : Sent) (kinds : Tallies A) : Type 0 where
  pub first : cond (is_on First s) 1 0 ≤ kinds.first
  pub second : cond (is_on Second s) 1 0 ≤ kinds.second

-- ---- what is heard

-- a command, once a poll of this time told this figure of it
abbrev pub with_figure : Option ℕ → Option ℕ → Sent → Sent
with_figure figure time s = record s { told = figure; polled = time }

-- a command, if it has this name, once a poll of this time told this figure of it
abbrev pub tells : Connection → ℕ → Option ℕ → Option ℕ → Sent → Sent
tells via number figure time s = if is_named via number s then with_figure figure time s else s

-- a command that is outstanding, once y ended
abbrev pub leaves : Sent → Sent → Sent
leaves y s = if polls y s then record s { asked = left s.asked } else s

-- what is heard of figures
abbrev pub heard : Sent → Answer → Sent → Sent
heard y e s = record s {
  told = if told_by y e s then e.figure else s.told;
  polled = if told_by y e s then y.time else s.polled;
  asked = if polls y s then left s.asked else s.asked;
}

-- and of a unit's state
abbrev pub besides : Sent → Sent → Sent
besides y s = if turns_beside y s then record s { beside = true } else s

-- a poll asks of a command that ended since
abbrev pub asks_gone : Asked → Bool
asks_gone Nothing = false
asks_gone (Oldest last) = false
asks_gone (Gone last) = true
