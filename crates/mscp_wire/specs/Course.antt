-- All that is wrong in a log: each moment that breaks a rule, after those before it that count as told, right or not.
use Rattle.std.specs.Prelude.{◌≡◌, ℕ, ◌+◌, Bool, true, ◌&&◌, nat_eq, nat_lt, if◌then◌else◌, List, [], ◌∷◌, ◌++◌, length, slice_index, Option, Some, None, Result, Ok, Err}
use Rattle.std.specs.Ordering.{nat_cmp}
use Rattle.std.specs.BTreeMap as tree
use Rattle.mscp_packet.specs.EndcodeBytes as endcodes
use Rattle.mscp_drive.specs.declared.connection.Connection.{Connection}
use Rattle.mscp_packet.specs.Steps.{◌>>=◌}
use Rattle.mscp_reader.specs.Lexical.{lines}
use Rattle.mscp_reader.specs.Outcome.{in_line}
use Rattle.mscp_reader.specs.declared.fault.Cause.{Cause}
use Rattle.mscp_reader.specs.declared.fault.Cause.TheVariants as causes
use Rattle.mscp_reader.specs.declared.fault.ReadFault.{ReadFault}
use Rattle.mscp_reader.specs.declared.fault.ReadFault.TheVariants as reads
use Rattle.mscp_reader.specs.declared.fault.ScriptFault.{ScriptFault}
use Rattle.mscp_wire.specs.Wire.{called, command_of, controller, count_on, four_in, is_it, is_message, is_new, kept, kept_called, key, outstanding, passed_of, same_connection, seen_before, sent_by, timeout, told}
use Rattle.mscp_wire.specs.Kept.{sents}
pub use Rattle.mscp_wire.specs.Begun.{has_name}
use Rattle.mscp_wire.specs.Log.{Log, broken_in, is_fresh, is_stranger, line_says, nothing, with_moment, with_said, with_stranger}
use Rattle.mscp_wire.specs.Middle.{IsMiddleOf}
use Rattle.mscp_wire.specs.declared.course.Course.{Course}
use Rattle.mscp_wire.specs.declared.course.Finding.{Finding}
use Rattle.mscp_wire.specs.declared.course.Places.{Places}
use Rattle.mscp_wire.specs.declared.line.Said.{Said}
use Rattle.mscp_wire.specs.declared.line.Said.TheVariants as says
use Rattle.mscp_wire.specs.declared.mentions.Mention.{Mention}
use Rattle.mscp_wire.specs.declared.moment.Moment.{Moment}
use Rattle.mscp_wire.specs.declared.moment.Moment.TheVariants as moments
use Rattle.mscp_wire.specs.declared.rule.Rule.{Rule}
use Rattle.mscp_wire.specs.declared.sent.Sent.{Sent}

-- ---- what counts as told

-- a host has fewer commands outstanding than any controller gives credits
abbrev pub has_room : List Sent → Sent → Bool
has_room xs s = nat_lt (count_on s.connection xs) 1024

-- a packet names a command: it has 12 bytes at least
abbrev pub is_named_in : Moment → Bool
is_named_in (moments.Message via b time) = is_message b.items
is_named_in (moments.End via b) = is_message b.items
is_named_in m = true

-- the number of a message is new, and its host has room
abbrev pub has_place : List Sent → Moment → Bool
has_place xs (moments.Message via b time) = is_new xs (sent_by via b.items) && has_room xs (sent_by via b.items)
has_place xs m = true

-- a moment counts as told, though it may break a rule
abbrev pub counts : List Sent → Moment → Bool
counts xs m = is_named_in m && has_place xs m

-- a log to which the line of this number adds a moment, if it counts
abbrev pub with_counted : ℕ → Log → Moment → Log
with_counted number log m = if counts (outstanding log.moments) m then with_moment number log m else log

-- or the end of a command that the log doesn't send
abbrev pub with_told : ℕ → Log → Moment → Log
with_told number log m = if is_stranger log m then with_stranger log m else with_counted number log m

-- ---- in which lines commands are mentioned

-- nowhere
abbrev pub no_mention : Mention
no_mention = record { sent = None; told = None; asked = None }

abbrev pub no_mentions : Connection → ℕ → Mention
no_mentions via reference = no_mention

-- it is the end of a GET COMMAND STATUS that tells of the command of this number
abbrev pub tells_of : Connection → List ℕ → Connection → ℕ → Bool
tells_of other b via reference =
    same_connection other via && is_it (four_in b 12) reference && nat_eq (slice_index b 8) endcodes.get_command_status

-- the line that last told the figure of a command, if its number is there
abbrev pub told_in : (Connection → ℕ → Mention) → Connection → Option ℕ → Option ℕ
told_in old via None = None
told_in old via (Some reference) = (old via reference).told

-- where a command is mentioned once a moment more counts: which line sends it, or tells its figure. Of a poll, which
-- line had told the figure of its command. What was told is of the command alone that has its number then
abbrev pub mention_after : ℕ → (Connection → ℕ → Mention) → Moment → Connection → ℕ → Mention
mention_after number old (moments.Message other b time) via reference =
    if has_name other b.items via reference
    then record { sent = Some number; told = None; asked = told_in old other (four_in b.items 12) }
    else old via reference
mention_after number old (moments.End other b) via reference =
    if tells_of other b.items via reference then record (old via reference) { told = Some number } else (
    if has_name other b.items via reference then record (old via reference) { told = None }
    else old via reference)
mention_after number old m via reference = old via reference

-- the line that sent a command, and of a poll the line that had told its figure, if there is one
abbrev pub sent_in : (Connection → ℕ → Mention) → Option Sent → Option ℕ
sent_in mentions None = None
sent_in mentions (Some s) = (mentions s.connection s.reference).sent

abbrev pub asked_in : (Connection → ℕ → Mention) → Option Sent → Option ℕ
asked_in mentions None = None
asked_in mentions (Some s) = (mentions s.connection s.reference).asked

-- ---- what is found

-- what counts as told so far, what is wrong, and where commands are mentioned
pub record Findings : Type 0 where
  pub log : Log
  pub found : List Finding
  pub mentions : Connection → ℕ → Mention

abbrev pub no_findings : Findings
no_findings = record { log = nothing; found = []; mentions = no_mentions }

-- what is wrong of the moment in the line of this number, by the first rule that it breaks, if it breaks one
abbrev pub finding_by : ℕ → Findings → Moment → Option Rule → Option Finding
finding_by number f m None = None
finding_by number f m (Some rule) = Some (record {
  wrong = record {
    line = number;
    rule = rule;
    moment = m;
    command = command_of (outstanding f.log.moments) m;
    passed = passed_of (outstanding f.log.moments) m;
    seen = seen_before (outstanding f.log.moments) (told f.log.moments) (controller f.log.moments) m;
  };
  places = record {
    sent = sent_in f.mentions (command_of (outstanding f.log.moments) m);
    passed = sent_in f.mentions (passed_of (outstanding f.log.moments) m);
    asked = asked_in f.mentions (command_of (outstanding f.log.moments) m);
  };
})

abbrev pub finding_in : ℕ → Findings → Moment → Option Finding
finding_in number f m = finding_by number f m (broken_in f.log m)

-- one more, if there is one
abbrev pub listed : Option Finding → List Finding
listed None = []
listed (Some finding) = finding ∷ []

-- where commands are mentioned once it told the moment, if that counts
abbrev pub mentions_counted : ℕ → Log → (Connection → ℕ → Mention) → Moment → Connection → ℕ → Mention
mentions_counted number log mentions m =
    if counts (outstanding log.moments) m then mention_after number mentions m else mentions

abbrev pub mentions_after : ℕ → Log → (Connection → ℕ → Mention) → Moment → Connection → ℕ → Mention
mentions_after number log mentions m =
    if is_stranger log m then mentions else mentions_counted number log mentions m

-- what is found once the line of this number told a moment
abbrev pub findings_after : ℕ → Findings → Moment → Findings
findings_after number f m = record {
  log = with_told number f.log m;
  found = f.found ++ listed (finding_in number f m);
  mentions = mentions_after number f.log f.mentions m;
}

-- once it said this
abbrev pub findings_with : ℕ → Findings → Said → Result Findings Cause
findings_with number f (says.Happens m) = Ok (findings_after number f m)
findings_with number f said = with_said number f.log said >>= λ log. Ok (record f { log = log })

-- the same of lines that so many stand before, or the first fault
unfoldable pub findings_in : ℕ → Findings → List (List ℕ) → Result Findings ScriptFault
findings_in before f [] = Ok f
findings_in before f (line ∷ rest) =
    in_line (before + 1) (line_says (before + 1) line >>= findings_with (before + 1) f)
    >>= λ next. findings_in (before + 1) next rest

-- all that is found in a log
abbrev pub log_findings : List ℕ → Result Findings ScriptFault
log_findings bytes =
    if nat_lt 16777216 (length bytes) then Err (record { line = 0; cause = causes.Size })
    else findings_in 0 no_findings (lines bytes)

-- the first one, if there is one before the first fault
abbrev pub first_or : List Finding → Result (Option Finding) ScriptFault → Result (Option Finding) ScriptFault
first_or [] rest = rest
first_or (finding ∷ found) rest = Ok (Some finding)

unfoldable pub first_in : ℕ → Findings → List (List ℕ) → Result (Option Finding) ScriptFault
first_in before f [] = Ok None
first_in before f (line ∷ rest) =
    in_line (before + 1) (line_says (before + 1) line >>= findings_with (before + 1) f)
    >>= λ next. first_or next.found (first_in (before + 1) next rest)

-- its places, or nowhere
abbrev pub nowhere : Places
nowhere = record { sent = None; passed = None; asked = None }

abbrev pub places_by : Result (Option Finding) ScriptFault → Places
places_by (Ok (Some finding)) = finding.places
places_by other = nowhere

abbrev pub places_in : List ℕ → Places
places_in bytes =
    if nat_lt 16777216 (length bytes) then nowhere else places_by (first_in 0 no_findings (lines bytes))

-- ---- what is kept

-- an entry of a map, if there is one
abbrev pub or_no_mention : Option Mention → Mention
or_no_mention None = no_mention
or_no_mention (Some mention) = mention

-- where a command is mentioned by a map
abbrev pub mention_of : tree.BTreeMap ℕ Mention → Connection → ℕ → Mention
mention_of map via reference = or_no_mention (tree.get nat_cmp map (key via reference))

-- so much counts as told so far, and commands are mentioned there
pub record IsOn {A : Type 0} (log : Log) (places : Connection → ℕ → Mention) (course : Course A) : Type 0 where
  pub credits : course.judge.credits ≡ log.credits
  pub commands : sents course.judge.commands ≡ outstanding log.moments
  pub units : (via : Connection) (unit : ℕ) → kept course.judge.units via unit ≡ told log.moments via unit
  pub controller : course.judge.controller ≡ controller log.moments
  pub timeout : course.judge.timeout ≡ timeout log.moments
  pub called : (identifier : ℕ) → kept_called course.judge.units identifier ≡ called log.moments identifier
  pub fresh : course.fresh ≡ is_fresh log
  pub middle : IsMiddleOf log course.middle
  pub mentions : (via : Connection) (reference : ℕ)
      → mention_of course.mentions.lines via reference ≡ places via reference

-- what was returned of the line of this number, which says this, and is kept then
abbrev pub GoesOn : {A : Type 0} → ℕ → Findings → Result Said Cause → Result (Option Finding) ReadFault → Course A
    → Type 0
GoesOn number f said (Ok found) course =
    (next : Findings) × ((said >>= findings_with number f) ≡ Ok next) × IsOn next.log next.mentions course
    × (next.found ≡ f.found ++ listed found)
GoesOn number f said (Err (reads.Script fault)) course =
    (fault.line ≡ number) × ((said >>= findings_with number f) ≡ Err fault.cause)
GoesOn number f said (Err reads.OutOfMemory) course = Unit {0}
