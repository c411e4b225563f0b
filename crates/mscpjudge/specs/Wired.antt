-- What is written of a log of the wire.
use Rattle.std.specs.Prelude.{ℕ, List, [], ◌++◌, codes, Option, Some, None, Result, Ok, Err}
use Rattle.std.specs.List.{flat_map}
use Rattle.std.specs.Fmt.{decimal}
use Rattle.mscp_wire.specs.Wire.{outstanding}
use Rattle.mscp_wire.specs.Course.{places_in}
use Rattle.mscp_wire.specs.Log.{Log}
use Rattle.mscp_wire.specs.Totals.{totals_of}
use Rattle.mscp_wire.specs.Doubts.{doubts_of}
use Rattle.mscp_wire.specs.declared.doubts.Doubt.{Doubt}
use Rattle.mscp_wire.specs.declared.doubts.Doubts.{Doubts}
use Rattle.mscp_wire.specs.declared.doubts.Found.{Found}
use Rattle.mscp_wire.specs.declared.course.Places.{Places}
use Rattle.mscp_wire.specs.declared.log.Verdict.{Verdict}
use Rattle.mscp_wire.specs.declared.log.Verdict.TheVariants as verdicts
use Rattle.mscp_wire.specs.declared.rule.Rule.{Rule}
use Rattle.mscp_wire.specs.declared.rule.Rule.TheVariants as rules
use Rattle.mscp_wire.specs.declared.sent.Sent.{Sent}
use Rattle.mscp_wire.specs.declared.totals.Totals.{Totals}
use Rattle.mscp_wire.specs.declared.wrong.Wrong.{Wrong}
pub use Rattle.mscpjudge.specs.Commands.{command_text, connection_name}
use Rattle.mscpjudge.specs.Counted.{totals_text}
use Rattle.mscpjudge.specs.Credits.{credits_before, credits_text}
use Rattle.mscpjudge.specs.Places.{places_text}
use Rattle.mscpjudge.specs.Times.{at_text, log_time}
use Rattle.mscpjudge.specs.Timing.{timing_text}
use Rattle.mscpjudge.specs.Values.{against_text, told_text}
use Rattle.mscpjudge.specs.declared.credits.Credits.{Credits}
use Rattle.mscpjudge.specs.declared.judging.Outcome.{Outcome}
use Rattle.mscpjudge.specs.declared.judging.Outcome.TheVariants as outcomes

-- a command behind a word, on a line of its own
unfoldable pub outstanding_text : Sent → List ℕ
outstanding_text s = codes "outstanding: " ++ command_text s

-- what a rule is called
abbrev pub rule_name : Rule → List ℕ
-- a command message has 12 bytes at least
rule_name rules.Message = codes "message"
-- no outstanding command of a host has the reference number of another
rule_name rules.Number = codes "reference number"
-- a host needs a credit for each command, and keeps the last one for immediate commands
rule_name rules.Credits = codes "credits"
-- an end is as long as its endcode asks: 12 bytes, 16 of an ABORT, 20 of a GET COMMAND STATUS, 28 of a SET CONTROLLER
-- CHARACTERISTICS, 32 of a transfer, 44 of an ONLINE and a SET UNIT CHARACTERISTICS, 48 of a GET UNIT STATUS
rule_name rules.Length = codes "length"
-- an end answers a command that is outstanding, and each once
rule_name rules.Outstanding = codes "outstanding"
-- it names the unit of its command, or any if that is a GET UNIT STATUS which asks for the next unit (modifier 1)
rule_name rules.Unit = codes "unit"
-- its endcode is the opcode with the top bit set, or that bit alone if a controller may leave that opcode out
rule_name rules.Endcode = codes "endcode"
-- its status is one that such a command may have. With that bit alone it is Invalid Command
rule_name rules.Status = codes "status"
-- a command is aborted by a later ABORT, and ends before that does
rule_name rules.Aborted = codes "aborted"
-- of a unit no command passes a sequential one, and a sequential one passes none; Invalid Command, Command Aborted and
-- Unit-Offline may come at once
rule_name rules.Order = codes "order"
-- an ABORT and a GET COMMAND STATUS succeed, unless a modifier is refused
rule_name rules.Success = codes "success"
-- their ends name the command that they are about
rule_name rules.About = codes "about"
-- the status of the oldest command falls from poll to poll. It is 0 of a command that isn't outstanding, or whose end
-- is on the way
rule_name rules.Figure = codes "figure"
-- as many bytes are moved as were asked for, and fewer only if the status isn't Success
rule_name rules.Count = codes "byte count"
-- a unit's identifier, media type and size stay the same while it is online
rule_name rules.Identity = codes "identity"
-- a transfer and a GET UNIT STATUS succeed, and an ONLINE has 0x0100, only if the unit is online
rule_name rules.State = codes "state"
-- the controller's identifier stays the same
rule_name rules.Controller = codes "controller"

-- whose rule it is
abbrev pub breaker_name : Rule → List ℕ
breaker_name rules.Message = codes "host"
breaker_name rules.Number = codes "host"
breaker_name rules.Credits = codes "host"
breaker_name rule = codes "controller"

-- what the rule says
abbrev pub rule_text : Rule → List ℕ
rule_text rules.Message = codes "a command message has 12 bytes at least"
rule_text rules.Number = codes "no outstanding command of a host has the reference number of another"
rule_text rules.Credits = codes "a host needs a credit for each command, and keeps the last one for immediate commands"
rule_text rules.Length = codes "an end message is as long as its endcode asks"
rule_text rules.Outstanding = codes "an end message answers a command that is outstanding, and each once"
rule_text rules.Unit = codes "an end message names the unit of its command, unless that asks for the next one"
rule_text rules.Endcode = codes "the endcode is the opcode of the command and 0x80"
rule_text rules.Status = codes "the status is one that such a command may have"
rule_text rules.Aborted = codes "a command is aborted by a later ABORT, and ends before that does"
rule_text rules.Order = codes "a sequential command of a unit passes no earlier one, and is passed by none"
rule_text rules.Success = codes "an ABORT and a GET COMMAND STATUS succeed"
rule_text rules.About = codes "the end of an ABORT or a GET COMMAND STATUS names the command that it is about"
rule_text rules.Figure =
    codes "the status of the oldest command falls from poll to poll, and is 0 of one that isn't outstanding"
rule_text rules.Count = codes "as many bytes are moved as were asked for, and fewer only if the status isn't Success"
rule_text rules.Identity = codes "the identifier, media type and size of a unit stay the same while it is online"
rule_text rules.State =
    codes "a transfer and a GET UNIT STATUS succeed, and an ONLINE has 0x0100, only if the unit is online"
rule_text rules.Controller = codes "the identifier of the controller stays the same"

-- the line of the command that is meant, if there is one
abbrev pub meant_text : Option Sent → List ℕ
meant_text None = []
meant_text (Some s) = codes "command: " ++ command_text s

-- the line of a rule, and that of what it says
abbrev pub rule_line : Rule → List ℕ
rule_line rule = codes "rule of the " ++ breaker_name rule ++ codes ": " ++ rule_name rule ++ codes "\n"

abbrev pub manual_line : Rule → List ℕ
manual_line rule = codes "manual: " ++ rule_text rule ++ codes "\n"

-- which line isn't right, and its time, where lines have these numbers among all, and tell these times
unfoldable pub line_text : (ℕ → ℕ) → (ℕ → Option ℕ) → ℕ → List ℕ
line_text number time line = (codes "line " ++ decimal (number line)) ++ at_text (time line) ++ codes ": not right\n"

-- the lines of a moment that isn't right. Its host has these credits, if it breaks the rule on them
abbrev pub breach_text : (ℕ → ℕ) → (ℕ → Option ℕ) → Option Credits → Wrong → Places → List ℕ
breach_text number time credits wrong places =
    line_text number time wrong.line ++ rule_line wrong.rule ++ meant_text wrong.command ++ told_text wrong.moment
    ++ against_text wrong.rule wrong.moment wrong.command wrong.passed wrong.seen
    ++ credits_text credits ++ places_text number time wrong.rule places

-- and those of a log that isn't
abbrev pub broken_text : (ℕ → ℕ) → (ℕ → Option ℕ) → Option Credits → Wrong → Places → List ℕ
broken_text number time credits wrong places =
    breach_text number time credits wrong places ++ manual_line wrong.rule

-- the end of a line about the command of a moment, if it has one
abbrev pub answered_text : Option Sent → List ℕ
answered_text None = codes "\n"
answered_text (Some s) = codes ": " ++ command_text s

-- the line of the doubts of one kind: how many, and the line and the command of the first
abbrev pub first_in : List ℕ → ℕ → ℕ → Option Sent → List ℕ
first_in kind count line command =
    (codes "doubt: " ++ decimal count) ++ codes " " ++ kind ++ (codes ", first in line " ++ decimal line)
    ++ answered_text command

-- the same, if there are any
abbrev pub first_text : (ℕ → ℕ) → List ℕ → ℕ → Option Found → List ℕ
first_text number kind count None = []
first_text number kind count (Some found) = first_in kind count (number found.line) found.command

unfoldable pub doubt_text : (ℕ → ℕ) → List ℕ → Doubt → List ℕ
doubt_text number kind doubt = first_text number kind doubt.count doubt.first

-- the lines of all kinds
abbrev pub doubts_text : (ℕ → ℕ) → Doubts → List ℕ
doubts_text number doubts =
    -- two identities are told of a unit, and nothing between may have changed it
    doubt_text number (codes "identity") doubts.identity
    -- a transfer succeeds past the size of its unit and its replacement and caching table
    ++ doubt_text number (codes "size") doubts.size
    -- a status has a code that such a command has no use for
    ++ doubt_text number (codes "status") doubts.status
    -- a WRITE or an ERASE succeeds of a unit that is protected from writing
    ++ doubt_text number (codes "protection") doubts.protection
    -- two units that are online have one identifier
    ++ doubt_text number (codes "identifier") doubts.identifier
    -- a GET UNIT STATUS that asks for the next unit passes one that is there
    ++ doubt_text number (codes "next unit") doubts.next
    -- in a log that begins in the middle a figure doesn't fall
    ++ doubt_text number (codes "figure") doubts.figure

-- the lines of the totals of a log of these bytes, and of its times
unfoldable pub counted_text : (ℕ → ℕ) → List ℕ → Totals → List ℕ
counted_text number bytes totals = totals_text totals ++ timing_text number bytes

-- the lines of what came of it
abbrev pub came_text : (ℕ → ℕ) → List ℕ → Result Log Wrong → List ℕ
came_text number bytes (Ok log) =
    counted_text number bytes (totals_of log.moments) ++ doubts_text number (doubts_of log)
    ++ flat_map outstanding_text (outstanding log.moments)
came_text number bytes (Err wrong) =
    broken_text number (log_time bytes) (credits_before bytes wrong) wrong (places_in bytes)

abbrev pub came_outcome : Result Log Wrong → Outcome
came_outcome (Ok log) = outcomes.Legal
came_outcome (Err wrong) = outcomes.Wrong

-- the lines of a verdict, and how the log is judged by it
abbrev pub wire_text : {A : Type 0} → (ℕ → ℕ) → List ℕ → Verdict A → List ℕ
wire_text number bytes (verdicts.Right totals doubts commands) =
    counted_text number bytes totals ++ doubts_text number doubts ++ flat_map outstanding_text commands.items
wire_text number bytes (verdicts.Wrong wrong) =
    broken_text number (log_time bytes) (credits_before bytes wrong) wrong (places_in bytes)

abbrev pub wire_outcome : {A : Type 0} → Verdict A → Outcome
wire_outcome (verdicts.Right totals doubts commands) = outcomes.Legal
wire_outcome (verdicts.Wrong wrong) = outcomes.Wrong
