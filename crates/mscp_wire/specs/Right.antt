-- Which logs are right: their lines tell moments, each of which is right after those before it. Of any other log, which
-- moment is the first that isn't right, or which line is the first at fault. A verdict is what comes of a log so.
use Rattle.std.specs.Prelude.{◌≡◌, ◌⊎◌, ℕ, ◌+◌, ◌<◌, ◌≤◌, List, ◌∷◌, ◌++◌, length, Option, Some, None, Result, Ok, Err}
use Rattle.mscp_drive.specs.declared.connection.Connection.{Connection}
use Rattle.mscp_packet.specs.Steps.{◌>>=◌}
use Rattle.mscp_reader.specs.Lexical.{lines}
use Rattle.mscp_reader.specs.declared.fault.Cause.{Cause}
use Rattle.mscp_reader.specs.declared.fault.Cause.TheVariants as causes
use Rattle.mscp_reader.specs.declared.fault.ReadFault.{ReadFault}
use Rattle.mscp_reader.specs.declared.fault.ReadFault.TheVariants as reads
use Rattle.mscp_reader.specs.declared.fault.ScriptFault.{ScriptFault}
use Rattle.mscp_wire.specs.Kept.{sents}
use Rattle.mscp_wire.specs.Wire.{called, command_of, controller, kept, kept_called, outstanding, passed_of, seen_before, timeout, told}
use Rattle.mscp_wire.specs.Doubts.{AreFewDoubts, doubtful, doubts_of}
use Rattle.mscp_wire.specs.Log.{AreRightLines, Log, broken_in, broken_said, line_says, nothing, with_line, with_lines, with_said}
use Rattle.mscp_wire.specs.Middle.{IsMiddleOf}
use Rattle.mscp_wire.specs.Totals.{IsFew, fall_after, totals_of}
use Rattle.mscp_wire.specs.declared.judge.Stepped.{Stepped}
use Rattle.mscp_wire.specs.declared.line.Said.{Said}
use Rattle.mscp_wire.specs.declared.line.Said.TheVariants as says
use Rattle.mscp_wire.specs.declared.reading.Reading.{Reading}
use Rattle.mscp_wire.specs.declared.log.Verdict.{Verdict}
use Rattle.mscp_wire.specs.declared.log.Verdict.TheVariants as verdicts
use Rattle.mscp_wire.specs.declared.moment.Moment.{Moment}
use Rattle.mscp_wire.specs.declared.wrong.Wrong.{Wrong}

-- ---- a log

-- lines tell this log, and each of its moments breaks no rule after those before it
pub record Tell (all : List (List ℕ)) (log : Log) : Type 0 where
  pub told : with_lines 0 nothing all ≡ Ok log
  pub right : AreRightLines 0 nothing all

-- a log of these bytes is right
pub record IsRightLog (bytes : List ℕ) (log : Log) : Type 0 where
  pub small : length bytes ≤ 16777216
  pub tell : Tell (lines bytes) log

-- the line of this number is reached: all that the lines before it tell is right
pub record Reaches (bytes : List ℕ) (number : ℕ) (line : List ℕ) (log : Log) : Type 0 where
  pub before : List (List ℕ)
  pub rest : List (List ℕ)
  pub small : length bytes ≤ 16777216
  pub whole : lines bytes ≡ before ++ line ∷ rest
  pub counted : number ≡ length before + 1
  pub tell : Tell before log

-- what the line of this number says is a moment that breaks a rule, this one first
pub record IsWrong (number : ℕ) (log : Log) (said : Result Said Cause) (wrong : Wrong) : Type 0 where
  pub line : wrong.line ≡ number
  pub says : said ≡ Ok (says.Happens wrong.moment)
  pub rule : broken_in log wrong.moment ≡ Some wrong.rule
  pub command : wrong.command ≡ command_of (outstanding log.moments) wrong.moment
  pub passed : wrong.passed ≡ passed_of (outstanding log.moments) wrong.moment
  pub seen : wrong.seen ≡ seen_before (outstanding log.moments) (told log.moments) (controller log.moments) wrong.moment

-- the first moment that isn't right
pub record IsFirstWrong (bytes : List ℕ) (wrong : Wrong) : Type 0 where
  pub line : List ℕ
  pub log : Log
  pub reached : Reaches bytes wrong.line line log
  pub is_wrong : IsWrong wrong.line log (line_says wrong.line line) wrong

-- the first line at fault
pub record IsFirstFault (bytes : List ℕ) (fault : ScriptFault) : Type 0 where
  pub line : List ℕ
  pub log : Log
  pub reached : Reaches bytes fault.line line log
  pub cause : with_line fault.line log line ≡ Err fault.cause

-- there are too many bytes
abbrev pub IsTooLarge : List ℕ → ScriptFault → Type 0
IsTooLarge bytes fault = (16777216 < length bytes) × (fault ≡ record { line = 0; cause = causes.Size })

-- what comes of a log: all that it tells, or the first moment that isn't right, or the first fault
abbrev pub Comes : List ℕ → Result (Result Log Wrong) ScriptFault → Type 0
Comes bytes (Ok (Ok log)) = IsRightLog bytes log
Comes bytes (Ok (Err wrong)) = IsFirstWrong bytes wrong
Comes bytes (Err fault) = IsTooLarge bytes fault ⊎ IsFirstFault bytes fault

-- what was said of a log is what comes of it, unless memory ran out
abbrev pub Judges : {A : Type 0} → Result (Verdict A) ReadFault → List ℕ → Type 0
Judges (Ok (verdicts.Right totals doubts commands)) bytes =
    (log : Log) × Comes bytes (Ok (Ok log)) × (totals ≡ totals_of log.moments) × (doubts ≡ doubts_of log)
    × (commands.items ≡ outstanding log.moments)
Judges (Ok (verdicts.Wrong wrong)) bytes = Comes bytes (Ok (Err wrong))
Judges (Err (reads.Script fault)) bytes = Comes bytes (Err fault)
Judges (Err reads.OutOfMemory) bytes = Unit {0}

-- and this is what was said of it
abbrev pub Says : {A : Type 0} → Result (Verdict A) ReadFault → Result (Result Log Wrong) ScriptFault → Type 0
Says (Ok (verdicts.Right totals doubts commands)) came =
    (log : Log) × (came ≡ Ok (Ok log)) × (totals ≡ totals_of log.moments) × (doubts ≡ doubts_of log)
    × (commands.items ≡ outstanding log.moments)
Says (Ok (verdicts.Wrong wrong)) came = came ≡ Ok (Err wrong)
Says (Err (reads.Script fault)) came = came ≡ Err fault
Says (Err reads.OutOfMemory) came = Unit {0}

-- ---- what is kept

-- this came of the lines so far, which are right
pub record IsAfter {A : Type 0} (log : Log) (reading : Reading A) : Type 0 where
  pub credits : reading.judge.credits ≡ log.credits
  pub commands : sents reading.judge.commands ≡ outstanding log.moments
  pub units : (via : Connection) (unit : ℕ) → kept reading.judge.units via unit ≡ told log.moments via unit
  pub controller : reading.judge.controller ≡ controller log.moments
  pub timeout : reading.judge.timeout ≡ timeout log.moments
  pub called : (identifier : ℕ) → kept_called reading.judge.units identifier ≡ called log.moments identifier
  pub totals : reading.totals ≡ totals_of log.moments
  pub doubts : reading.doubts ≡ doubts_of log
  pub lines : length log.lines ≡ length log.moments
  pub middle : IsMiddleOf log reading.middle

-- a step said this of a moment after a log: which command it is about, how far a figure fell, what is doubtful
pub record IsOf (log : Log) (m : Moment) (stepped : Stepped) : Type 0 where
  pub command : stepped.command ≡ command_of (outstanding log.moments) m
  pub fall : stepped.fall ≡ fall_after (outstanding log.moments) m
  pub doubtful : stepped.doubtful ≡ doubtful (outstanding log.moments) (told log.moments) (called log.moments) m

-- no count is so large
pub record HasFew {A : Type 0} (reading : Reading A) (n : ℕ) : Type 0 where
  pub totals : IsFew reading.totals n
  pub doubts : AreFewDoubts reading.doubts n

-- what was returned of the line of this number, which says this, and is kept then
abbrev pub Goes : {A : Type 0} → ℕ → Log → Result Said Cause → Result (Option Wrong) ReadFault → Reading A → Type 0
Goes number log said (Ok None) reading =
    (next : Log) × ((said >>= with_said number log) ≡ Ok next) × IsAfter next reading
    × (broken_said log said ≡ None)
Goes number log said (Ok (Some wrong)) reading = IsWrong number log said wrong
Goes number log said (Err (reads.Script fault)) reading =
    (fault.line ≡ number) × ((said >>= with_said number log) ≡ Err fault.cause)
Goes number log said (Err reads.OutOfMemory) reading = Unit {0}
