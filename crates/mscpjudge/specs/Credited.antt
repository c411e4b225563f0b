-- What comes of a log by all rules: by those of the wire, and by the account of credits that envelopes tell.
use Rattle.std.specs.Prelude.{◌≡◌, ℕ, nat_lt, Bool, true, false, if◌then◌else◌, List, Option, Some, None, Result, Ok, Err}
use Rattle.mscp_reader.specs.declared.fault.ReadFault.{ReadFault}
use Rattle.mscp_reader.specs.declared.fault.ReadFault.TheVariants as reads
use Rattle.mscp_reader.specs.declared.fault.ScriptFault.{ScriptFault}
use Rattle.mscp_wire.specs.Doubts.{doubts_of}
use Rattle.mscp_wire.specs.Log.{Log}
use Rattle.mscp_wire.specs.Right.{Comes}
use Rattle.mscp_wire.specs.Totals.{totals_of}
use Rattle.mscp_wire.specs.Wire.{outstanding}
use Rattle.mscp_wire.specs.declared.log.Verdict.{Verdict}
use Rattle.mscp_wire.specs.declared.log.Verdict.TheVariants as verdicts
use Rattle.mscp_wire.specs.declared.wrong.Wrong.{Wrong}
use Rattle.mscpjudge.specs.Credits.{log_breach}

-- ---- a log

-- a message without a credit stands in an earlier line than what comes of a log by the rules of the wire
abbrev pub comes_before : Wrong → Result (Result Log Wrong) ScriptFault → Bool
comes_before breach (Ok (Ok log)) = true
comes_before breach (Ok (Err wrong)) = nat_lt breach.line wrong.line
comes_before breach (Err fault) = nat_lt breach.line fault.line

-- the log is followed only up to it
abbrev pub came_with : Wrong → Result (Result Log Wrong) ScriptFault → Result (Result Log Wrong) ScriptFault
came_with breach came = if comes_before breach came then Ok (Err breach) else came

abbrev pub came_by : Option Wrong → Result (Result Log Wrong) ScriptFault → Result (Result Log Wrong) ScriptFault
came_by None came = came
came_by (Some breach) came = came_with breach came

-- what comes of a log: all that it tells, or the first moment that isn't right, or the first fault
abbrev pub ComesOf : List ℕ → Result (Result Log Wrong) ScriptFault → Type 0
ComesOf bytes came =
    (wire : Result (Result Log Wrong) ScriptFault) × Comes bytes wire × (came ≡ came_by (log_breach bytes) wire)

-- ---- a verdict

-- the same of what the judge of the wire returned
abbrev pub is_before : {A : Type 0} → Wrong → Result (Verdict A) ReadFault → Bool
is_before breach (Ok (verdicts.Right totals doubts commands)) = true
is_before breach (Ok (verdicts.Wrong wrong)) = nat_lt breach.line wrong.line
is_before breach (Err (reads.Script fault)) = nat_lt breach.line fault.line
is_before breach (Err reads.OutOfMemory) = false

abbrev pub judged_with : {A : Type 0} → Wrong → Result (Verdict A) ReadFault → Result (Verdict A) ReadFault
judged_with breach judged = if is_before breach judged then Ok (verdicts.Wrong breach) else judged

abbrev pub judged_by : {A : Type 0} → Option Wrong → Result (Verdict A) ReadFault → Result (Verdict A) ReadFault
judged_by None judged = judged
judged_by (Some breach) judged = judged_with breach judged

-- what was said of a log is what comes of it, unless memory ran out
abbrev pub JudgesAll : {A : Type 0} → Result (Verdict A) ReadFault → List ℕ → Type 0
JudgesAll (Ok (verdicts.Right totals doubts commands)) bytes =
    (log : Log) × ComesOf bytes (Ok (Ok log)) × (totals ≡ totals_of log.moments) × (doubts ≡ doubts_of log)
    × (commands.items ≡ outstanding log.moments)
JudgesAll (Ok (verdicts.Wrong wrong)) bytes = ComesOf bytes (Ok (Err wrong))
JudgesAll (Err (reads.Script fault)) bytes = ComesOf bytes (Err fault)
JudgesAll (Err reads.OutOfMemory) bytes = Unit {0}
