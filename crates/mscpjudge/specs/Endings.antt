-- How the program ends.
use Rattle.std.specs.Prelude.{ℕ, List, [], ◌∷◌, ◌++◌, codes, Result, Ok, Err}
use Rattle.std.specs.Fmt.{decimal}
use Rattle.mscp_reader.specs.Causes.{cause_word}
use Rattle.mscpjudge.specs.declared.fault.Fault.{Fault}
use Rattle.mscpjudge.specs.declared.fault.Fault.TheVariants.{Usage, Log, Read, Write, OutOfMemory}
use Rattle.mscpjudge.specs.declared.judging.Outcome.{Outcome}
use Rattle.mscpjudge.specs.declared.judging.Outcome.TheVariants as outcomes

-- the exit status of a fault: 1 of a log at fault, 2 for the command line, 3 for a device or memory
abbrev pub fault_status : Fault → ℕ
fault_status Usage = 2
fault_status (Log fault) = 1
fault_status Read = 3
fault_status Write = 3
fault_status OutOfMemory = 3

-- what is said of a fault
abbrev pub fault_text : Fault → List ℕ
fault_text Usage = codes "usage: mscpjudge legal|host|wire [--all|--show] [FILE]"
fault_text (Log fault) = codes "line " ++ decimal fault.line ++ codes ": " ++ cause_word fault.cause
fault_text Read = codes "cannot read"
fault_text Write = codes "cannot write"
fault_text OutOfMemory = codes "out of memory"

-- the exit status: 0 of a log that is legal
abbrev pub exit_status : Result Outcome Fault → ℕ
exit_status (Ok outcomes.Legal) = 0
exit_status (Ok outcomes.Wrong) = 1
exit_status (Err fault) = fault_status fault

-- the line on standard error, with its line feed: nothing where the log was judged
abbrev pub error_line : Result Outcome Fault → List ℕ
error_line (Ok outcome) = []
error_line (Err fault) = fault_text fault ++ 10 ∷ []
