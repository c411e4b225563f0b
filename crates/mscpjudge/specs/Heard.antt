-- What is written of what hosts would have heard in a log.
use Rattle.std.specs.Prelude.{◌≡◌, ℕ, nat_eq, if◌then◌else◌, List, ◌++◌, codes, Option, Result, Ok, Err}
use Rattle.std.specs.Fmt.{decimal}
use Rattle.std.specs.Io.KnownBytes.{Appends}
use Rattle.mscp_script.specs.Simulated.{IsGiven}
use Rattle.mscp_judge.specs.Heard.{Heard, heard_log}
use Rattle.mscpjudge.specs.declared.fault.Fault.{Fault}
use Rattle.mscpjudge.specs.declared.fault.Fault.TheVariants as faults
use Rattle.mscpjudge.specs.declared.judging.Outcome.{Outcome}
use Rattle.mscpjudge.specs.declared.judging.Outcome.TheVariants as outcomes

-- how a log comes out in which hosts would have reset so often
abbrev pub heard_outcome : ℕ → Outcome
heard_outcome resets = if nat_eq resets 0 then outcomes.Legal else outcomes.Wrong

-- the line of the counts
abbrev pub counts_text : ℕ → ℕ → List ℕ
counts_text ends resets = codes "ends " ++ decimal ends ++ codes " resets " ++ decimal resets ++ codes "\n"

-- what is written is what the hosts would have heard in the log that the reader gave. Nothing is written on a fault,
-- and a fault of the log is that of what the reader gave; nothing is said where the write failed
abbrev pub TellsHeard : Result Outcome Fault → Option (List ℕ) → Option (List ℕ) → Option (List ℕ) → Type 0
TellsHeard (Ok outcome) known old new =
    IsGiven known (λ log. (h : Heard) × (heard_log log ≡ Ok h) × (outcome ≡ heard_outcome h.resets)
    × Appends old new (h.text ++ counts_text h.ends h.resets))
TellsHeard (Err faults.Write) known old new = Unit {0}
TellsHeard (Err (faults.Log fault)) known old new = (new ≡ old) × IsGiven known (λ log. heard_log log ≡ Err fault)
TellsHeard (Err fault) known old new = new ≡ old
