-- What is told of the lines of a script is told of its bytes.
use Rattle.mscp_script.proofs.Common.{arith, ℕ, List, length, ◌≤◌, Result, IfOk, lines, Begins, lines_outcome, ReadFault, is_read, TellsReport, IsReport}

pub told_report : {X : Type 0} (view : X → List ℕ) (bytes : List ℕ) (r : Result X ReadFault) → length bytes ≤ 16777216
    → TellsReport view r (lines_outcome 0 Begins (lines bytes)) → IfOk r (λ report. IsReport bytes (view report))
told_report view bytes r h1 h2 = search (arith, is_read)
