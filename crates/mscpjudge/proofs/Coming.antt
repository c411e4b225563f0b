-- What is said of a verdict is what is said of what came of the log.
use Rattle.mscpjudge.proofs.Common.{ComesOf, Err, JudgesAll, List, Log, Ok, Result, Verdict, Wrong, all_text, ap, came_outcome, came_text, counted_text, doubts_of, doubts_text, flat_map, outstanding_text, refl, totals_of, verdict_found, wire_outcome, wire_text, ℕ, ◌++◌, ◌∙◌, ◌≡◌}
use Rattle.mscp_wire.specs.declared.log.Verdict.TheVariants as verdicts

pub record Came {A : Type 0} (number : ℕ → ℕ) (verdict : Verdict A) (log : List ℕ) : Type 0 where
  pub came : Result Log Wrong
  pub comes : ComesOf log (Ok came)
  pub outcome : wire_outcome verdict ≡ came_outcome came
  pub text : wire_text number log verdict ≡ came_text number log came
  pub all : verdict_found number log verdict ≡ all_text number log came

pub came_of : {A : Type 0} (number : ℕ → ℕ) (verdict : Verdict A) (log : List ℕ) → JudgesAll (Ok verdict) log
    → Came number verdict log
came_of number (verdicts.Right totals doubts commands) log j =
    let text = ap (λ t. counted_text number log t ++ doubts_text number doubts
    ++ flat_map outstanding_text commands.items) j.2
    ∙ ap (λ d. counted_text number log (totals_of j.0.moments) ++ doubts_text number d
    ++ flat_map outstanding_text commands.items)
    j.3
    ∙ ap (λ xs. counted_text number log (totals_of j.0.moments) ++ doubts_text number (doubts_of j.0)
    ++ flat_map outstanding_text xs)
    j.4 in
    record { came = Ok j.0; comes = j.1; outcome = refl; text = text; all = ap Ok text }
came_of number (verdicts.Wrong wrong) log j =
    record { came = Err wrong; comes = j; outcome = refl; text = refl; all = refl }
