-- What is said of a log by all rules is what comes of it by them.
use Rattle.mscpjudge.proofs.Common.{Bool, Comes, ComesOf, Err, Judges, JudgesAll, List, Log, None, Ok, Option, ReadFault, Result, Says, ScriptFault, Some, Verdict, Wrong, ap, came_by, came_with, false, if◌then◌else◌, judged_by, log_breach, nat_lt, refl, subst, sym, true, ℕ, ◌∙◌, ◌≡◌}
use Rattle.mscp_reader.specs.declared.fault.ReadFault.TheVariants as reads
use Rattle.mscp_wire.specs.declared.log.Verdict.TheVariants as verdicts

-- a moment that isn't right, or a fault, behind a message without a credit, or before it
pub wrong_judges : (A : Type 0) (bytes : List ℕ) (breach wrong : Wrong) (before : Bool)
    → nat_lt breach.line wrong.line ≡ before → Comes bytes (Ok (Err wrong)) → Some breach ≡ log_breach bytes
    → JudgesAll {A = A} (if before then Ok (verdicts.Wrong breach) else Ok (verdicts.Wrong wrong)) bytes
wrong_judges A bytes breach wrong true p comes e = (
  Ok (Err wrong),
  comes,
  ap (λ x. if x then Ok (Err breach) else Ok (Err wrong)) (sym p)
      ∙ ap (λ b. came_by b (Ok (Err wrong))) e,
)
wrong_judges A bytes breach wrong false p comes e = (
  Ok (Err wrong),
  comes,
  ap (λ x. if x then Ok (Err breach) else Ok (Err wrong)) (sym p)
      ∙ ap (λ b. came_by b (Ok (Err wrong))) e,
)

pub fault_judges : (A : Type 0) (bytes : List ℕ) (breach : Wrong) (fault : ScriptFault) (before : Bool)
    → nat_lt breach.line fault.line ≡ before → Comes bytes (Err fault) → Some breach ≡ log_breach bytes
    → JudgesAll {A = A} (if before then Ok (verdicts.Wrong breach) else Err (reads.Script fault)) bytes
fault_judges A bytes breach fault true p comes e =
    (Err fault, comes, ap (λ x. if x then Ok (Err breach) else Err fault) (sym p) ∙ ap (λ b. came_by b (Err fault)) e)
fault_judges A bytes breach fault false p comes e =
    (Err fault, comes, ap (λ x. if x then Ok (Err breach) else Err fault) (sym p) ∙ ap (λ b. came_by b (Err fault)) e)

pub judges_all : {A : Type 0} (bytes : List ℕ) (breach : Option Wrong) (judged : Result (Verdict A) ReadFault)
    → Judges judged bytes → breach ≡ log_breach bytes → JudgesAll (judged_by breach judged) bytes
judges_all bytes None (Ok (verdicts.Right totals doubts commands)) j e =
    (j.0, (Ok (Ok j.0), j.1, ap (λ b. came_by b (Ok (Ok j.0))) e), j.2, j.3, j.4)
judges_all bytes None (Ok (verdicts.Wrong wrong)) j e = (Ok (Err wrong), j, ap (λ b. came_by b (Ok (Err wrong))) e)
judges_all bytes None (Err (reads.Script fault)) j e = (Err fault, j, ap (λ b. came_by b (Err fault)) e)
judges_all bytes None (Err reads.OutOfMemory) j e = tt
judges_all bytes (Some breach) (Ok (verdicts.Right totals doubts commands)) j e =
    (Ok (Ok j.0), j.1, ap (λ b. came_by b (Ok (Ok j.0))) e)
judges_all {A} bytes (Some breach) (Ok (verdicts.Wrong wrong)) j e =
    wrong_judges A bytes breach wrong (nat_lt breach.line wrong.line) refl j e
judges_all {A} bytes (Some breach) (Err (reads.Script fault)) j e =
    fault_judges A bytes breach fault (nat_lt breach.line fault.line) refl j e
judges_all bytes (Some breach) (Err reads.OutOfMemory) j e = tt

-- and nothing else comes of it
pub wrong_says : (A : Type 0) (breach wrong : Wrong) (before : Bool) (came : Result (Result Log Wrong) ScriptFault)
    → came ≡ (if before then Ok (Err breach) else Ok (Err wrong))
    → Says {A = A} (if before then Ok (verdicts.Wrong breach) else Ok (verdicts.Wrong wrong)) came
wrong_says A breach wrong true came h = h
wrong_says A breach wrong false came h = h

pub fault_says : (A : Type 0) (breach : Wrong) (fault : ScriptFault) (before : Bool)
    (came : Result (Result Log Wrong) ScriptFault) → came ≡ (if before then Ok (Err breach) else Err fault)
    → Says {A = A} (if before then Ok (verdicts.Wrong breach) else Err (reads.Script fault)) came
fault_says A breach fault true came h = h
fault_says A breach fault false came h = h

pub says_by : {A : Type 0} (breach : Option Wrong) (judged : Result (Verdict A) ReadFault)
    (wire came : Result (Result Log Wrong) ScriptFault) → Says judged wire → came ≡ came_by breach wire
    → Says (judged_by breach judged) came
says_by None judged wire came s h = subst (λ x. Says judged x) (sym h) s
says_by (Some breach) (Ok (verdicts.Right totals doubts commands)) wire came s h = h ∙ ap (came_with breach) s.1
says_by {A} (Some breach) (Ok (verdicts.Wrong wrong)) wire came s h =
    wrong_says A breach wrong (nat_lt breach.line wrong.line) came (h ∙ ap (came_with breach) s)
says_by {A} (Some breach) (Err (reads.Script fault)) wire came s h =
    fault_says A breach fault (nat_lt breach.line fault.line) came (h ∙ ap (came_with breach) s)
says_by (Some breach) (Err reads.OutOfMemory) wire came s h = tt

pub says_all : {A : Type 0} (bytes : List ℕ) (breach : Option Wrong) (judged : Result (Verdict A) ReadFault)
    → ((came : Result (Result Log Wrong) ScriptFault) → Comes bytes came → Says judged came)
    → breach ≡ log_breach bytes → (came : Result (Result Log Wrong) ScriptFault) → ComesOf bytes came
    → Says (judged_by breach judged) came
says_all bytes breach judged only e came (wire, comes, h) =
    says_by breach judged wire came (only wire comes) (h ∙ ap (λ b. came_by b wire) (sym e))
