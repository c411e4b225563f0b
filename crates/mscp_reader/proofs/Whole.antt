-- A script is read, or has its first fault, just where its outcome says so. So it has one meaning.
use Rattle.mscp_reader.proofs.Common.{◌≡◌, ◌<◌, ◌≤◌, ◌+◌, ◌++◌, ℕ, List, [], ◌∷◌, length, append-nil, Bool, true, false, cond, refl, sym, ap, ◌∙◌, arith, ⊎_elim, nat_lt, Result, Ok, Err, nat_tests, Settings, Event, ◌>>=◌, lines, Cause, ScriptFault, ReadFault, Place, Begins, HasGone, IsInHeader, after_line, after_lines, Reads, IsAtFault, HasNoGo, IsFault, in_line, lines_outcome, script_outcome, Tells}
use Rattle.mscp_reader.specs.declared.fault.Cause.TheVariants as causes
use Rattle.mscp_reader.proofs.Outcomes.{ended_early}
use Rattle.mscp_reader.proofs.Sound.{is_read, is_fault}

-- ---- the outcome of lines that are right up to a place

right_step : (n : ℕ) (place : Place) (bs more : List (List ℕ)) (k : ℕ) (r : Result Place Cause)
    → ((q : Place) → after_lines (n + 1) q bs ≡ Ok place
    → lines_outcome (n + 1) q (bs ++ more) ≡ lines_outcome k place more)
    → (r >>= λ after. after_lines (n + 1) after bs) ≡ Ok place
    → (in_line (n + 1) r >>= λ after. lines_outcome (n + 1) after (bs ++ more)) ≡ lines_outcome k place more
right_step n place bs more k r h1 h2 = search arith

along : (n k : ℕ) (p place : Place) (before more : List (List ℕ)) → k ≡ n + length before
    → after_lines n p before ≡ Ok place → lines_outcome n p (before ++ more) ≡ lines_outcome k place more
unfolding after_lines lines_outcome
along n k p place [] more c e = search arith
along n k p place (b ∷ bs) more c e = right_step n place bs more k (after_line n p b)
    (λ q. along (n + 1) k q place bs more (omega arith)) e

-- ---- the four laws

small_outcome : (bytes : List ℕ) → length bytes ≤ 16777216 → script_outcome bytes ≡ lines_outcome 0 Begins (lines bytes)
small_outcome bytes h = let e : nat_lt 16777216 (length bytes) ≡ false = grind (arith, nat_tests) in rw e refl

large_outcome : (bytes : List ℕ) → 16777216 < length bytes
    → script_outcome bytes ≡ Err (record { line = 0; cause = causes.Size })
large_outcome bytes h = let e : nat_lt 16777216 (length bytes) ≡ true = grind (arith, nat_tests) in rw e refl

at_gone : (k : ℕ) (s : Settings) (es : List Event) → lines_outcome k (HasGone s es) [] ≡ Ok (s, es)
unfolding lines_outcome
at_gone k s es = refl

pub outcome_of_read : (bytes : List ℕ) (s : Settings) (es : List Event) → Reads bytes s es
    → script_outcome bytes ≡ Ok (s, es)
outcome_of_read bytes s es h =
    small_outcome bytes h.small ∙ (ap (lines_outcome 0 Begins) (sym (append-nil (lines bytes)))
    ∙ (along 0 (length (lines bytes)) Begins (HasGone s es) (lines bytes) [] (omega arith) h.right ∙ at_gone _ s es))

wrong_here : (k : ℕ) (p : Place) (line : List ℕ) (after : List (List ℕ)) (fault : ScriptFault)
    → after_line k p line ≡ Err fault.cause → fault.line ≡ k + 1 → lines_outcome k p (line ∷ after) ≡ Err fault
unfolding lines_outcome
wrong_here k p line after fault e number = rw (e, ← number) refl

no_go_here : (k : ℕ) (p : Place) (fault : ScriptFault) → IsInHeader p → fault.cause ≡ causes.Header → fault.line ≡ k + 1
    → lines_outcome k p [] ≡ Err fault
unfolding lines_outcome
no_go_here k p fault early e number = ended_early k p early ∙ rw (← e, ← number) refl

of_line : (bytes : List ℕ) (fault : ScriptFault) → IsAtFault (lines bytes) fault
    → lines_outcome 0 Begins (lines bytes) ≡ Err fault
of_line bytes fault h =
    ap (lines_outcome 0 Begins) h.whole ∙ (along 0 (length h.before) Begins h.place h.before (h.line ∷ h.after)
    (omega arith) h.right ∙ wrong_here (length h.before) h.place h.line h.after fault h.wrong h.number)

of_header : (bytes : List ℕ) (fault : ScriptFault) → HasNoGo (lines bytes) fault
    → lines_outcome 0 Begins (lines bytes) ≡ Err fault
of_header bytes fault h =
    ap (lines_outcome 0 Begins) (sym (append-nil (lines bytes))) ∙ (along 0 (length (lines bytes)) Begins h.place
    (lines bytes) [] (omega arith) h.right ∙ no_go_here _ h.place fault h.early h.cause h.number)

pub outcome_of_fault : (bytes : List ℕ) (fault : ScriptFault) → IsFault bytes fault → script_outcome bytes ≡ Err fault
outcome_of_fault bytes fault h = ⊎_elim (λ a. large_outcome bytes a.0 ∙ ap Err (sym a.1))
    (λ b. small_outcome bytes b.0 ∙ ⊎_elim (of_line bytes fault) (of_header bytes fault) b.1) h

read_cases : (bytes : List ℕ) (s : Settings) (es : List Event) (b : Bool) → nat_lt 16777216 (length bytes) ≡ b
    → cond b (Err (record { line = 0; cause = causes.Size })) (lines_outcome 0 Begins (lines bytes)) ≡ Ok (s, es)
    → Reads bytes s es
read_cases bytes s es b h1 h2 = search (arith, is_read, nat_tests)

pub read_of_outcome : (bytes : List ℕ) (s : Settings) (es : List Event) → script_outcome bytes ≡ Ok (s, es)
    → Reads bytes s es
read_of_outcome bytes s es e = read_cases bytes s es (nat_lt 16777216 (length bytes)) refl e

fault_cases : (bytes : List ℕ) (fault : ScriptFault) (b : Bool) → nat_lt 16777216 (length bytes) ≡ b
    → cond b (Err (record { line = 0; cause = causes.Size })) (lines_outcome 0 Begins (lines bytes)) ≡ Err fault
    → IsFault bytes fault
fault_cases bytes fault b h1 h2 = search (arith, nat_tests, is_fault)

pub fault_of_outcome : (bytes : List ℕ) (fault : ScriptFault) → script_outcome bytes ≡ Err fault → IsFault bytes fault
fault_of_outcome bytes fault e = fault_cases bytes fault (nat_lt 16777216 (length bytes)) refl e

-- what was told of the lines was told of the script
pub told_of : {X : Type 0} (view : X → Settings × List Event) (r : Result X ReadFault) (bytes : List ℕ)
    (o : Result (Settings × List Event) ScriptFault) → length bytes ≤ 16777216 → script_outcome bytes ≡ o
    → Tells view r (lines_outcome 0 Begins (lines bytes)) → Tells view r o
told_of view r bytes o small e t = search (arith, small_outcome)
