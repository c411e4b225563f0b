-- A log of which there is a legal trace is judged to be legal, and no other.
use Rattle.mscp_judge.proofs.Common.{◌≡◌, ℕ, ◌+◌, ◌≤◌, List, [], ◌∷◌, ◌++◌, length, ap, sym, ◌∙◌, arith, append_assoc, append-nil, Result, Ok, Err, Settings, ◌>>=◌, lines, Place, Begins, HasGone, headed, Cause, ScriptFault, ReadFault, Totals, Verdict, IsLegalLog, Log, Mark, MayGoOn, after_line, after_lines, nothing, HasLegalTrace, IsLegalVerdict, Judges, JudgesBehind, JudgesLog}
use Rattle.mscp_reader.specs.declared.fault.ReadFault.TheVariants as faults
use Rattle.mscp_judge.specs.declared.judging.Verdict.TheVariants as verdicts

-- ---- marks are added, and none is lost

abbrev Grown : Log → Result Log Cause → Type 0
Grown log (Ok next) = (more : List Mark) × (next.marks ≡ log.marks ++ more)
Grown log (Err cause) = Unit {0}

grown_line : (n : ℕ) (log : Log) (bytes : List ℕ) → Grown log (after_line n log bytes)
unfolding after_line
grown_line n log bytes = grind (arith, append-nil)

grown_on : (log : Log) (n : ℕ) (rest : List (List ℕ)) (r : Result Log Cause) → Grown log r
    → ((next : Log) → Grown next (after_lines n next rest)) → Grown log (r >>= λ next. after_lines n next rest)
grown_on log n rest r h4 h5 = grind (arith, append_assoc)

pub grown_lines : (n : ℕ) (log : Log) (all : List (List ℕ)) → Grown log (after_lines n log all)
unfolding after_lines
grown_lines n log [] = ([], sym (append-nil log.marks))
grown_lines n log (bytes ∷ rest) =
    grown_on log (n + 1) rest (after_line (n + 1) log bytes) (grown_line (n + 1) log bytes)
    (λ next. grown_lines (n + 1) next rest)

-- ---- lines behind others

lines_on : (n : ℕ) (front back : List (List ℕ)) (r : Result Log Cause) (mid : Log)
    → ((next : Log) → after_lines n next front ≡ Ok mid
    → after_lines n next (front ++ back) ≡ after_lines (n + length front) mid back)
    → (r >>= λ next. after_lines n next front) ≡ Ok mid
    → (r >>= λ next. after_lines n next (front ++ back)) ≡ after_lines (n + length front) mid back
lines_on n front back r mid h5 h6 = grind arith

pub lines_behind : (n : ℕ) (log : Log) (front back : List (List ℕ)) (mid : Log) → after_lines n log front ≡ Ok mid
    → after_lines n log (front ++ back) ≡ after_lines (n + length front) mid back
unfolding after_lines
lines_behind n log [] back mid e = search arith
lines_behind n log (bytes ∷ front) back mid e =
    lines_on (n + 1) front back (after_line (n + 1) log bytes) mid (λ next. lines_behind (n + 1) next front back mid) e
    ∙ ap (λ k. after_lines k mid back) (omega arith)

-- ---- the verdict

-- what is behind a line that was read
behind_line : (before : ℕ) (all front : List (List ℕ)) (bytes : List ℕ) (back : List (List ℕ)) (mid last : Log)
    (number : ℕ) → all ≡ front ++ bytes ∷ back → number ≡ before + length front + 1
    → after_lines before nothing front ≡ Ok mid → after_lines before nothing all ≡ Ok last
    → (after_line number mid bytes >>= λ next. after_lines number next back) ≡ Ok last
unfolding after_lines
behind_line before all front bytes back mid last number w n r e =
    search (arith, lines_behind before nothing front (bytes ∷ back) mid r)

open_at : (c : Settings) (number : ℕ) (next last : Log) (back : List (List ℕ))
    → after_lines number next back ≡ Ok last → IsLegalLog c last.marks → MayGoOn c next.marks
open_at c number next last back e l = search (arith, grown_lines number next back)

no_log : {P : Type 0} (r : Result Log Cause) (f : Log → Result Log Cause) (cause : Cause) (log : Log) → r ≡ Err cause
    → (r >>= f) ≡ Ok log → P
no_log r f cause log h4 h5 = grind arith

exactly : (c : Settings) (before : ℕ) (all : List (List ℕ)) (log : Log) (result : Result Verdict ReadFault)
    → after_lines before nothing all ≡ Ok log → IsLegalLog c log.marks → Judges c before all result
    → IsLegalVerdict result
exactly c before all log (Ok (verdicts.Wrong number rule starts right)) e l j =
    let b = behind_line before all j.front j.line j.back j.log log number j.whole j.number j.read e in
    let rest = ap (λ r. r >>= λ next. after_lines number next j.back) (sym j.says) ∙ b in
    j.wrong (open_at c number j.next log j.back rest l)
exactly c before all log (Ok (verdicts.Unanswered right)) e l j = search arith
exactly c before all log (Err (faults.Script fault)) e l j =
    let b = behind_line before all j.front j.line j.back j.log log fault.line j.whole j.number j.read e in
    no_log (after_line fault.line j.log j.line) (λ next. after_lines fault.line next j.back) fault.cause log j.wrong b
exactly c before all log result h5 h6 h7 = grind arith

pub legal_is_found : (bytes : List ℕ) (result : Result Verdict ReadFault) → JudgesLog bytes result
    → HasLegalTrace bytes → IsLegalVerdict result
legal_is_found bytes result j h = search (arith, exactly)

-- ---- and no other

only_behind : (totals : Totals) (bytes : List ℕ) → length bytes ≤ 16777216
    → (r : Result (Place × ℕ × List (List ℕ)) ScriptFault) → headed 0 Begins (lines bytes) ≡ r
    → JudgesBehind r (Ok (verdicts.Legal totals)) → HasLegalTrace bytes
only_behind totals bytes small (Ok (HasGone c events, before, behind)) e j = search arith
only_behind totals bytes h2 r h4 h5 = search arith

pub legal_alone : (bytes : List ℕ) (result : Result Verdict ReadFault) → length bytes ≤ 16777216
    → JudgesLog bytes result → (totals : Totals) → result ≡ Ok (verdicts.Legal totals) → HasLegalTrace bytes
legal_alone bytes result small j totals e = search (arith, only_behind)
