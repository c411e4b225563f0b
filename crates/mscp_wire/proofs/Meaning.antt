-- What the lines of a log tell, and that of a right log those before some lines are right, and those are.
use Rattle.mscp_wire.proofs.Common.{AreRightLines, Cause, Err, Goes, Judges, List, Log, None, Ok, Reaches, ReadFault, Reading, Result, [], ap, arith, broken_said, inr, length, line_says, nothing, refl, subst, suc, sym, with_line, with_lines, with_said, ℕ, ◌++◌, ◌+◌, ◌>>=◌, ◌∙◌, ◌∷◌, ◌≡◌}
use Rattle.mscp_reader.specs.declared.fault.ReadFault.TheVariants as reads

-- ---- lines

-- what some lines tell, and then the rest
pub lines_split : (all rest : List (List ℕ)) (n : ℕ) (log : Log)
    → with_lines n log (all ++ rest) ≡ (with_lines n log all >>= λ l. with_lines (n + length all) l rest)
unfolding with_lines
lines_split [] rest n log = let e : n ≡ n + 0 = omega arith in ap (λ k. with_lines k log rest) e
lines_split (line ∷ all) rest n log =
    let count : n + 1 + length all ≡ n + suc (length all) = omega arith in
    both (with_line (n + 1) log line) (λ next. with_lines (n + 1) next (all ++ rest))
    (λ next. with_lines (n + 1) next all) (λ l. with_lines (n + suc (length all)) l rest)
    (λ next. lines_split all rest (n + 1) next
    ∙ ap (λ k. with_lines (n + 1) next all >>= λ l. with_lines k l rest) count)
  where
    both : (r : Result Log Cause) (f g on : Log → Result Log Cause) → ((next : Log) → f next ≡ (g next >>= on))
        → (r >>= f) ≡ ((r >>= g) >>= on)
    both (Ok next) f g on h = h next
    both (Err cause) f g on h = refl

-- no line tells anything
pub lines_none : (log : Log) → with_lines 0 log [] ≡ Ok log
unfolding with_lines
lines_none log = refl

-- a line more
pub lines_more : (before : List (List ℕ)) (line : List ℕ) (n : ℕ) (log next : Log) → n ≡ length before + 1
    → with_lines 0 nothing before ≡ Ok log → (line_says n line >>= with_said n log) ≡ Ok next
    → with_lines 0 nothing (before ++ line ∷ []) ≡ Ok next
unfolding with_lines with_line
lines_more before line n log next count told goes =
    let place : n ≡ 0 + length before + 1 = omega (arith, count) in
    let last : (line_says (0 + length before + 1) line >>= with_said (0 + length before + 1) log) ≡ Ok next =
    subst (λ k. (line_says k line >>= with_said k log) ≡ Ok next) place goes in
    lines_split before (line ∷ []) 0 nothing
    ∙ ap (λ x. x >>= λ l. with_lines (0 + length before) l (line ∷ [])) told
    ∙ ap (λ x. x >>= λ l. with_lines (0 + length before + 1) l []) last

-- a line at fault
pub line_faults : {A : Type 0} (fault : ReadFault) (bytes line : List ℕ) (n : ℕ) (log : Log) (reading : Reading A)
    → Reaches bytes n line log → Goes n log (line_says n line) (Err fault) reading → Judges {A = A} (Err fault) bytes
unfolding with_line
line_faults (reads.Script fault) bytes line n log reading r goes =
    let place = sym goes.0 in
    inr (record {
      line = line;
      log = log;
      reached = subst (λ k. Reaches bytes k line log) place r;
      cause = subst (λ k. (line_says k line >>= with_said k log) ≡ Err fault.cause) place goes.1;
    })
line_faults reads.OutOfMemory bytes line n log reading r goes = tt

-- ---- which lines are right

-- a line that says something is followed by the rest
pub step_on : (n : ℕ) (read : Result Log Cause) (before : List (List ℕ)) (next : Log)
    → (read >>= λ l. with_lines n l before) ≡ Ok next
    → (l : Log) × (read ≡ Ok l) × (with_lines n l before ≡ Ok next)
step_on n (Ok l) before next k = (l, refl, k)
step_on n (Err cause) before next k = cc

-- those behind some lines
pub right_split : (before rest : List (List ℕ)) (n : ℕ) (log next : Log) → AreRightLines n log (before ++ rest)
    → with_lines n log before ≡ Ok next → AreRightLines (n + length before) next rest
unfolding with_lines AreRightLines
right_split [] rest n log next right told =
    let e : log ≡ next = cc in
    let k : n ≡ n + 0 = omega arith in
    subst (λ l. AreRightLines (n + 0) l rest) e (subst (λ j. AreRightLines j log rest) k right)
right_split (line ∷ before) rest n log next right told =
    let s = step_on (n + 1) (with_line (n + 1) log line) before next told in
    let count : n + 1 + length before ≡ n + suc (length before) = omega arith in
    subst (λ j. AreRightLines j next rest) count
    (right_split before rest (n + 1) s.0 next (right.1 s.0 s.1) s.2)

-- and one line more
pub right_more : (before : List (List ℕ)) (line : List ℕ) (n : ℕ) (log next : Log) → AreRightLines n log before
    → with_lines n log before ≡ Ok next → broken_said next (line_says (n + length before + 1) line) ≡ None
    → AreRightLines n log (before ++ line ∷ [])
unfolding with_lines AreRightLines
right_more [] line n log next right told none =
    let e : next ≡ log = cc in
    let k : n + 0 + 1 ≡ n + 1 = omega arith in (
      subst (λ l. broken_said l (line_says (n + 1) line) ≡ None) e
          (subst (λ j. broken_said next (line_says j line) ≡ None) k none),
      λ l h. tt,
    )
right_more (first ∷ before) line n log next right told none = (
  right.0,
  λ l e.
      let k : n + suc (length before) + 1 ≡ n + 1 + length before + 1 = omega arith in
      right_more before line (n + 1) l next (right.1 l e)
      (sym (ap (λ read. read >>= λ x. with_lines (n + 1) x before) e) ∙ told)
      (subst (λ j. broken_said next (line_says j line) ≡ None) k none),
)

pub right_none : AreRightLines 0 nothing []
unfolding AreRightLines
right_none = tt

pub zero_more : (n : ℕ) → n + 1 ≡ 0 + n + 1
zero_more n = omega arith
