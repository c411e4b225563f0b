-- How a judge stands after one more line, with the totals so far.
use Rattle.mscp_judge.proofs.Common.{◌≡◌, ℕ, false, List, [], ◌∷◌, ◌++◌, sym, subst, append_assoc, append-nil, arith, Option, Block, Event, Entry, Settings, is_step, Answers, Holdings, words, entry_lines, Name, Wanted, Totals, Asked, Log, Mark, told, whole, IsNamed, name_in, Counted, Stood, marked, run_of, with_picker, Adds, AreTotals}
use Rattle.mscp_drive.specs.declared.event.Event.TheVariants as events
use Rattle.mscp_judge.proofs.Leading.{follow}
use Rattle.mscp_judge.proofs.Marks.{is_legal_log, legal_run}
use Rattle.mscp_judge.proofs.Standing.{ahead_of, told_all_on, told_line, told_on}
use Rattle.mscp_judge.proofs.Stepping.{step_on}
use Rattle.mscp_judge.proofs.Asking.{event_on, steps_on, whole_more}
use Rattle.mscp_judge.proofs.Ending.{finished}
use Rattle.mscp_judge.proofs.Tallies.{totals_more}

pub ahead_counted : (c : Settings) (marks : List Mark) (h : Holdings Wanted) (due : List ℕ) (owed : List Event)
    (ahead : List Mark) (totals : Totals) → Counted c marks h due owed [] totals
    → Counted c marks h due owed ahead totals
unfolding ahead_of
ahead_counted c marks h due owed ahead totals s =
    record { stood = ahead_of c marks h due owed ahead s.stood; are = s.are }

pub told_counted : (c : Settings) (marks : List Mark) (h : Holdings Wanted) (due : List ℕ) (owed : List Event)
    (line rest : List ℕ) (totals : Totals) → Counted c marks h due owed (told_line line) totals
    → due ≡ line ++ 10 ∷ rest → Counted c (marks ++ told_line line) h rest owed [] totals
unfolding told_on
told_counted c marks h due owed line rest totals s e =
    record { stood = told_on c marks h due owed line rest s.stood e; are = s.are }

pub told_all_counted : (c : Settings) (marks : List Mark) (h : Holdings Wanted) (due : List ℕ) (owed : List Event)
    (totals : Totals) → Counted c marks h due owed [] totals → Counted c (marks ++ told due) h [] owed [] totals
unfolding told_all_on
told_all_counted c marks h due owed totals s = record { stood = told_all_on c marks h due owed s.stood; are = s.are }

-- the totals of a trace with a moment more
more : (c : Settings) (marks : List Mark) (h h' : Holdings Wanted) (name : Option Name) (owed : List Event)
    (event : Event) (entry : Entry) (old new : Totals) → Answers (IsNamed name) (with_picker h name) event entry h'
    → Adds h' entry old new → (k : Counted c marks h [] owed [] old)
    → AreTotals c (run_of k.stood ++ (event, entry) ∷ []) new
more c marks h h' name owed event entry old new a adds k = search (arith, totals_more, follow)

pub step_counted : (c : Settings) (marks : List Mark) (h h' : Holdings Wanted) (k : Block) (owed : List Event)
    (line : List ℕ) (entry : Entry) (old new : Totals) → Counted c marks h [] (events.Step k ∷ owed) [] old
    → Answers (IsNamed (name_in (words line))) (with_picker h (name_in (words line))) (events.Step k) entry h'
    → Adds h' entry old new → Counted c marks h' (entry_lines entry) owed (told_line line) new
unfolding step_on
step_counted c marks h h' k owed line entry old new s a adds = record {
  stood = step_on c marks h h' k owed line entry s.stood a;
  are = subst (λ t. AreTotals c t new) (append_assoc (whole s.stood.parts) s.stood.now ((events.Step k, entry) ∷ []))
      (more c marks h h' (name_in (words line)) (events.Step k ∷ owed) (events.Step k) entry old new a adds s);
}

pub steps_counted : (c : Settings) (marks : List Mark) (h : Holdings Wanted) (es : List Event) (totals : Totals)
    → Counted c marks h [] [] [] totals → Counted c (marks ++ Asked es ∷ []) h [] es [] totals
unfolding steps_on
steps_counted c marks h es totals s = record {
  stood = steps_on c marks h es s.stood;
  are = grind (arith, append-nil, whole_more);
}

pub event_counted : (c : Settings) (marks : List Mark) (h h' : Holdings Wanted) (name : Option Name) (event : Event)
    (entry : Entry) (old new : Totals) → is_step event ≡ false → Counted c marks h [] [] [] old
    → Answers (IsNamed name) (with_picker h name) event entry h' → Adds h' entry old new
    → Counted c (marks ++ Asked (event ∷ []) ∷ []) h' (entry_lines entry) [] [] new
unfolding event_on
event_counted c marks h h' name event entry old new o s a adds = record {
  stood = event_on c marks h h' name event entry o s.stood a;
  are = subst (λ t. AreTotals c (t ++ (event, entry) ∷ []) new) (sym (whole_more s.stood.parts s.stood.now))
      (more c marks h h' name [] event entry old new a adds s);
}

-- the trace of a log of which all is told
pub finished_run : (c : Settings) (log : Log) (h : Holdings Wanted) (s : Stood c (marked log) h [] [] [])
    → run_of s ≡ whole (is_legal_log c log.marks (finished c (marked log) h s)).0
unfolding finished
finished_run c log h s = grind (arith, whole_more, legal_run, finished)
