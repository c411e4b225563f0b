-- How a judge stands after all that was due was told.
use Rattle.mscp_judge.proofs.Common.{◌≡◌, ◌-◌, ◌<◌, [], ◌++◌, length, refl, ap, sym, ◌∙◌, subst, arith, append_assoc, append-nil, ◌≤◌, List, ℕ, ◌∷◌, codes, OnOk, Result, Option, Some, None, flat_map, Block, Report, Idle, Entry, OutOfMemory, IsValid, Settings, Answers, Holdings, line, words, Reported, entry_lines, step_line, with_entry, Judge, Name, Wanted, AreAnswers, Log, telling, IsNamed, name_in, served, BeginsWith, Came, IsNamedAhead, Stands, due, marked, owed, totals_of, with_picker}
use Rattle.mscp_drive.specs.declared.event.Event.TheVariants as events
use Rattle.mscp_controller.specs.declared.entry.Entry.TheVariants as entries
use Rattle.mscp_judge.proofs.Answering.{step_answers}
use Rattle.mscp_judge.proofs.Coming.{held_settings, ready_step, right_step, stands_held, told_so}
use Rattle.mscp_judge.proofs.Counted.{told_all_counted}

-- the lines of an entry that was reported alone
pub reported_lines : (old mid new : Reported) (entry : Entry) → mid ≡ record old { lines = [] }
    → new ≡ with_entry mid entry → new.lines ≡ entry_lines entry
reported_lines old mid new entry none more = search arith

pub told_all : {A : Type 0} (c : Settings) (log : Log) (old new : Judge A) → Stands c log old
    → new ≡ record old { told = new.told } → due new ≡ [] → Stands c (telling log (due old)) new
told_all {A} c log old new s kept none =
    let mid : Judge A = record old { told = new.told } in
    let left : due mid ≡ [] = sym (ap due kept) ∙ none in
    let marks = marked (telling log (due old)) in
    let totals = totals_of c old in
    search (arith, told_all_counted c (marked log) old.controller (due old) (owed old) totals s.counted)

-- ---- a step

-- the line of a step that was reported alone
pub stepped_answers : (r : Result (Unit {0}) OutOfMemory) (old mid new : Reported) (report : Report)
    → OnOk r (new ≡ with_entry mid (entries.Stepped report)) → OnOk r (length (step_line report) ≤ 108)
    → mid ≡ record old { lines = [] } → OnOk r (AreAnswers new.lines 1)
stepped_answers r old mid new report h5 h6 h7 = grind (arith, reported_lines, step_answers)

-- one line
pub one_of : (all : List (List ℕ)) → length all ≡ 1 → (text : List ℕ) × (all ≡ text ∷ [])
one_of [] e = absurd (omega (arith, e))
one_of (text ∷ []) e = (text, refl)
one_of (text ∷ other ∷ all) e = absurd (omega (arith, e))

-- a step was answered at which the command of this name was to start, and its line was told, where a line ahead says
-- that it was served
pub told_step : {A : Type 0} (c : Settings) (log : Log) (named : Name) (rest left : List ℕ) (old mid new : Judge A)
    → IsNamedAhead rest named → Stands c log old → due old ≡ [] → 0 < old.owed
    → Came (Some named) old mid (events.Step old.block) → mid.owed ≡ old.owed - 1 → mid.block ≡ old.block
    → AreAnswers (due mid) 1 → rest ≡ due mid ++ left → new ≡ record mid { told = new.told } → due new ≡ []
    → Stands c (telling log (due mid)) new
told_step {A} c log named rest left old mid new ahead s told some came w b a is kept none =
    let one = one_of a.all a.many in
    let text = one.0 in
    let said : due mid ≡ text ++ 10 ∷ [] =
    a.whole ∙ (ap (λ ls. flat_map line ls) one.1 ∙ append-nil (text ++ 10 ∷ [])) in
    let begins : BeginsWith rest text = (left, is ∙ (ap (λ bs. bs ++ left) said ∙ append_assoc text (10 ∷ []) left)) in
    let step = subst (λ n. Came n old mid (events.Step old.block)) (ahead text begins) came in
    let stands = told_so c log text mid new (ready_step c log text (words text) old mid refl s told some step w b)
    ([], said) (ap (λ j. j.controller) kept) (ap (λ j. j.reporter) kept) (ap (λ j. j.peaks) kept)
    (ap (λ j. j.owed) kept) (ap (λ j. j.block) kept) none in
    subst (λ bs. Stands c (telling log bs) new) (sym said) stands

-- whatever its line is, the settings stay
pub step_settings : {A : Type 0} (c : Settings) (log : Log) (named : Name) (old mid : Judge A) → Stands c log old
    → due old ≡ [] → 0 < old.owed → Came (Some named) old mid (events.Step old.block) → mid.owed ≡ old.owed - 1
    → mid.block ≡ old.block → IsValid c × (mid.controller.settings ≡ c)
step_settings c log named old mid s told some came w b =
    held_settings c log mid (right_step c log (Some named) old mid (stands_held c log old s) told some came w b)

-- ---- an idle step

-- where nothing waits a step is idle
idle_entry : (name : Option Name) (h h' : Holdings Wanted) (k : Block) (entry : Entry) → h.waiting ≡ []
    → Answers (IsNamed name) h (events.Step k) entry h' → entry ≡ entries.Stepped Idle
idle_entry name h h' k entry h5 h6 = grind arith

idle_names : None ≡ name_in (words (codes "idle"))
unfolding words name_in served
idle_names = refl

-- its line was told
pub told_idle : {A : Type 0} (c : Settings) (log : Log) (name : Option Name) (old mid new : Judge A) → name ≡ None
    → Stands c log old → old.controller.waiting ≡ [] → due old ≡ [] → 0 < old.owed
    → Came name old mid (events.Step old.block) → mid.owed ≡ old.owed - 1 → mid.block ≡ old.block
    → new ≡ record mid { told = new.told } → due new ≡ [] → Stands c (telling log (codes "idle\n")) new
told_idle {A} c log name old mid new none s waits told some came w b kept left =
    let step = subst (λ n. Came n old mid (events.Step old.block)) (none ∙ idle_names) came in
    let h = with_picker old.controller (name_in (words (codes "idle"))) in
    let is = idle_entry (name_in (words (codes "idle"))) h mid.controller old.block step.entry waits step.answers in
    let said : due mid ≡ line (codes "idle") = step.due ∙ ap entry_lines is in
    let ahead = ready_step c log (codes "idle") (words (codes "idle")) old mid refl s told some step w b in
    told_so c log (codes "idle") mid new ahead ([], said) (ap (λ j. j.controller) kept) (ap (λ j. j.reporter) kept)
    (ap (λ j. j.peaks) kept) (ap (λ j. j.owed) kept) (ap (λ j. j.block) kept) left
