-- What a call leaves, as a judge stands then.
use Rattle.mscp_judge.proofs.Common.{◌≡◌, ◌≢◌, inl, ℕ, zero, suc, ◌+◌, ◌-◌, ◌<◌, true, false, List, [], ◌∷◌, ◌++◌, drop, length, replicate, refl, ap, sym, ◌∙◌, subst, arith, length-append, length-drop, drop-drop, append_assoc, append-nil, All, OnOk, Result, Ok, Err, None, ◌≤◌, Option, list_all, drop-append_seam, length-replicate, and_parts, false≢true, Block, Event, Entry, OutOfMemory, Report, Record, record_at, IsValid, Settings, Trace, is_step, Answers, Holdings, Steps, fresh, Idle, IsLegal, is_printed, words, Reported, entry_lines, reported, step_line, with_entry, Judge, Name, Wanted, Totals, IsAhead, Asked, Log, Mark, MayGoOn, IsLegalLog, asking, events_in, nothing, telling, told, transcript, whole, IsNamed, name_in, wanting, BeginsWith, Came, Counted, HasShortLine, IsHeld, IsSettled, Stands, Stood, due, marked, owed, totals_of, with_picker, AreTotals, IsLarger, figure_queued}
use Rattle.mscp_drive.specs.declared.event.Event.TheVariants as events
use Rattle.mscp_controller.specs.declared.entry.Entry.TheVariants as entries
use Rattle.mscp_judge.proofs.Feeds.{NoFeed, some_none, step_ends}
use Rattle.mscp_judge.proofs.Leading.{follow}
use Rattle.mscp_judge.proofs.Marks.{asked_parts, goes_on, is_legal_log, is_whole, lead, may_go_on}
use Rattle.mscp_judge.proofs.Standing.{held_of, refused, unasked}
use Rattle.mscp_judge.proofs.Stepping.{step_held}
use Rattle.mscp_judge.proofs.Ending.{all_told, finished, no_step, opens}
use Rattle.mscp_judge.proofs.Counted.{ahead_counted, event_counted, finished_run, step_counted, steps_counted, told_counted}
use Rattle.mscp_judge.proofs.Tallies.{totals_none}

-- ---- an event

-- an answer that is reported, where memory may have been wanted
pub came_on : {A : Type 0} (r : Result (Unit {0}) OutOfMemory) (old new : Judge A) (name : Option Name) (event : Event)
    (entry : Entry) (mid : Reported) → Answers (IsNamed name)
    (with_picker old.controller name) event entry new.controller
    → mid ≡ record old.reporter { lines = [] } → OnOk r (new.reporter ≡ with_entry mid entry) → new.told ≡ 0
    → (figure passed : ℕ) → figure ≡ figure_queued new.controller entry
    → passed ≡ (record_at new.controller.waiting 0).passed → IsLarger old.peaks.figure figure new.peaks.figure
    → IsLarger old.peaks.passed passed new.peaks.passed → All (λ r. r.passed ≤ passed) new.controller.waiting
    → OnOk r (Came name old new event)
came_on r old new name event entry mid h7 h8 h9 h10 figure passed h13 h14 h15 h16 h17 = grind arith

-- a step at which nothing waits and nothing was begun is idle, and leaves what is held
pub idle_steps : (name : Option Name) (k : Block) (h h' : Holdings Wanted) → h' ≡ h → h.waiting ≡ [] → h.begun ≡ None
    → Steps (IsNamed name) k h Idle h'
idle_steps name k h h' e waits begun = search (arith, append-nil h.untaken.first, append-nil h.untaken.second)

-- and so it comes
pub idle_came : {A : Type 0} (r : Result (Unit {0}) OutOfMemory) (old new : Judge A) (mid : Reported)
    → old.controller.waiting ≡ [] → old.controller.begun ≡ None → new.controller ≡ with_picker old.controller None
    → mid ≡ record old.reporter { lines = [] } → OnOk r (new.reporter ≡ with_entry mid (entries.Stepped Idle))
    → new.told ≡ 0 → IsLarger old.peaks.figure 0 new.peaks.figure → IsLarger old.peaks.passed 0 new.peaks.passed
    → OnOk r (Came None old new (events.Step old.block))
idle_came r old new mid waits begun held m e z f p =
    let none : new.controller.waiting ≡ [] = ap (λ (h : Holdings Wanted). h.waiting) held ∙ waits in
    came_on r old new None (events.Step old.block) (entries.Stepped Idle) mid
    (idle_steps None old.block (with_picker old.controller None) new.controller held waits begun) m e z 0 0 refl
    (sym (ap (λ (rs : List Record). (record_at rs 0).passed) none)) f p
    (subst (λ rs. All (λ (r : Record). r.passed ≤ 0) rs) (sym none) (λ k d inside. absurd (omega (arith, inside))))

-- ---- a new judge

pub stands_new : {A : Type 0} (c : Settings) (judge : Judge A) → IsValid c → judge.controller ≡ fresh c (wanting None)
    → due judge ≡ [] → judge.reporter ≡ reported [] → judge.owed ≡ 0 → judge.peaks.figure ≡ 0
    → judge.peaks.passed ≡ 0 → Stands c nothing judge
stands_new {A} c judge v e d r o f p =
    let n = ap (λ (q : Reported). q.count) r in
    let only : (others : List Trace) (more : List Mark) → IsLegal c (whole others)
    → Asked [] ∷ more ≡ transcript others
    → (next : Trace) × (rest : List Trace) × (events_in next ≡ []) × (others ≡ next ∷ rest) =
    λ others more l f. let p = asked_parts [] more others f in (p.0, p.1, p.3, p.2) in
    let totals = totals_of c judge in
    let counted : Counted c (marked nothing) (fresh c (wanting None)) [] [] [] totals = record {
      stood = record {
        parts = [];
        now = [];
        begun = wanting None;
        valid = v;
        led = refl;
        said = refl;
        ends = inl refl;
        only = only;
      };
      are = totals_none c totals n (ap (λ (q : Reported). q.steps) r) f refl p;
    } in
    search arith

-- ---- a line that asks

-- where all is answered and told
pub settled : {A : Type 0} (c : Settings) (log : Log) (judge : Judge A) → Stands c log judge → IsSettled judge
    → Counted c (marked log) judge.controller [] [] [] (totals_of c judge)
settled c log judge s q = search arith

pub asked_one : {A B : Type 0} (r : Result B OutOfMemory) (old new : Judge A) (name : Option Name) (event : Event)
    → is_step event ≡ false → IsSettled old → OnOk r (Came name old new event) → new.owed ≡ old.owed
    → OnOk r ((c : Settings) (log : Log) → Stands c log old → Stands c (asking log (event ∷ [])) new)
asked_one {A} (Ok x) old new name event o q came w =
    λ c log s.
    let marks = marked (asking log (event ∷ [])) in
    let none : new.owed ≡ 0 = w ∙ q.answered in
    let totals = totals_of c new in
    let counted : Counted c marks new.controller (entry_lines came.entry) [] [] totals =
    event_counted c (marked log) old.controller new.controller name event came.entry (totals_of c old) totals o
    (settled c log old s q) came.answers (came.adds c) in
    grind (arith, length-append, marks, none, totals, counted)
asked_one (Err x) old new name event o q came w = tt

-- what tells the same has the same totals
same_totals : {A : Type 0} (c : Settings) (old new : Judge A) → new.reporter ≡ old.reporter → new.peaks ≡ old.peaks
    → totals_of c old ≡ totals_of c new
same_totals c old new r p = search arith

pub asked_steps : {A : Type 0} (old new : Judge A) (n : ℕ) (k : Block) → IsSettled old → new.controller ≡ old.controller
    → new.reporter ≡ old.reporter → new.peaks ≡ old.peaks → new.told ≡ old.told → new.owed ≡ n → new.block ≡ k
    → (c : Settings) (log : Log) → Stands c log old → Stands c (asking log (replicate n (events.Step k))) new
asked_steps {A} old new n k q h r p t w b c log s =
    let es = replicate n (events.Step k) in
    let marks = marked (asking log es) in
    let none : due new ≡ [] = search arith in
    let same : es ≡ owed new = λ i. replicate (sym w i) (events.Step (sym b i)) in
    let totals = totals_of c new in
    let counted : Counted c marks old.controller [] es [] totals =
    subst (λ (x : Totals). Counted c marks old.controller [] es [] x) (same_totals c old new r p)
    (steps_counted c (marked log) old.controller es (totals_of c old) (settled c log old s q)) in
    search (arith, length-append log.events es, length-replicate n (events.Step k))

-- a line asks, and something is due or missing
pub too_early : {A : Type 0} (c : Settings) (log : Log) (judge : Judge A) (es : List Event) → Stands c log judge
    → ¬ (IsSettled judge) → ¬ (MayGoOn c (asking log es).marks)
too_early {A} c log judge es s not_it g =
    let p = goes_on c (asking log es).marks g in
    let more = Asked es ∷ p.0 in
    let e = sym (append_assoc (marked log) (Asked es ∷ []) p.0) ∙ p.3 in
    let none = all_told c (marked log) judge.controller (due judge) (owed judge) s.counted.stood p.1 more p.2 e refl in
    not_it (record { told = none; answered = zero_owed judge.owed refl p.1 more p.2 e refl })
  where
    zero_owed : (n : ℕ) → judge.owed ≡ n → (others : List Trace) (more : List Mark) → IsLegal c (whole others)
        → marked log ++ more ≡ transcript others → lead more ≡ [] → judge.owed ≡ 0
    zero_owed zero z others more l e none = z
    zero_owed (suc n) z others more l e none =
        absurd (no_step c (marked log) judge.controller (due judge) judge.block (replicate n (events.Step judge.block))
        (subst (λ k. Stood c (marked log) judge.controller (due judge) (replicate k (events.Step judge.block)) []) z
        s.counted.stood) others more l e none)

-- ---- a line that tells

pub printed_fed : (bytes : List ℕ) → list_all is_printed bytes ≡ true → NoFeed bytes
printed_fed [] h = tt
printed_fed (b ∷ bytes) h = search (arith, and_parts, false≢true, printed_fed bytes)

pub ready_due : {A : Type 0} (c : Settings) (log : Log) (line : List ℕ) (judge : Judge A) → Stands c log judge
    → due judge ≢ [] → IsAhead c log line judge
ready_due c log line judge s some = search (arith, ahead_counted, due, told)

pub ready_step : {A : Type 0} (c : Settings) (log : Log) (line : List ℕ) (ws : List (List ℕ)) (old new : Judge A)
    → ws ≡ words line → Stands c log old → due old ≡ [] → 0 < old.owed
    → Came (name_in ws) old new (events.Step old.block) → new.owed ≡ old.owed - 1 → new.block ≡ old.block
    → IsAhead c log line new
ready_step {A} c log line ws old new same s none some came w b =
    let n = new.owed in
    let k = old.block in
    let more : old.owed ≡ suc n = omega (arith, some, w) in
    let total = totals_of c old in
    let totals = totals_of c new in
    let before : Counted c (marked log) old.controller [] (events.Step k ∷ replicate n (events.Step k)) [] total =
    search arith in
    let a = subst (λ xs. Answers (IsNamed (name_in xs)) (with_picker old.controller (name_in xs)) (events.Step k)
    came.entry new.controller) same came.answers in
    let counted = step_counted c (marked log) old.controller new.controller k (replicate n (events.Step k)) line
    came.entry total totals before a (came.adds c) in
    search (arith, told, step_ends, some_none)

pub ready_not : {A : Type 0} (c : Settings) (log : Log) (line : List ℕ) (judge : Judge A) → Stands c log judge
    → IsSettled judge → ¬ (MayGoOn c (telling log (line ++ 10 ∷ [])).marks)
ready_not c log line judge s q g =
    unasked c (marked log) judge.controller line ((settled c log judge s q).stood)
    (goes_on c (telling log (line ++ 10 ∷ [])).marks g)

pub told_not : {A : Type 0} (c : Settings) (log : Log) (line : List ℕ) (judge : Judge A) → IsAhead c log line judge
    → list_all is_printed line ≡ true → ¬ (BeginsWith (due judge) line)
    → ¬ (MayGoOn c (telling log (line ++ 10 ∷ [])).marks)
told_not c log line judge s printed not_it g = search (arith, refused, due, printed_fed, goes_on)

pub told_so : {A : Type 0} (c : Settings) (log : Log) (line : List ℕ) (old new : Judge A) → IsAhead c log line old
    → (begins : BeginsWith (due old) line) → new.controller ≡ old.controller → new.reporter ≡ old.reporter
    → new.peaks ≡ old.peaks → new.owed ≡ old.owed → new.block ≡ old.block → due new ≡ begins.0
    → Stands c (telling log (line ++ 10 ∷ [])) new
told_so {A} c log line old new s begins h r p w b d = search (
  arith,
  told_counted c (marked log) old.controller (due old) (owed old) line begins.0 (totals_of c old) s.counted begins.1,
)

-- what is due behind a line that was told
pub left_due : (lines line rest : List ℕ) (start place : ℕ) → drop start lines ≡ line ++ 10 ∷ rest
    → place ≡ length lines - (length (drop start lines) - length line - 1) → drop place lines ≡ rest
left_due lines line rest start place e p =
    search (
      arith,
      length-append line (10 ∷ rest),
      length-drop start lines,
      append_assoc line (10 ∷ []) rest,
      length-append line (10 ∷ []),
      drop-append_seam (line ++ 10 ∷ []) rest,
      drop-drop (length line + 1) start lines,
    )

-- a judge that keeps other starts stands as well
pub stands_with : {A : Type 0} (c : Settings) (log : Log) (old new : Judge A)
    → new ≡ record old { starts = new.starts } → Stands c log old → Stands c log new
stands_with c log old new e s = subst (Stands c log) (sym e) (record { counted = s.counted; count = s.count })

-- ---- what is held

pub stands_held : {A : Type 0} (c : Settings) (log : Log) (judge : Judge A) → Stands c log judge → IsHeld c log judge
stands_held c log judge s = held_of c (marked log) judge.controller (due judge) (owed judge) [] s.counted.stood

pub ahead_held : {A : Type 0} (c : Settings) (log : Log) (line : List ℕ) (judge : Judge A) → IsAhead c log line judge
    → IsHeld c log judge
ahead_held c log line judge s = grind (arith, held_of)

-- a line that is the whole has at most as many bytes
pub short_whole : (bytes front : List ℕ) → bytes ≡ front ++ 10 ∷ [] → length bytes ≤ 108 → HasShortLine bytes
short_whole bytes front e l = (front, ([], e), omega (arith, l, ap length e, length-append front (10 ∷ [])))

-- what is due of a step that was reported
pub stepped_short : (r : Result (Unit {0}) OutOfMemory) (old mid new : Reported) (report : Report)
    → OnOk r (new ≡ with_entry mid (entries.Stepped report)) → OnOk r (length (step_line report) ≤ 108)
    → mid ≡ record old { lines = [] } → OnOk r (HasShortLine new.lines)
stepped_short (Ok x) old mid new report value short m = search (arith, step_ends report, short_whole)
stepped_short (Err x) old mid new report value short m = tt

pub right_step : {A : Type 0} (c : Settings) (log : Log) (name : Option Name) (old new : Judge A) → IsHeld c log old
    → due old ≡ [] → 0 < old.owed → Came name old new (events.Step old.block) → new.owed ≡ old.owed - 1
    → new.block ≡ old.block → IsHeld c log new
right_step {A} c log name old new s none some came w b = search (arith, step_held)

-- ---- the whole

pub stands_open : {A : Type 0} (c : Settings) (log : Log) (judge : Judge A) → Stands c log judge → MayGoOn c log.marks
stands_open c log judge s = search (arith, may_go_on, opens, due, stands_held)

pub stands_legal : {A : Type 0} (c : Settings) (log : Log) (judge : Judge A) → Stands c log judge → IsSettled judge
    → (legal : IsLegalLog c log.marks) × AreTotals c (whole legal.0) (totals_of c judge)
stands_legal c log judge s q =
    let known = settled c log judge s q in
    let made = finished c (marked log) judge.controller known.stood in
    let legal = is_legal_log c log.marks made in (
      legal,
      subst (λ t. AreTotals c t (totals_of c judge)) (finished_run c log judge.controller known.stood) known.are,
    )

pub stands_settings : {A : Type 0} (c : Settings) (log : Log) (judge : Judge A) → Stands c log judge
    → judge.controller.settings ≡ c
stands_settings c log judge s = search (arith, follow)

pub held_settings : {A : Type 0} (c : Settings) (log : Log) (judge : Judge A) → IsHeld c log judge
    → IsValid c × (judge.controller.settings ≡ c)
held_settings c log judge s = search (arith, follow c s.begun (whole s.parts ++ s.now) judge.controller s.valid s.led)

pub stands_not : {A : Type 0} (c : Settings) (log : Log) (judge : Judge A) → Stands c log judge → ¬ (IsSettled judge)
    → ¬ (IsLegalLog c log.marks)
stands_not {A} c log judge s not_it g =
    let p = is_whole c log.marks g in
    let e : marked log ++ [] ≡ transcript p.0 = append-nil (marked log) ∙ p.2 in
    let none = all_told c (marked log) judge.controller (due judge) (owed judge) s.counted.stood p.0 [] p.1 e refl in
    not_it (record { told = none; answered = zero_owed judge.owed refl e })
  where
    zero_owed : (n : ℕ) → judge.owed ≡ n → marked log ++ [] ≡ transcript (is_whole c log.marks g).0 → judge.owed ≡ 0
    zero_owed zero z e = z
    zero_owed (suc n) z e =
        absurd (no_step c (marked log) judge.controller (due judge) judge.block (replicate n (events.Step judge.block))
        (subst (λ k. Stood c (marked log) judge.controller (due judge) (replicate k (events.Step judge.block)) []) z
        s.counted.stood) (is_whole c log.marks g).0 [] (is_whole c log.marks g).1 e refl)
