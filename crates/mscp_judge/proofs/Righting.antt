-- The line of a step that was answered is the right one.
use Rattle.mscp_judge.proofs.Common.{◌≡◌, ◌≢◌, inl, inr, ℕ, suc, ◌-◌, ◌<◌, ◌≤◌, Bool, true, List, [], ◌∷◌, ◌++◌, length, refl, ap, sym, ◌∙◌, subst, arith, length-append, append-nil, codes, filter, replicate, Option, Some, None, AllByRecursion, flat_map, list_all, eq-eqb, ltb-true, append_cancel_right, length-replicate, Block, Event, IsValid, Settings, name_on, Report, Idle, Served, Entry, Service, Trace, WhenStarted, service_in, done, is_waiting, name, service_name, waiting, is_startable, startable, Answers, Holdings, fresh, IsPick, IsRight, IsServed, one_waits, Known, startable_of, waiting_waits, line, is_printed, entry_lines, step_line, Judge, Name, Wanted, AreAnswers, IsAnswerLine, IsRightThere, Log, telling, IsNamed, HasStepped, IsOpen, IsRightNext, IsServiceLine, IsStepLine, report_in, BeginsWith, Came, HasShortLine, IsFirstLine, IsHeld, IsSettled, Led, Stands, Stood, due, marked, owed, run_of, with_picker}
use Rattle.mscp_drive.specs.declared.event.Event.TheVariants as events
use Rattle.mscp_controller.specs.declared.entry.Entry.TheVariants as entries
use Rattle.mscp_judge.proofs.Coming.{printed_fed, ready_due, ready_not, right_step, stands_held, stands_with, told_not}
use Rattle.mscp_judge.proofs.Ending.{opens_with}
use Rattle.mscp_judge.proofs.Feeds.{front_of, some_none}
use Rattle.mscp_judge.proofs.Leading.{follow, turn_of}
use Rattle.mscp_judge.proofs.Marks.{may_go_on}
use Rattle.mscp_judge.proofs.Telling.{one_of}
use Rattle.mscp_judge.proofs.Unique.{idle_where, nobody_waits, picked_first, picked_one, served_once}

-- ---- who may start

-- the first of those that are kept is one of all
first_kept : (p : ℕ → Bool) (P : ℕ → Type 0) (xs : List ℕ) (x : ℕ) (later : List ℕ) → AllByRecursion P xs
    → filter p xs ≡ x ∷ later → P x × (p x ≡ true)
first_kept p P [] x later h e = cc
first_kept p P (y ∷ ys) x later h e = grind (arith, first_kept p P ys x later h.1)

-- the first of those that may start waits, and may start
first_starts : (c : Settings) (t : Trace) (x : ℕ) (later : List ℕ) → startable c t ≡ x ∷ later
    → (is_waiting t x ≡ true) × (is_startable c t x ≡ true)
unfolding startable
first_starts c t x later e = search (arith, waiting_waits t, first_kept)

-- ---- whom a step serves

-- a service is of x
of_one : (c : Settings) (t : Trace) (k : Block) (s : Service) (y x : ℕ) (text : List ℕ) → IsServed c t k s y → y ≡ x
    → line text ≡ step_line (report_in s) → IsServiceLine c t k x text
of_one c t k s y x text v e l = record { service = s; serves = subst (IsServed c t k s) e v; says = l }

-- the name of a service
own_name : (c : Settings) (t : Trace) (k : Block) (s : Service) (y : ℕ) → IsServed c t k s y → service_name s ≡ name t y
own_name c t k s y v = λ i. name_on (v.connection i) (v.reference i)

-- where x may start, a service is a start
starts_then : (c : Settings) (t : Trace) (k : Block) (s : Service) (y x : ℕ) → IsServed c t k s y
    → is_startable c t x ≡ true → s.started ≡ true
starts_then c t k s y x v may = v.started ∙ eq-eqb (done t y) 0 (idle_where c t y x v.waits may)

service_line : (c : Settings) (t : Trace) (k : Block) (wanted : Option Name) (s : Service) (y : ℕ) (text : List ℕ)
    → Known c t → IsServed c t k s y → (s.started ≡ true → IsPick c (IsNamed wanted) t (service_name s))
    → line text ≡ step_line (report_in s) → IsStepLine c t k wanted text
service_line c t k wanted s y text known v picked l = record {
  idle = λ none. absurd (nobody_waits t y none v.waits);
  served = grind (arith, of_one, served_once, ltb-true);
  named = λ x w may names.
      let start = starts_then c t k s y x v may in
      let own = (picked_one c t wanted (service_name s) x (picked start) w may).1 names in
      of_one c t k s y x text v (one_waits t y x known.steady.apart v.waits w (sym (own_name c t k s y v) ∙ own)) l;
  oldest = λ x later are none.
      let first = first_starts c t x later are in
      let start = starts_then c t k s y x v first.1 in
      let may = startable_of c t k s y v start in
      let own = picked_first c t wanted (service_name s) (picked start)
      (λ e. none y v.waits may (e ∙ ap Some (own_name c t k s y v))) in
      grind (arith, of_one, one_waits, own_name, own, first, own);
}

-- a step is idle where nothing waits
idle_line : (c : Settings) (t : Trace) (k : Block) (wanted : Option Name) (text : List ℕ) → waiting t ≡ []
    → line text ≡ step_line Idle → IsStepLine c t k wanted text
idle_line c t k wanted text none l =
    search (arith, append_cancel_right text (codes "idle") (10 ∷ []) l, nobody_waits, first_starts)

report_line : (c : Settings) (t : Trace) (k : Block) (wanted : Option Name) (report : Report) (text : List ℕ)
    → Known c t → IsRight c t (events.Step k) (entries.Stepped report)
    → WhenStarted (λ s. IsPick c (IsNamed wanted) t (service_name s)) (service_in (entries.Stepped report))
    → line text ≡ step_line report → IsStepLine c t k wanted text
report_line c t k wanted Idle text known right picked l = idle_line c t k wanted text right l
report_line c t k wanted (Served a b d e f g h) text known right picked l = search (arith, service_line)

-- ---- a judge that answered a step

entry_line : (c : Settings) (t : Trace) (h h' : Holdings Wanted) (wanted : Option Name) (k : Block) (entry : Entry)
    (begun : Wanted) (text : List ℕ) → IsValid c → Led (fresh c begun) t h
    → Answers (IsNamed wanted) (with_picker h wanted) (events.Step k) entry h' → entry_lines entry ≡ line text
    → IsStepLine c t k wanted text
entry_line c t h h' wanted k (entries.Stepped report) begun text v led a l =
    let f = follow c begun t h v led in
    let turn = turn_of c t h h' wanted (events.Step k) (entries.Stepped report) v f a in
    report_line c t k wanted report text f.agrees.follows.known turn.sends.right (turn.picked f.unbegun) (sym l)
entry_line c t h h' wanted k _ begun text v led a l = absurd a

-- what begins with a short line, and is a line, is short
short_text : (bytes text : List ℕ) → HasShortLine bytes → bytes ≡ line text → list_all is_printed text ≡ true
    → length text ≤ 128
short_text bytes text h e printed =
    let f = front_of h.0 h.1.0 text (10 ∷ []) (printed_fed text printed) (sym h.1.1 ∙ e) in
    omega (arith, h.2, ap length f.1, length-append text f.0)

pub has_stepped : {A : Type 0} (c : Settings) (log : Log) (wanted : Option Name) (old new : Judge A)
    → Stands c log old → due old ≡ [] → 0 < old.owed → Came wanted old new (events.Step old.block)
    → AreAnswers (due new) 1 → HasShortLine (due new) → HasStepped c log wanted new
has_stepped {A} c log wanted old new s none some came a short =
    let k = old.block in
    let n = old.owed - 1 in
    let later = replicate n (events.Step k) in
    let more : old.owed ≡ suc n = omega (arith, some) in
    let stood : Stood c (marked log) old.controller [] (events.Step k ∷ later) [] = search arith in
    let one = one_of a.all a.many in
    let text = one.0 in
    let is : due new ≡ line text = a.whole ∙ (ap (λ ls. flat_map line ls) one.1 ∙ append-nil (line text)) in
    let printed : list_all is_printed text ≡ true = (subst (AllByRecursion IsAnswerLine) one.1 a.each).0.printed in
    record {
      h = old.controller;
      k = k;
      later = later;
      stood = stood;
      text = text;
      due_is = is;
      printed = printed;
      short = short_text (due new) text short is printed;
      line_is = entry_line c (run_of stood) old.controller new.controller wanted k came.entry stood.begun text
          stood.valid stood.led came.answers (sym came.due ∙ is);
    }

-- ---- the line that is right next

-- a legal log goes on with the first line of what is due
goes_on_due : {A : Type 0} (c : Settings) (log : Log) (judge : Judge A) (text : List ℕ) → IsHeld c log judge
    → BeginsWith (due judge) text → IsRightThere c log text
goes_on_due c log judge text held b = inr (may_go_on c (telling log (text ++ 10 ∷ [])).marks
    (opens_with c (marked log) judge.controller (due judge) judge.block judge.owed text held b))

-- or there is none that is short
due_there : {A : Type 0} (c : Settings) (log : Log) (judge : Judge A) (text : List ℕ) → Stands c log judge
    → due judge ≢ [] → IsFirstLine (due judge) text → IsRightThere c log text
due_there {A} c log judge text s some (inl e) = inl (
  e.0,
  λ other printed short. told_not c log other judge (ready_due c log other judge s some) printed
      (λ begins. let no : ⊥ = omega (arith, e.1 other begins, short) in no),
)
due_there c log judge text s some (inr b) = goes_on_due c log judge text (stands_held c log judge s) b

cons_not : (event : Event) (later : List Event) → event ∷ later ≡ [] → ⊥
cons_not event later e = cc

same_step : (k j : Block) (later rest : List Event) → events.Step k ∷ later ≡ events.Step j ∷ rest → k ≡ j
same_step k j later rest e = cc

-- the whole of a line that something begins with
whole_line : (bytes text right : List ℕ) → bytes ≡ line text → list_all is_printed text ≡ true
    → BeginsWith bytes right → right ≡ text
whole_line bytes text right is printed b =
    let f = front_of right b.0 text (10 ∷ []) (printed_fed text printed) (sym b.1 ∙ is) in
    let none : f.0 ≡ [] = empty f.0 (omega (
      arith,
      ap length (sym b.1 ∙ is),
      length-append right (10 ∷ b.0),
      length-append text (10 ∷ []),
      ap length f.1,
      length-append text f.0,
    )) in
    f.1 ∙ (ap (λ xs. text ++ xs) none ∙ append-nil text)
  where
    empty : (xs : List ℕ) → length xs ≡ 0 → xs ≡ []
    empty [] e = refl
    empty (x ∷ xs) e = absurd (omega (arith, e))

-- what a judge answered to a step is right
pub next_stepped : {A : Type 0} (c : Settings) (log : Log) (wanted : Option Name) (judge : Judge A) (right : List ℕ)
    → IsHeld c log judge → HasStepped c log wanted judge → IsFirstLine (due judge) right
    → IsRightNext c log wanted right
next_stepped c log wanted judge right held s (inl e) = search arith
next_stepped c log wanted judge right held s (inr b) = record {
  there = goes_on_due c log judge right held b;
  h = s.h;
  due = [];
  owed = events.Step s.k ∷ s.later;
  stood = s.stood;
  due_is = λ some. absurd (some refl);
  step_is = λ k later none is.
      subst (λ text. IsStepLine c (run_of s.stood) k wanted text)
      (sym (whole_line (due judge) s.text right s.due_is s.printed b))
      (subst (λ j. IsStepLine c (run_of s.stood) j wanted s.text) (same_step s.k k s.later later is) s.line_is);
  none_is = λ none all. absurd (cons_not (events.Step s.k) s.later all);
}

-- and where something was due, the first line of that
pub next_due : {A : Type 0} (c : Settings) (log : Log) (wanted : Option Name) (judge : Judge A) (right : List ℕ)
    → Stands c log judge → due judge ≢ [] → IsFirstLine (due judge) right → IsRightNext c log wanted right
next_due c log wanted judge right s some f = search (arith, due_there c log judge right s some f)

-- and nothing where all is answered and told
pub next_none : {A : Type 0} (c : Settings) (log : Log) (wanted : Option Name) (judge : Judge A) (right : List ℕ)
    → right ≡ [] → Stands c log judge → IsSettled judge → IsRightNext c log wanted right
next_none c log wanted judge right e s q = record {
  there = inl (e, λ other printed short. ready_not c log other judge s q);
  h = judge.controller;
  due = due judge;
  owed = owed judge;
  stood = s.counted.stood;
  due_is = λ some. absurd (some q.told);
  step_is = grind (arith, cons_not);
  none_is = λ none all. e;
}

-- what is due where a step was answered
pub stepped_due : {A : Type 0} (c : Settings) (log : Log) (wanted : Option Name) (judge : Judge A)
    → HasStepped c log wanted judge → due judge ≢ []
stepped_due c log wanted judge s = λ e. some_none s.text 10 [] (sym s.due_is ∙ e)

-- ---- what the calls of a judge need

pub owed_some : {A : Type 0} (judge : Judge A) → 0 < judge.owed → owed judge ≢ []
owed_some judge some = search (arith, length-replicate judge.owed (events.Step judge.block))

pub open_due : {A : Type 0} (c : Settings) (log : Log) (wanted : Option Name) (judge : Judge A) (right : List ℕ)
    → IsOpen c log wanted judge → due judge ≢ [] → IsFirstLine (due judge) right → IsRightNext c log wanted right
open_due c log wanted judge right (held, inl s) some f = next_due c log wanted judge right s.stands some f
open_due c log wanted judge right (held, inr s) some f = next_stepped c log wanted judge right held s f

pub open_none : {A : Type 0} (c : Settings) (log : Log) (wanted : Option Name) (judge : Judge A) (right : List ℕ)
    → right ≡ [] → IsOpen c log wanted judge → IsSettled judge → IsRightNext c log wanted right
open_none c log wanted judge right e (held, inl s) q = next_none c log wanted judge right e s.stands q
open_none c log wanted judge right e (held, inr s) q = absurd (stepped_due c log wanted judge s q.told)

-- a step that is missing is answered as the oldest that may start is served
pub open_step : {A : Type 0} (c : Settings) (log : Log) (wanted : Option Name) (old new : Judge A) (right : List ℕ)
    → IsOpen c log wanted old → due old ≡ [] → 0 < old.owed → Came None old new (events.Step old.block)
    → new.owed ≡ old.owed - 1 → new.block ≡ old.block → AreAnswers (due new) 1 → HasShortLine (due new)
    → IsFirstLine (due new) right → IsRightNext c log wanted right
open_step c log wanted old new right (held, inl s) none some came w b a short f = search (
  arith,
  next_stepped c log None new right (right_step c log None old new held none some came w b)
      (has_stepped c log None old new s.stands none some came a short) f,
  owed_some,
)
open_step c log wanted old new right (held, inr s) none some came w b a short f = search (arith, stepped_due)

-- a judge that answered a step for a line is open
pub stepped_open : {A : Type 0} (c : Settings) (log : Log) (wanted : Option Name) (old new last : Judge A)
    → Stands c log old → due old ≡ [] → 0 < old.owed → Came wanted old new (events.Step old.block)
    → AreAnswers (due new) 1 → HasShortLine (due new) → last ≡ new → IsHeld c log last → IsOpen c log wanted last
stepped_open c log wanted old new last s none some came a short same held =
    search (arith, has_stepped c log wanted old new s none some came a short)

-- and one that stands so, and answers no step for it
pub stands_open_held : {A : Type 0} (c : Settings) (log : Log) (wanted : Option Name) (judge : Judge A)
    → Stands c log judge → (due judge ≡ [] → owed judge ≢ [] → wanted ≡ None) → IsOpen c log wanted judge
stands_open_held c log wanted judge s none = search (arith, stands_held c log judge s)

-- a judge that keeps other starts is as open
pub open_with : {A : Type 0} (c : Settings) (log : Log) (wanted : Option Name) (old new : Judge A)
    → new ≡ record old { starts = new.starts } → IsOpen c log wanted old → IsOpen c log wanted new
open_with {A} c log wanted old new e (held, inl s) = search (arith, stands_with)
open_with c log wanted old new e (held, inr s) = subst (IsOpen c log wanted) (sym e) (
  held,
  inr (record {
    h = s.h;
    k = s.k;
    later = s.later;
    stood = s.stood;
    text = s.text;
    due_is = s.due_is;
    printed = s.printed;
    short = s.short;
    line_is = s.line_is;
  }),
)
