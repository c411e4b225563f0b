-- Where a line asks too early, where a log ends, and how a legal one goes on.
use Rattle.mscp_judge.proofs.Common.{◌≡◌, ℕ, List, [], ◌∷◌, ◌++◌, length, refl, ap, sym, ◌∙◌, subst, arith, append_assoc, append-nil, replicate, Block, Event, Settings, Trace, Holdings, IsLegal, entry_lines, Wanted, Mark, answers_in, told, transcript, whole, BeginsWith, Held, Stood}
use Rattle.mscp_drive.specs.declared.event.Event.TheVariants as events
use Rattle.mscp_judge.proofs.Existing.{steps_exist}
use Rattle.mscp_judge.proofs.Feeds.{some_none, step_ends}
use Rattle.mscp_judge.proofs.Leading.{follow}
use Rattle.mscp_judge.proofs.Marks.{GoesOn, IsWhole, lead, lead_told, right_among, some_asked, told_append, whole_append}
use Rattle.mscp_judge.proofs.Standing.{goes, known_marks, told_line}
use Rattle.mscp_judge.proofs.Asking.{transcript_more, whole_more}

first_none : (xs ys : List ℕ) → xs ++ ys ≡ [] → xs ≡ []
first_none [] ys e = refl
first_none (x ∷ xs) ys e = absurd (omega (arith, ap length e))

second_none : (xs ys : List ℕ) → xs ++ ys ≡ [] → ys ≡ []
second_none [] ys e = e
second_none (x ∷ xs) ys e = absurd (omega (arith, ap length e))

-- where no answer follows what is known of a legal log, nothing is due and no step is missing
pub all_told : (c : Settings) (marks : List Mark) (h : Holdings Wanted) (due : List ℕ) (owed : List Event)
    (s : Stood c marks h due owed []) (others : List Trace) (more : List Mark)
    → IsLegal c (whole others) → marks ++ more ≡ transcript others → lead more ≡ [] → due ≡ []
all_told c marks h due owed s others more l e none =
    search (arith, goes c marks h due owed [] s others more l e, first_none, lead_told)

pub no_step : (c : Settings) (marks : List Mark) (h : Holdings Wanted) (due : List ℕ) (k : Block)
    (owed : List Event) (s : Stood c marks h due (events.Step k ∷ owed) []) (others : List Trace) (more : List Mark)
    → IsLegal c (whole others) → marks ++ more ≡ transcript others → lead more ≡ [] → ⊥
no_step c marks h due k owed s others more l e none =
    let g = goes c marks h due (events.Step k ∷ owed) [] s others more l e in
    let q = some_asked g.next (events.Step k) owed g.asks in
    let n = q.0 in
    let rest = second_none due (lead (told (answers_in g.next) ++ transcript g.rest))
    (sym (lead_told due (told (answers_in g.next) ++ transcript g.rest)) ∙ (ap lead (sym g.left_is) ∙ none)) in
    let told_none : answers_in (n ∷ q.1) ≡ [] =
    search (arith, lead (transcript g.rest), lead_told (answers_in (n ∷ q.1)) (transcript g.rest), first_none) in
    let are : others ≡ s.parts ++ (s.now ++ n ∷ q.1) ∷ g.rest =
    g.are ∙ ap (λ (t : Trace). s.parts ++ (s.now ++ t) ∷ g.rest) q.2 in
    let right = right_among c s.parts s.now n q.1 g.rest others are l in
    search (arith, first_none (entry_lines n.1) (answers_in q.1) told_none, step_ends, some_none)

-- all is answered and told
unfoldable pub finished : (c : Settings) (marks : List Mark) (h : Holdings Wanted) → Stood c marks h [] [] []
    → IsWhole c marks
finished c marks h s =
    let f = follow c s.begun (whole s.parts ++ s.now) h s.valid s.led in (
      s.parts ++ s.now ∷ [],
      subst (IsLegal c) (sym (whole_more s.parts s.now)) f.legal,
      transcript_more marks s.parts s.now s.said,
    )

-- a legal log goes on from here: the steps that are missing have right answers
goes_from : (c : Settings) (marks : List Mark) (h : Holdings Wanted) (due : List ℕ) (k : Block) (n : ℕ)
    → Held c marks h due (replicate n (events.Step k)) → (X : List Mark) × (others : List Trace) × IsLegal c
    (whole others) × (marks ++ (told due ++ X) ≡ transcript others)
goes_from c marks h due k n s =
    let T = whole s.parts ++ s.now in
    let owed = replicate n (events.Step k) in
    let f = follow c s.begun T h s.valid s.led in
    let u = steps_exist c s.valid k n T f.legal in
    let others = s.parts ++ (s.now ++ u.0) ∷ [] in
    let same : whole others ≡ T ++ u.0 = grind (arith, whole_append, append-nil, append_assoc, u) in
    search (arith, known_marks c marks h due owed s u.0 [] u.1)

pub opens : (c : Settings) (marks : List Mark) (h : Holdings Wanted) (due : List ℕ) (k : Block) (n : ℕ)
    → Held c marks h due (replicate n (events.Step k)) → GoesOn c marks
opens c marks h due k n s = search (arith, goes_from c marks h due k n s)

-- and it goes on with a line that is due
pub opens_with : (c : Settings) (marks : List Mark) (h : Holdings Wanted) (due : List ℕ) (k : Block) (n : ℕ)
    (line : List ℕ) → Held c marks h due (replicate n (events.Step k)) → BeginsWith due line
    → GoesOn c (marks ++ told_line line)
opens_with c marks h due k n line s b =
    let g = goes_from c marks h due k n s in
    let parts : told due ≡ told_line line ++ told b.0 =
    ap told (b.1 ∙ sym (append_assoc line (10 ∷ []) b.0)) ∙ told_append (line ++ 10 ∷ []) b.0 in (
      told b.0 ++ g.0,
      g.1,
      g.2,
      append_assoc marks (told_line line) (told b.0 ++ g.0)
          ∙ (ap (λ ms. marks ++ ms) (sym (append_assoc (told_line line) (told b.0) g.0)
          ∙ ap (λ ms. ms ++ g.0) (sym parts)) ∙ g.3),
    )
