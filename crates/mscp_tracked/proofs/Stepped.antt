-- What a step of what is begun keeps and tells.
use Rattle.mscp_tracked.proofs.Common.{true, List, length, ℕ, ◌+◌, ◌<◌, ◌≤◌, ◌≡◌, ◌∙◌, sym, ap, subst, arith, Option, Some, None, IfSome, is_some, option_to_list, position, false≢true, length-append, length-drop, length-map, length-remove, length-take-le, position-Some, IsValid, Block, End, Record, IsAlone, has_name, is_same, name_of, no_record, record_at, same_is, Name, Report, Idle, Served, Choice, Upcoming, Drive, drive_at, end_in, report_of, end_given, waiting_after, IsNext, place_begun, upcoming_begun, ServesAt, Holdings, Foretells, IsBalanced, Steps, begun_at, begun_step, line_of, Cookies, CanReport, reported, AreBeside, IsReportOf, IsTracked, place_served}
use Rattle.mscp_tracked.proofs.Keeping.{few, found_at, more}

-- ---- who is served
-- what has a name stands at the place where that is found alone
alone_at : (rs : List Record) (name : Name) (place other : ℕ) → IsAlone rs place
    → position (has_name name) rs ≡ Some place → other < length rs → has_name name (record_at rs other) ≡ true
    → other ≡ place
alone_at rs name place other alone at l h = grind (arith, same_is, position-Some)

module _ {K : Type 0} (picks : List Choice → ℕ → Type 0) (k : Block) (old : Holdings K) (new : Holdings K)
    (place : ℕ) (alone : IsAlone old.waiting place) where
  abbrev Here : Record
  Here = record_at old.waiting place

  abbrev Drive' : Drive
  Drive' = drive_at old.drives old.waiting place

  -- the command at the place is served
  pub record IsServedAt (report : Report) : Type 0 where
    pub inside : place < length old.waiting
    pub told : report ≡ report_of k Drive' Here
    pub waiting : new.waiting ≡ waiting_after k Drive' old.waiting place

  pub served_at : place_begun old.waiting old.begun ≡ Some place → (report : Report) → Steps picks k old report new
      → IsServedAt report
  served_at at o s = grind (arith, false≢true, alone_at, position-Some)

  -- it is found by the name that is reported
  named_there : (begun : Option Name) → place_begun old.waiting begun ≡ Some place
      → place_served old.waiting (report_of k Drive' Here) ≡ Some place
  named_there None at = absurd (false≢true (ap is_some at))
  named_there (Some name) at =
      ap (λ n. position (has_name n) old.waiting)
      (same_is (name_of Here) name (position-Some (has_name name) old.waiting place no_record at).1) ∙ at

  pub place_reported : place_begun old.waiting old.begun ≡ Some place → (report : Report) → IsServedAt report
      → place_served old.waiting report ≡ Some place
  place_reported at report s = ap (place_served old.waiting) s.told ∙ named_there old.begun at

  -- it is reported as it was told
  pub report_told : place_begun old.waiting old.begun ≡ Some place → (report : Report) → IsServedAt report
      → IfSome (begun_step old) (λ u. IsReportOf u report)
  report_told at report s = grind (arith, found_at)

-- ---- what is kept
-- how many there are, where some stand in place of one
-- how many wait after a step
long_after : (k : Block) (d : Drive) (rs : List Record) (place : ℕ) (end : Option End) → place < length rs
    → end_given k d (record_at rs place) ≡ end
    → length (waiting_after k d rs place) + length (option_to_list end) ≡ length rs
long_after k d rs place o l e = grind (arith, length-append, length-map, length-take-le, length-drop)

module _ {K : Type 0} (picks : List Choice → ℕ → Type 0) (k : Block) (old new : Holdings K) (c : Cookies) (place : ℕ)
    (l : place < length old.waiting) (b : AreBeside old c) where
  -- what a report leaves
  beside_reported : (report : Report) → Steps picks k old report new
      → length new.waiting + length (option_to_list (end_in report)) ≡ length old.waiting
      → AreBeside new (reported (Some place) report c)
  beside_reported o s w = grind (arith, length-append, length-remove, more)

  room_for : (report : Report) → length (reported (Some place) report c).untaken.first
      + length (reported (Some place) report c).untaken.second ≤ 64 → CanReport (Some place) report c
  room_for o f = grind (arith, length-append)

-- what a step of what is begun keeps, and that there is room for what it reports
pub record Reports {K : Type 0} (new : Holdings K) (place : ℕ) (report : Report) (c : Cookies) : Type 0 where
  pub tracked : IsTracked new (reported (Some place) report c)
  pub room : CanReport (Some place) report c

pub step_reports : {K : Type 0} (picks : List Choice → ℕ → Type 0) (k : Block) (old new : Holdings K) (c : Cookies)
    (place : ℕ) (report : Report) → IsAlone old.waiting place → place_begun old.waiting old.begun ≡ Some place
    → Steps picks k old report new → IsBalanced new → IsTracked old c → Reports new place report c
step_reports {K} picks k old new c place report alone at s balanced t =
    let here = served_at picks k old new place alone at report s in
    let d = drive_at old.drives old.waiting place in
    let long = ap (λ rs. length rs + length (option_to_list (end_in report))) here.waiting
    ∙ long_after k d old.waiting place (end_in report) here.inside (sym (ap end_in here.told)) in
    let beside = beside_reported picks k old new c place here.inside t.beside report s long in
    let valid : IsValid new.settings = subst IsValid (sym s.settings) t.valid in
    grind (arith, room_for, few, here, beside, valid)

-- what a step of what is begun tells
pub record Tells {K : Type 0} (old : Holdings K) (place : ℕ) (report : Report) : Type 0 where
  pub place_is : place_served old.waiting report ≡ Some place
  pub told : IfSome (begun_step old) (λ u. IsReportOf u report)

pub step_tells : {K : Type 0} (picks : List Choice → ℕ → Type 0) (k : Block) (old new : Holdings K) (place : ℕ)
    (report : Report) → IsAlone old.waiting place → place_begun old.waiting old.begun ≡ Some place
    → Steps picks k old report new → Tells old place report
step_tells picks k old new place report alone at s =
    let here = served_at picks k old new place alone at report s in
    record {
      place_is = place_reported picks k old new place alone at report here;
      told = report_told picks k old new place alone at report here;
    }

-- ---- a step of what was begun for it
module _ {K : Type 0} (picks : List Choice → ℕ → Type 0) (k : Block) (old mid new : Holdings K) where
  -- where a begin changed the queue so
  abbrev Begun : ℕ → Type 0
  Begun p = line_of mid ≡ begun_at (line_of old) p

  served_for : (p : ℕ) → IsNext picks old.settings.budget old.drives old.waiting old.begun p → Begun p
      → (report : Report) → ServesAt picks k (line_of mid) report (line_of new) p
      → ServesAt picks k (line_of old) report (line_of new) p
  served_for p next b report a = grind arith

  begun_steps : (p : ℕ) → IsNext picks old.settings.budget old.drives old.waiting old.begun p → Begun p
      → mid.settings ≡ old.settings → mid.untaken ≡ old.untaken → (place : ℕ) → IsAlone mid.waiting place
      → place_begun mid.waiting mid.begun ≡ Some place → (report : Report) → Steps picks k mid report new
      → Steps picks k old report new
  begun_steps p next b c u place alone at Idle s = grind arith
  begun_steps p next b c u place alone at (Served via reference unit lbn started seek ended) s =
      let q = s.serves.0 in
      let a = s.serves.1 in
      let own : mid.waiting ≡ old.waiting = ap (λ l. l.waiting) b in
      let name = name_of (record_at old.waiting p) in
      let begun : mid.begun ≡ Some name = ap (λ l. l.begun) b in
      let found : position (has_name name) mid.waiting ≡ Some place = sym (ap (place_begun mid.waiting) begun) ∙ at in
      let here = alone_at mid.waiting name place p alone found
      (subst (λ rs. p < length rs) (sym own) next.servable.inside)
      (is_same (name_of (record_at mid.waiting p)) name (ap (λ rs. name_of (record_at rs p)) own)) in
      let there = alone_at mid.waiting name place q alone found a.next.servable.inside (a.next.same name begun) in
      grind (arith, served_for, a, here, there)

  -- where nothing was begun, a begin and the step of what it began are a step
  pub begun_then_served : (told : Option Upcoming) → Foretells picks old told mid → old.begun ≡ None → (place : ℕ)
      → IsAlone mid.waiting place → place_begun mid.waiting mid.begun ≡ Some place → (report : Report)
      → Steps picks k mid report new → Steps picks k old report new
  begun_then_served o f none place alone at report s = grind (arith, false≢true, begun_steps)

-- what a begin leaves as it was
pub begun_waiting : {K : Type 0} (picks : List Choice → ℕ → Type 0) (old mid : Holdings K) (told : Option Upcoming)
    → Foretells picks old told mid → mid.waiting ≡ old.waiting
begun_waiting picks old mid o f = grind arith

pub begun_picker : {K : Type 0} (picks : List Choice → ℕ → Type 0) (old mid : Holdings K) (told : Option Upcoming)
    → Foretells picks old told mid → mid.picker ≡ old.picker
begun_picker picks old mid o f = grind arith

-- where nothing was begun nothing was told
pub none_told : (ds : List Drive) (rs : List Record) (begun : Option Name) (P : Upcoming → Type 0) → begun ≡ None
    → IfSome (upcoming_begun ds rs begun) P
none_told ds rs begun P e = subst (λ b. IfSome (upcoming_begun ds rs b) P) (sym e) tt
