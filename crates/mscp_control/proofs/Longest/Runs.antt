-- What is held while the READs of the run that is written out come and run.
use Rattle.mscp_control.proofs.Common.{◌≡◌, ◌≢◌, ℕ, zero, suc, ◌+◌, ◌-◌, ◌*◌, ◌<◌, ◌≤◌, Bool, true, false, cond, ◌&&◌, List, [], ◌∷◌, ◌++◌, map, length, refl, ap, sym, ◌∙◌, subst, append-nil, arith, nat_eq, nat_lt, drop, if◌then◌else◌, Option, Some, None, AllByRecursion, and-false, zero-div, eqb-true, le-leb, le-ltb, lt-ltb, ltb-false, ne_eqb, length-append, All-from_recursion, End, Head, distance, Shape, cylinder_of, Good, Drive, Connection, First, Report, Served, head_after, Record, fresh_record, passed_by, remains, step_charge, IsServable, drive_after, end_given, report_of, is_affordable, is_free, every_append, at_place, fresh_drive, Transfer, Settings, room, Both, of, put, Trace, ends_after, block_before, come_on, connection_at, long_read, online_command, online_end, opened, pass_on, queueing, read_command, read_end, read_report, rest_on, runs_on, short_read, stepping, steps_on}
use Rattle.mscp_drive.specs.declared.event.Event.TheVariants as events
use Rattle.mscp_controller.specs.declared.entry.Entry.TheVariants as entries
use Rattle.mscp_control.proofs.Longest.Moments.{Holds, IsUnit, MaySend, holds_none, holds_queued, holds_stepped, holds_taken, nothing}
use Rattle.mscp_control.proofs.Longest.Reads.{IsRead, long_is, long_sent, longs, longs_idle, longs_more, longs_passed, record_fresh, record_of, short_is, short_sent}

-- ---- the unit's drive

-- the unit's drive, online, with its head on the cylinder of this block
abbrev pub drive_on : Shape → ℕ → Bool → Drive
drive_on s block up = record { unit = s; online = true; head = record { cylinder = cylinder_of s block; up = up } }

-- the unit is online, and its head is on the cylinder of this block. Which way it goes is all one
pub record Stands (c : Settings) (s : Shape) (t : Trace) (rs : List Record) (us : Both (List End)) (block : ℕ) :
    Type 0 where
  pub up : Bool
  pub holds : Holds c s t rs us (drive_on s block up)

pub stands_as : (c : Settings) (s : Shape) (t t' : Trace) (rs rs' : List Record) (us us' : Both (List End)) (b b' : ℕ)
    → t ≡ t' → rs ≡ rs' → us ≡ us' → b ≡ b' → Stands c s t rs us b → Stands c s t' rs' us' b'
stands_as c s t t' rs rs' us us' b b' et er eu eb h = search arith

-- ---- one step of a READ

-- the end that the step gives which comes after so many others
abbrev pub ended : Shape → Transfer → ℕ → Option End
ended s x j = if nat_lt 1 (x.blocks - j) then None else Some (read_end s x)

ended_is : (c : Settings) (s : Shape) (x : Transfer) (j p block : ℕ) (up : Bool) → IsRead c s x → j < x.blocks
    → end_given Good (drive_on s block up) (record_of s x j p) ≡ ended s x j
ended_is c s x j p block up r l = search (arith, ltb-false)

report_is : (c : Settings) (s : Shape) (x : Transfer) (from j p : ℕ) (up : Bool) → IsRead c s x → j < x.blocks
    → report_of Good (drive_on s (block_before x from j) up) (record_of s x j p) ≡ read_report s x from j
report_is c s x from j p up r l = search (arith, ended_is c s x j p (block_before x from j) up r l)

head_to : (b : Bool) (to : ℕ) (h : Head)
    → head_after b (Some to) h ≡ record { cylinder = to; up = (head_after b (Some to) h).up }
head_to b to h = grind arith

drive_is : (s : Shape) (x : Transfer) (j p block : ℕ) (up : Bool)
    → let h : Head = record { cylinder = cylinder_of s block; up = up } in
    drive_after Good (drive_on s block up) (record_of s x j p)
    ≡ drive_on s (x.first + j) (head_after (nat_eq j 0) (Some (cylinder_of s (x.first + j))) h).up
drive_is s x j p block up = search (arith, record_of s x j p, head_to)

-- what is held after a step of the READ behind these
pub stands_stepped : (c : Settings) (s : Shape) (t : Trace) (A : List Record) (x : Transfer) (from j p : ℕ)
    (B : List Record) (us : Both (List End)) → IsUnit c s → IsRead c s x → j < x.blocks
    → IsServable c.budget (A ++ record_of s x j p ∷ B) (length A)
    → Stands c s t (A ++ record_of s x j p ∷ B) us (block_before x from j) → Stands c s (t ++ stepping s x from j ∷ [])
    (map (passed_by (step_charge (record_of s x j p))) A ++ (remains (record_of s x j p) (ended s x j) ++ B))
    (ends_after us (read_report s x from j)) (x.first + j)
stands_stepped c s t A x from j p B us w r l can h =
    let k = record_of s x j p in
    let d = drive_on s (block_before x from j) h.up in
    let head : Head = d.head in
    let up = (head_after (nat_eq j 0) (Some (cylinder_of s (x.first + j))) head).up in
    let first = holds_stepped c s t A k B us d w refl refl can h.holds in
    search (arith, report_is, ended_is, drive_is)

-- ---- the oldest runs

-- it may be served
pub oldest_can : (c : Settings) (s : Shape) (x : Transfer) (j p : ℕ) (B : List Record)
    → AllByRecursion (λ r. r.done ≡ 0) B → IsServable c.budget (record_of s x j p ∷ B) 0
oldest_can c s x j p B idle = search (arith, All-from_recursion, eqb-true)

-- a report that brings no end
quiet : (via : Connection) (reference unit : ℕ) (lbn : Option ℕ) (started : Bool) (seek : ℕ)
    → ends_after nothing (Served via reference unit lbn started seek None) ≡ nothing
quiet via reference unit lbn started seek = grind arith

-- all its steps but the last
pub runs_part : (c : Settings) (s : Shape) (t : Trace) (x : Transfer) (from p : ℕ) (B : List Record) → IsUnit c s
    → IsRead c s x → AllByRecursion (λ r. r.done ≡ 0) B → Stands c s t (record_of s x 0 p ∷ B) nothing from → (j : ℕ)
    → j < x.blocks → Stands c s (steps_on s x from t j) (record_of s x j p ∷ B) nothing (block_before x from j)
runs_part c s t x from p B w r idle h zero l = h
runs_part c s t x from p B w r idle h (suc j) l =
    let u = steps_on s x from t j in
    let before = runs_part c s t x from p B w r idle h j (omega arith) in
    let k = record_of s x j p in
    let next = stands_stepped c s u [] x from j p B nothing w r (omega arith) (oldest_can c s x j p B idle) before in
    let more : nat_lt 1 (x.blocks - j) ≡ true = lt-ltb 1 (x.blocks - j) (omega (arith, l)) in
    let e : j + 1 ≡ suc j = omega arith in
    let some : suc j ≢ 0 = λ e. omega (arith, e) in
    let one : Option End → Record → List Record = λ o q. remains q o ++ B in
    stands_as c s (steps_on s x from t (suc j)) (steps_on s x from t (suc j))
    (remains k (ended s x j) ++ B) (record_of s x (suc j) p ∷ B)
    (ends_after nothing (read_report s x from j)) nothing
    (x.first + j) (block_before x from (suc j))
    refl
    (ap (λ (b : Bool). remains k (if b then None else Some (read_end s x)) ++ B) more
    ∙ ap (λ i. record_of s x i p ∷ B) e)
    (ap (λ (b : Bool). ends_after nothing (Served x.connection x.reference s.number (Some (x.first + j)) (nat_eq j 0)
    (distance (cylinder_of s (block_before x from j)) (cylinder_of s (x.first + j)))
    (if b then None else Some (read_end s x)))) more
    ∙ quiet x.connection x.reference s.number (Some (x.first + j)) (nat_eq j 0)
    (distance (cylinder_of s (block_before x from j)) (cylinder_of s (x.first + j))))
    (omega arith ∙ sym (ap (λ (b : Bool). cond b from (x.first + suc j - 1)) (ne_eqb (suc j) 0 some)))
    next

-- ends that are untaken once a report brought one
made : (via : Connection) (reference unit : ℕ) (lbn : Option ℕ) (started : Bool) (seek : ℕ) (e : End)
    → of via (ends_after nothing (Served via reference unit lbn started seek (Some e))) ≡ e ∷ []
made via reference unit lbn started seek e = grind arith

-- and once that was taken
handed : (via : Connection) (reference unit : ℕ) (lbn : Option ℕ) (started : Bool) (seek : ℕ) (e : End)
    → let us = ends_after nothing (Served via reference unit lbn started seek (Some e)) in
    put via (drop 1 (of via us)) us ≡ nothing
handed via reference unit lbn started seek e = grind arith

-- the last step of a READ behind these, and its end is taken
stands_ended : (c : Settings) (s : Shape) (t : Trace) (A : List Record) (x : Transfer) (from j p : ℕ) (B : List Record)
    → IsUnit c s → IsRead c s x → suc j ≡ x.blocks → IsServable c.budget (A ++ record_of s x j p ∷ B) (length A)
    → Stands c s (steps_on s x from t j) (A ++ record_of s x j p ∷ B) nothing (block_before x from j)
    → Stands c s (runs_on s x from t) (map (passed_by (step_charge (record_of s x j p))) A ++ B) nothing (x.first + j)
stands_ended c s t A x from j p B w r last can h =
    let k = record_of s x j p in
    let u = steps_on s x from t j in
    let end = read_end s x in
    let via = x.connection in
    let front = map (passed_by (step_charge k)) A in
    let seek = distance (cylinder_of s (block_before x from j)) (cylinder_of s (x.first + j)) in
    let report : Report = Served via x.reference s.number (Some (x.first + j)) (nat_eq j 0) seek (Some end) in
    let next = stands_stepped c s u A x from j p B nothing w r (omega (arith, last)) can h in
    let no : nat_lt 1 (x.blocks - j) ≡ false = le-ltb 1 (x.blocks - j) (omega (arith, last)) in
    let step = stands_as c s (steps_on s x from t (suc j)) (steps_on s x from t x.blocks)
    (front ++ (remains k (ended s x j) ++ B)) (front ++ B) (ends_after nothing (read_report s x from j))
    (ends_after nothing report) (x.first + j) (x.first + j) (ap (λ i. steps_on s x from t i) last)
    (ap (λ (b : Bool). front ++ (remains k (if b then None else Some end) ++ B)) no) (ap (λ (b : Bool). ends_after
    nothing (Served via x.reference s.number (Some (x.first + j)) (nat_eq j 0) seek (if b then None else Some end))) no)
    refl next in
    record {
      up = step.up;
      holds = holds_taken c s (steps_on s x from t x.blocks) (front ++ B) (ends_after nothing report)
          (drive_on s (x.first + j) step.up) via end w
          (made via x.reference s.number (Some (x.first + j)) (nat_eq j 0) seek end)
          (handed via x.reference s.number (Some (x.first + j)) (nat_eq j 0) seek end) step.holds;
    }

-- the oldest runs to its end, which is taken
pub runs_whole : (c : Settings) (s : Shape) (t : Trace) (x : Transfer) (from p block : ℕ) (B : List Record) → IsUnit c s
    → IsRead c s x → AllByRecursion (λ r. r.done ≡ 0) B → x.first + x.blocks ≡ block + 1
    → Stands c s t (record_of s x 0 p ∷ B) nothing from → Stands c s (runs_on s x from t) B nothing block
runs_whole c s t x from p block B w r idle last h =
    let some = r.some in
    let j = x.blocks - 1 in
    let whole : suc j ≡ x.blocks = omega (arith, some) in
    let before = runs_part c s t x from p B w r idle h j (omega (arith, some)) in
    stands_as c s (runs_on s x from t) (runs_on s x from t) B B nothing nothing (x.first + j) block refl refl refl
    (omega (arith, last, some)) (stands_ended c s t [] x from j p B w r whole (oldest_can c s x j p B idle) before)

-- ---- all come

-- the unit is online
online_first : (c : Settings) (s : Shape) → IsUnit c s → MaySend c [] nothing First (online_command s (room c))
online_first c s w = search arith

zero_cylinder : (s : Shape) → 0 ≡ cylinder_of s 0
zero_cylinder s = sym (zero-div (s.track * s.group * s.cylinder))

pub opened_stands : (c : Settings) (s : Shape) → IsUnit c s → Stands c s (opened s (room c)) [] nothing 0
opened_stands c s w =
    let k = online_command s (room c) in
    let sent = holds_queued c s [] [] nothing (fresh_drive s) First k w (online_first c s w) (holds_none c s w) in
    let can : IsServable c.budget (fresh_record First k ∷ []) 0 = search arith in
    let stepped = holds_stepped c s (queueing First k ∷ []) [] (fresh_record First k) [] nothing (fresh_drive s) w refl
    refl can sent in
    let us : Both (List End) = record { first = online_end s (room c) ∷ []; second = [] } in
    let online : ℕ → Drive = λ cylinder.
    record { unit = s; online = true; head = record { cylinder = cylinder; up = true } } in
    let two = queueing First k
    ∷ (events.Step Good, entries.Stepped (Served First (room c) s.number None true 0 (Some (online_end s (room c)))))
    ∷ [] in
    let taken : Holds c s (opened s (room c)) [] nothing (online 0) =
    holds_taken c s two [] us (online 0) First (online_end s (room c)) w refl refl stepped in
    search (arith, opened, zero_cylinder)

-- so many long ones have come
pub come_stands : (c : Settings) (s : Shape) → IsUnit c s → c.longest ≤ s.size → (i : ℕ) → i ≤ room c
    → Stands c s (come_on c s (opened s (room c)) i) (longs c s 0 0 i) nothing 0
come_stands c s w fits zero l = opened_stands c s w
come_stands c s w fits (suc i) l =
    let before = come_stands c s w fits i (omega (arith, l)) in
    let x = long_read c i in
    let t = come_on c s (opened s (room c)) i in
    let next = holds_queued c s t (longs c s 0 0 i) nothing (drive_on s 0 before.up) (connection_at c i)
    (read_command s x) w (long_sent c s i w fits (omega (arith, l))) before.holds in
    search (arith, record_fresh, long_is, opened, longs_more)

-- ---- some pass

-- a READ of one block keeps behind none of the long ones
free_short : (c : Settings) (s : Shape) (p a k : ℕ) → is_free (record_of s (short_read c) 0 0) (longs c s p a k) ≡ true
free_short c s p a zero = refl
free_short c s p a (suc k) = search (arith, is_free, and-false, nat_eq, free_short c s p (a + 1) k)

-- and they afford it
short_affordable : (c : Settings) (s : Shape) (p a k : ℕ) → p + 1 ≤ c.budget
    → is_affordable c.budget (record_of s (short_read c) 0 0) (longs c s p a k) ≡ true
short_affordable c s p a zero h = refl
short_affordable c s p a (suc k) h = search (arith, le-leb, short_affordable c s p (a + 1) k h)

short_can : (c : Settings) (s : Shape) (p k : ℕ) → p + 1 ≤ c.budget
    → let A = longs c s p 1 k in IsServable c.budget (A ++ record_of s (short_read c) 0 0 ∷ []) (length A)
short_can c s p k h =
    search (arith, at_place, length-append, All-from_recursion, every_append, longs_idle, free_short, short_affordable)

-- so many have passed
pub pass_stands : (c : Settings) (s : Shape) (t : Trace) → IsUnit c s → c.longest ≤ s.size
    → Stands c s t (longs c s 0 1 (room c - 1)) nothing (c.longest - 1) → (j : ℕ) → j ≤ c.budget
    → Stands c s (pass_on c s t j) (longs c s j 1 (room c - 1)) nothing (c.longest - 1)
pass_stands c s t w fits h zero l = h
pass_stands c s t w fits h (suc j) l =
    let before = pass_stands c s t w fits h j (omega (arith, l)) in
    let x = short_read c in
    let A = longs c s j 1 (room c - 1) in
    let u = pass_on c s t j in
    let sent = holds_queued c s u A nothing (drive_on s (c.longest - 1) before.up) First (read_command s x) w
    (short_sent c s j w fits) before.holds in
    let v = u ++ queueing First (read_command s x) ∷ [] in
    let is = short_is c s w fits in
    let came : Stands c s v (A ++ record_of s x 0 0 ∷ []) nothing (c.longest - 1) = record {
      up = before.up;
      holds = subst (λ r. Holds c s v (A ++ r ∷ []) nothing (drive_on s (c.longest - 1) before.up))
          (record_fresh c s x is) sent;
    } in
    let ran = stands_ended c s v A x (c.longest - 1) 0 0 [] w is refl (short_can c s j (room c - 1) (omega (arith, l)))
    came in
    search (arith, stands_as, append-nil, longs_passed)

-- ---- the rest runs

pub rest_stands : (c : Settings) (s : Shape) (t : Trace) (p : ℕ) → IsUnit c s → c.longest ≤ s.size
    → Stands c s t (longs c s p 1 (room c - 1)) nothing (c.longest - 1) → (i l : ℕ) → i + suc l ≡ room c - 1
    → Stands c s (rest_on c s t i) (longs c s p (i + 1) (suc l)) nothing (c.longest - 1)
rest_stands c s t p w fits h zero l e =
    let one : 1 ≡ 0 + 1 = omega arith in
    let many : room c - 1 ≡ suc l = omega (arith, e) in
    search (arith, longs c s p 1 (room c - 1), longs c s p (0 + 1) (suc l), stands_as, nothing)
rest_stands c s t p w fits h (suc i) l e =
    let before = rest_stands c s t p w fits h i (suc l) (omega (arith, e)) in
    let some = w.valid.some_blocks in
    let B = longs c s p (i + 1 + 1) (suc l) in
    let is = long_is c s (i + 1) w fits (omega (arith, e)) in
    let ran = runs_whole c s (rest_on c s t i) (long_read c (i + 1)) (c.longest - 1) p (c.longest - 1) B w is
    (longs_idle c s p (i + 1 + 1) (suc l)) (omega (arith, some)) before in
    search (arith, stands_as)
