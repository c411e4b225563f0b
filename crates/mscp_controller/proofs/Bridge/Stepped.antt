-- A step of the record that may be served next: it is right, it is picked, and what is held after it is that of the
-- run.
use Rattle.mscp_controller.proofs.Bridge.Basics.{◌≡◌, ℕ, ◌+◌, ◌<◌, Bool, true, false, cond, List, [], ◌∷◌, ◌++◌, map, take, drop, length, refl, ap, sym, ◌∙◌, subst, arith, All, IfSome, nat_eq, Option, Some, None, AllByRecursion, and-false, eq-eqb, lt-ltb, true≢false, false≢true, map-append, take-map, drop-map, recursion_from_All, End, Block, Drive, Report, Choice, replaced, Line, ServesAt, Name, Connection, Record, advanced, step_charge, passed_by, record_at, IsNext, drive_after, report_of, waiting_after, Settings, IsValid, Both, of, Trace, Moment, service_in, WhenStarted, connection, reference, service_name, unit, is_waiting, waiting, weight, done, good, passed, untaken, IsPick, IsRight, block_of, end_of, IsServed, seek_to, Holdings, ends_after, ends_reported, line_of, is_same, every_mapped, every_weaker, every_both, every_from, every_parts, map_map, map_on, Event, Entry, command_before, connection_before, done_before, good_before, untaken_more, cut_of, waiting_below, waiting_waits, Apart, alone, Step, changes, below_parts, none_starts, passed_behind, passed_front, service_by, known_more, held_of, drive_by, driven_served, end_held, held_same, records_kept, Agrees, Sends, cut_at, record_held, waiting_at}
use Rattle.mscp_queue.specs.Records as recorded
use Rattle.mscp_controller.specs.Passing as passings
use Rattle.mscp_controller.proofs.Bridge.Servable.{Next, next_held, reads, waits_at}

-- ---- what it says
-- the moment that serves y
abbrev pub serving : Settings → Trace → Block → ℕ → Moment
serving c t k y = (
  Event.Step k,
  Entry.Stepped (Report.Served (connection t y) (reference t y) (unit t y) (block_of t y) (nat_eq (done t y) 0)
      (seek_to c t (unit t y) (block_of t y)) (end_of c t k y)),
)

-- a step of a record reports the service
report_held : (c : Settings) (t : Trace) (k : Block) (y : ℕ)
    → Entry.Stepped (report_of k (drive_by c t (unit t y)) (held_of t y)) ≡ (serving c t k y).1
unfolding block_of
report_held c t k y = search (arith, end_held)

module _ (c : Settings) (t : Trace) (k : Block) (place : ℕ) where
  -- the command at a place waits
  served_at : Next c t place → IsServed c t k (service_by c t k (waiting_at t place)) (waiting_at t place)
  served_at n = search (arith, waits_at t place n.inside)

  -- and so the step is one of the command there, among the others
  step_at : Apart t (waiting t) → Next c t place → Step c t (serving c t k (waiting_at t place)) (service_by c
      t k (waiting_at t place)) k (waiting_at t place) (take place (waiting t)) (drop (place + 1) (waiting t))
  step_at apart n = search (arith, cut_at t place n.inside, served_at n, alone, cut_of, changes)

-- ---- the others
good_same : (t : Trace) (m : Moment) (x : ℕ)
    → x < length t → done (t ++ m ∷ []) x ≡ done t x → good (t ++ m ∷ []) x ≡ good t x
good_same t m x l d = grind (arith, good_before, done_before)

-- the commands behind it keep their records
behind_kept : (c : Settings) (t : Trace) (k : Block) (y : ℕ) (A B : List ℕ) → Step c t (serving c t k y)
    (service_by c t k y) k y A B → map (held_of (t ++ serving c t k y ∷ [])) B ≡ map (held_of t) B
behind_kept c t k y A B st =
    let m = serving c t k y in
    let t' = t ++ m ∷ [] in
    let L : ℕ → Type 0 = λ x. (x < length t) × (y < x) in
    let D : ℕ → Type 0 = λ x. done t' x ≡ done t x in
    records_kept t t' B (every_weaker (λ x. L x × D x) (λ x. held_of t' x ≡ held_of t x) (λ x h. held_same t m x h.0.0
    h.1 (good_same t m x h.0.0 h.1) (passed_behind c t m (service_by c t k y) k y A B st x (omega (arith, h.0.1))))
    B (every_both L D B (every_both (λ x. x < length t)
    (λ x. y < x) B (below_parts t y A B st.serves.among.at).1.1 st.serves.among.at.behind) st.changes.back_done))

-- a record that was passed
held_passed : (t : Trace) (m : Moment) (x n : ℕ) → x < length t → done (t ++ m ∷ []) x ≡ done t x → good (t ++ m ∷ []) x
    ≡ good t x → passed (t ++ m ∷ []) x ≡ passed t x + n → held_of (t ++ m ∷ []) x ≡ passed_by n (held_of t x)
held_passed t m x n l d g p = search (arith, command_before t m x l, connection_before t m x l)

cost_held : (t : Trace) (y : ℕ) (b : Bool) → nat_eq (done t y) 0 ≡ b → step_charge (held_of t y) ≡ cond b (weight t y) 0
cost_held t y b e = ap (λ b. cond b (weight t y) 0) e

module _ (c : Settings) (t : Trace) (k : Block) (y : ℕ) (A B : List ℕ) (st : Step c t (serving c t k y) (service_by c t
    k y) k y A B) (idle : (nat_eq (done t y) 0 ≡ true → AllByRecursion (λ x. passings.is_unstarted t x ≡ true) A)) where
  -- by how much a command in front was passed then
  front_charged : AllByRecursion (λ x. passed (t ++ serving c t k y ∷ []) x ≡ passed t x + step_charge (held_of t y)) A
  front_charged =
      let m = serving c t k y in
      let s = service_by c t k y in
      let Q : ℕ → ℕ → Type 0 = λ n x. passed (t ++ m ∷ []) x ≡ passed t x + n in
      let both : (b : Bool) → nat_eq (done t y) 0 ≡ b → AllByRecursion (Q (step_charge (held_of t y))) A =
      λ b. elim b as (λ b. nat_eq (done t y) 0 ≡ b → AllByRecursion (Q (step_charge (held_of t y))) A) [
        | true ↦ λ e. subst (λ n. AllByRecursion (Q n) A) (sym (cost_held t y true e)) (every_weaker (λ x. (x < y)
            × (passings.is_unstarted t x ≡ true)) (Q (weight t y)) (λ x h. passed_front c t m s k y A B st e x h.0 h.1)
            A (every_both (λ x. x < y) (λ x. passings.is_unstarted t x ≡ true) A st.serves.among.at.before (idle e)))
        | false ↦ search (arith, m, Q, cost_held, every_from, none_starts, and-false)
      ] in
      both (nat_eq (done t y) 0) refl

  -- the commands in front of it were passed
  front_passed : map (passed_by (step_charge (held_of t y))) (map (held_of t) A)
      ≡ map (held_of (t ++ serving c t k y ∷ [])) A
  front_passed =
      let m = serving c t k y in
      let t' = t ++ m ∷ [] in
      let n = step_charge (held_of t y) in
      let D : ℕ → Type 0 = λ x. (x < length t) × (done t' x ≡ done t x) in
      let P : ℕ → Type 0 = λ x. passed t' x ≡ passed t x + n in
      map_map (held_of t) (passed_by n) A ∙ map_on (λ x. passed_by n (held_of t x)) (held_of t')
      A (every_weaker (λ x. D x × P x) (λ x. passed_by n (held_of t x) ≡ held_of t' x) (λ x h. sym (held_passed t
      m x n h.0.0 h.0.1 (good_same t m x h.0.0 h.0.1) h.1)) A (every_both D P A (every_both (λ x. x < length t)
      (λ x. done t' x ≡ done t x) A (below_parts t y A B st.serves.among.at).0 st.changes.front_done) front_charged))

-- ---- the command itself, where it goes on
module _ (c : Settings) (t : Trace) (k : Block) (y : ℕ) where
  good_own : y < length t → end_of c t k y ≡ None → good (t ++ serving c t k y ∷ []) y ≡ good t y + 1
  good_own l e = grind (arith, good_before, is_same, false≢true, true≢false)

held_own : (c : Settings) (t : Trace) (k : Block) (y : ℕ) (A B : List ℕ) → Step c t (serving c t k y) (service_by c
    t k y) k y A B → end_of c t k y ≡ None → held_of (t ++ serving c t k y ∷ []) y ≡ advanced (held_of t y)
held_own c t k y A B st e =
    let m = serving c t k y in
    let l = (below_parts t y A B st.serves.among.at).1.0 in
    let q = command_before t m y l in
    let v = connection_before t m y l in
    let d = st.changes.own_done in
    let g = good_own c t k y l e in
    let p = passed_behind c t m (service_by c t k y) k y A B st y (omega arith) in
    grind (arith, q, v, d, g, p)

-- ---- what is held afterwards
-- the records after a step of the one at the place
waiting_served : (c : Settings) (t : Trace) (k : Block) (place : ℕ) (d : Drive) → Apart t (waiting t)
    → Next c t place → d ≡ drive_by c t (unit t (waiting_at t place)) → (nat_eq (done t (waiting_at t place)) 0
    ≡ true → AllByRecursion (λ x. passings.is_unstarted t x ≡ true) (take place (waiting t))) → waiting_after k
    d (map (held_of t) (waiting t)) place ≡ map (held_of (t ++ serving c t k (waiting_at t place) ∷ []))
    (waiting (t ++ serving c t k (waiting_at t place) ∷ []))
waiting_served c t k place d apart n e idle =
    search (arith, step_at, record_held, take-map, drop-map, front_passed, behind_kept, map-append, held_own)

-- what is answered to a step is right and picked, and what is then held is that of the run
pub record Turns {K : Type 0} (c : Settings) (picks : List Choice → ℕ → Type 0) (t : Trace) (m : Moment)
    (begun : Option Name) (h : Holdings K) : Type 0 where
  pub sends : Sends c t m h
  -- what was begun is served
  pub same : (n : Name) → begun ≡ Some n → IfSome (service_in m.1) (λ s. service_name s ≡ n)
  -- and where nothing was, what starts is picked
  pub picked : begun ≡ None → WhenStarted (λ s. IsPick c picks t (service_name s)) (service_in m.1)

unstarted_by : (t : Trace) (x : ℕ) → x < length t → is_waiting t x ≡ true → done t x ≡ 0
    → passings.is_unstarted t x ≡ true
unstarted_by t x l w d = search (arith, lt-ltb x (length t) l, eq-eqb (done t x) 0 d)

-- where one starts, each that waits was never served
unstarted_front : (c : Settings) (picks : List Choice → ℕ → Type 0) (t : Trace)
    (place : ℕ) (ds : List Drive) (rs : List Record) (begun : Option Name) → rs ≡ map (held_of t) (waiting t)
    → IsNext picks c.budget ds rs begun place → Next c t place → nat_eq (done t (waiting_at t place)) 0 ≡ true
    → AllByRecursion (λ x. passings.is_unstarted t x ≡ true) (take place (waiting t))
unstarted_front c picks t place ds rs begun e n held u =
    let W = waiting t in
    let here : recorded.is_unstarted (record_at rs place) ≡ true = search (arith, record_held t place held.inside) in
    let done_all = every_mapped (held_of t) (λ r. r.done ≡ 0) W (recursion_from_All (λ r. r.done
    ≡ 0) (map (held_of t) W) (subst (All (λ r. r.done ≡ 0)) e (n.servable.idle here))) in
    let W' : AllByRecursion (λ x. (x < length t) × (is_waiting t x ≡ true)) W =
    every_both (λ x. x < length t) (λ x. is_waiting t x ≡ true) W (waiting_below t) (waiting_waits t) in
    let all = every_weaker (λ x. ((x < length t) × (is_waiting t x ≡ true))
    × (done t x ≡ 0)) (λ x. passings.is_unstarted t x ≡ true) (λ x q. unstarted_by t x q.0.0 q.0.1 q.1)
    W (every_both (λ x. (x < length t) × (is_waiting t x ≡ true)) (λ x. done t x ≡ 0) W W' done_all) in
    (every_parts (λ x. passings.is_unstarted t x ≡ true) (take place W) (waiting_at t place ∷ drop (place + 1) W)
    (subst (AllByRecursion (λ x. passings.is_unstarted t x ≡ true)) (cut_at t place held.inside) all)).0

-- the ends of a connection after a report
pub of_after : (via : Connection) (us : Both (List End)) (report : Report)
    → of via (ends_after us report) ≡ of via us ++ ends_reported via report
of_after via us report = grind arith

-- A step of the record at a place.
pub turns_at : {K : Type 0} (picks : List Choice → ℕ → Type 0) (h h' : Holdings K)
    (t : Trace) (k : Block) (report : Report) (place : ℕ) → IsValid h.settings → Agrees h.settings t h
    → ServesAt picks k (line_of h) report (line_of h') place → h'.untaken ≡ ends_after h.untaken report
    → Turns h.settings picks t (Event.Step k, Entry.Stepped report) h.begun h'
turns_at {K} picks h h' t k report place v a s u =
    let c = h.settings in
    let W = waiting t in
    let rs = map (held_of t) W in
    let f = a.follows in
    let next : IsNext picks c.budget h.drives rs h.begun place =
    subst (λ ws. IsNext picks c.budget h.drives ws h.begun place) f.waits s.next in
    let both = next_held c picks t h.drives h.begun place a.driven next in
    let n = both.0 in
    let y = waiting_at t place in
    let m = serving c t k y in
    let t' = t ++ m ∷ [] in
    let apart = f.known.steady.apart in
    let st = step_at c t k place apart n in
    let idle = unstarted_front c picks t place h.drives rs h.begun refl next n in
    let read = reads c t h.drives h.waiting place a.driven f.waits n.inside in
    let own = read.own in
    let at = read.at in
    let told : report ≡ report_of k (drive_by c t (unit t y)) (held_of t y) = grind (arith, own, at) in
    let entry : Entry.Stepped report ≡ m.1 = ap Entry.Stepped told ∙ report_held c t k y in
    let right : IsRight c t m.0 m.1 = (y, served_at c t k place n) in
    let known = known_more c v.some_blocks t m right f.known in
    let waits : h'.waiting ≡ map (held_of t') (waiting t') =
    grind (arith, waiting_served, c, f, n, t, apart, idle, at) in
    let ends : (via : Connection) → of via h'.untaken ≡ untaken c via t' = grind (
      arith,
      of_after,
      end_held,
      untaken_more,
      c,
      f,
      y,
      m,
      t,
      told,
    ) in
    let drives : h'.drives ≡ replaced (unit t y) (drive_after k (drive_by c t (unit t y)) (held_of t y)) h.drives = ap
    (λ (l : Line K). l.drives) s.left ∙ (λ i. replaced (own i).command.unit (drive_after k (at i) (own i)) h.drives) in
    let driven = driven_served c t m k y (take place W) (drop (place + 1) W) h.drives v.unit_list st right a.driven in
    let all : Turns c picks t m h.begun h' = search arith in
    subst (λ q. Turns c picks t (Event.Step k, q) h.begun h') (sym entry) all
