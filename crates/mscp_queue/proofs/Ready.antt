-- What a queue knows stays true: the target of each command, in which order they were passed, and which places are
-- known.
use Rattle.mscp_queue.proofs.Basics.{◌≡◌, ℕ, ◌+◌, ◌<◌, ◌≤◌, Bool, true, false, cond, not, List, [], ◌∷◌, ◌++◌, map, take, drop, get_or, length, refl, ap, sym, ◌∙◌, subst, arith, All, filter, is_some, Option, Some, None, AllByRecursion, list_any, false≢true, lt-ltb, ltb-true, get_or-map, get_or_append_left, get_or_at, length-append, length-map, length-take-le, All-from_recursion, Command, Target, Shape, Block, Drive, Connection, Name, target_of, targets_of, no_target, Waiters, ArePassedInOrder, CanBeShown, IsHeld, IsReady, IsWaitable, begun_name, place_served, place_without, units_of, name_on, Record, advanced, drive_at, fresh_record, has_name, is_in_service, is_unstarted, no_record, passed_by, record_at, step_charge, IsServable, end_given, waiting_after, map-append, take-map, drop-map, targets_cut, targets_kept, targets_pushed, place_same, drive_place, known_at, held_pushed, others_idle, every_from, pairs_append, pairs_cut, cut_at, StepMade, held_step, next_turn, units_step, map_map}
use Rattle.mscp_queue.proofs.Nexts.{held_left, served_without, waits_without}
use Rattle.mscp_queue.proofs.Ordered.{passed_left}

-- ---- the target of a command
-- the drive at a place is that of the unit of the command at another
pub record IsDriveOf (ds : List Drive) (rs : List Record) (place at : ℕ) : Type 0 where
  pub inside : at < length ds
  pub is : (other : Drive) → get_or ds at other ≡ drive_at ds rs place
  pub placed : at ≡ drive_place ds (record_at rs place).command.unit

pub drive_found : {room budget longest : ℕ} {rs : List Record} {ds : List Drive} {begun : Option Name} {serving : Bool}
    (own : List Target) (place at : ℕ) → IsHeld room budget longest rs ds begun serving → own ≡ targets_of (units_of ds)
    rs → place < length rs → at ≡ (get_or own place no_target).drive → IsDriveOf ds rs place at
drive_found {room} {budget} {longest} {rs} {ds} own place at h targeted l e =
    let of : Record → Target = λ r. target_of (units_of ds) r.command in
    let n = (record_at rs place).command.unit in
    let known = (h.each place no_record l).waitable.known in
    let is : at ≡ drive_place ds n = search (arith, get_or-map of rs place no_record no_target l, place_same ds n) in
    record {
      inside = subst (λ k. k < length ds) (sym is) (known_at ds n (drive_at ds rs place) known).inside;
      is = λ other. ap (λ k. get_or ds k other) is ∙ (known_at ds n other known).drive;
      placed = is;
    }

-- what waits can be shown
pub can_be_shown : {room longest : ℕ} {w : Waiters} {ds : List Drive} {begun serving : Option ℕ}
    → IsReady room longest w ds begun serving → CanBeShown ds w.waiting w.targets
can_be_shown {ds = ds} q = search (arith, length-map)

-- ---- a command comes
begun_more : (rs : List Record) (x : Record) (begun : Option ℕ) → ((place : ℕ) → begun ≡ Some place → place < length rs)
    → begun_name rs begun ≡ begun_name (rs ++ x ∷ []) begun
begun_more rs x begun h3 = grind (arith, get_or_append_left)

pub ready_pushed : {room longest : ℕ} {w new : Waiters} {ds : List Drive} {begun serving : Option ℕ} (by : Connection)
    (c : Command) (target : Target)
    → IsReady room longest w ds begun serving → length w.waiting < room → IsWaitable longest (units_of ds) c
    → list_any (has_name (name_on by c.reference)) w.waiting ≡ false → target ≡ target_of (units_of ds) c → new
    ≡ record { budget = w.budget; waiting = w.waiting ++ fresh_record by c ∷ []; targets = w.targets ++ target ∷ [] }
    → IsReady room longest new ds begun serving
ready_pushed {room} {longest} {w} {new} {ds} {begun} {serving} by c target q l waitable apart targets e =
    let r = fresh_record by c in
    let rs = w.waiting ++ r ∷ [] in
    let held = held_pushed room w.budget longest w.waiting rs ds (begun_name w.waiting begun)
    (is_some serving) by c q.held l waitable apart refl in
    let all : IsReady room longest (record { budget = w.budget; waiting = rs; targets = w.targets ++ target ∷ [] }) ds
    begun
    serving = record {
      held = search (arith, r, rs, held, begun_more);
      targeted = targets_pushed (units_of ds) w.waiting rs w.targets
          (w.targets ++ target ∷ []) by c target q.targeted targets refl refl;
      order = pairs_append _ w.waiting r q.order (every_from (λ z. r.passed ≤ z.passed) (λ z. omega arith) w.waiting);
      served = λ place s. let was = q.served place s in (
        omega (arith, was.0, length-append w.waiting (r ∷ [])),
        ap (λ (z : Record). is_in_service z) (get_or_append_left w.waiting (r ∷ []) no_record place was.0)
            ∙ was.1,
      );
      waits = λ place s. let was = q.waits place s in omega (arith, was, length-append w.waiting (r ∷ []));
    } in
    subst (λ (v : Waiters). IsReady room longest v ds begun serving) (sym e) all

-- ---- a command leaves
-- the others are idle where the one at a place is in service
pub others_at : {room budget longest : ℕ} {rs : List Record} {ds : List Drive} {begun : Option Name} {serving : Bool}
    (place : ℕ) → IsHeld room budget longest rs ds begun serving → place < length rs → is_in_service (record_at rs
    place) ≡ true → All (λ r. r.done ≡ 0) (take place rs) × All (λ r. r.done ≡ 0) (drop (place + 1) rs)
others_at {room} {budget} {longest} {rs} place h l s =
    let A = take place rs in
    let B = drop (place + 1) rs in
    let idle = others_idle A (record_at rs place) B (subst (λ zs. length
    (filter is_in_service zs) ≤ 1) (cut_at no_record rs place l) h.one) (ltb-true 0 (record_at rs place).done s) in
    (All-from_recursion (λ (r : Record). r.done ≡ 0) A idle.0, All-from_recursion (λ (r : Record). r.done ≡ 0) B idle.1)

order_left : (rs : List Record) (place : ℕ) → place < length rs → ArePassedInOrder rs
    → ArePassedInOrder (take place rs ++ drop (place + 1) rs)
order_left rs place l h = pairs_cut _ (take place rs) (record_at rs place) (drop (place + 1) rs)
    (subst ArePassedInOrder (cut_at no_record rs place l) h)

pub ready_left : {room longest : ℕ} {w new : Waiters}
    {ds : List Drive} {begun serving begun' serving' : Option ℕ} (gone : ℕ) → IsReady room longest w ds begun serving
    → gone < length w.waiting → new.budget ≡ w.budget → new.waiting ≡ take gone w.waiting ++ drop (gone + 1) w.waiting
    → new.targets ≡ take gone w.targets ++ drop (gone + 1) w.targets → begun' ≡ place_without begun gone
    → serving' ≡ place_without serving gone → IsReady room longest new ds begun' serving'
ready_left {room} {longest} {w} {new} {ds} {begun} {serving} {begun'} {serving'} gone q l b e a f g =
    let rs = w.waiting in
    let all : IsReady room longest new ds (place_without begun gone) (place_without serving gone) = record {
      held = search (arith, held_left gone begun serving q.held l e q.served q.waits);
      targeted = search (arith, rs, targets_cut);
      order = subst ArePassedInOrder (sym e) (order_left rs gone l q.order);
      served = served_without rs new.waiting serving gone l e q.served;
      waits = waits_without rs new.waiting begun gone l e q.waits;
    } in
    search arith

-- ---- a step
-- the others of the command that is served next are idle, and it keeps within their budgets
pub record CanServe (budget place : ℕ) (rs : List Record) : Type 0 where
  pub front : All (λ r. r.done ≡ 0) (take place rs)
  pub back : All (λ r. r.done ≡ 0) (drop (place + 1) rs)
  pub unfinished : (record_at rs place).done < (record_at rs place).weight
  pub short : (record_at rs place).weight < 4294967296
  pub affordable : is_unstarted (record_at rs place) ≡ true
      → All (λ r. r.passed + (record_at rs place).weight ≤ budget) (take place rs)

pub can_serve : {room budget longest place : ℕ}
    {rs : List Record} {ds : List Drive} {begun : Option Name} {serving : Bool} (k : Block)
    → IsHeld room budget longest rs ds begun serving → IsServable budget rs place → CanServe budget place rs
can_serve {room} {budget} {longest} {place} {rs} {ds} {begun} {serving} k h n =
    let r = record_at rs place in
    let turn = next_turn room budget longest place rs ds begun serving k (drive_at ds rs place) h n in
    let kept = h.each place no_record n.inside in
    let P : Record → Type 0 = λ r. r.done ≡ 0 in
    record {
      front = All-from_recursion P (take place rs) turn.before;
      back = All-from_recursion P (drop (place + 1) rs) turn.behind;
      unfinished = kept.unfinished;
      short = omega (arith, kept.weight, kept.waitable.short, h.short);
      affordable = λ e. All-from_recursion (λ (z : Record). z.passed + r.weight ≤ budget) (take place rs)
          (subst (λ t. AllByRecursion (λ (z : Record). z.passed + t ≤ budget) (take place rs))
          (ap (λ b. cond b r.weight 0) e) turn.affordable);
    }

targets_served : (us : List Shape) (rs new : List Record) (place charge : ℕ) (ends : Bool)
    → place < length rs → new ≡ map (passed_by charge)
    (take place rs) ++ (cond ends [] (advanced (record_at rs place) ∷ []) ++ drop (place + 1) rs) → cond ends
    (take place (targets_of us rs) ++ drop (place + 1) (targets_of us rs)) (targets_of us rs) ≡ targets_of us new
targets_served us rs new place charge ends h6 h7 = search (arith, targets_kept, map-append, map_map, take-map, drop-map)

serving_served : (rs new : List Record) (place charge : ℕ) (ends : Bool) → place < length rs → new
    ≡ map (passed_by charge) (take place rs) ++ (cond ends [] (advanced (record_at rs place) ∷ []) ++ drop (place + 1)
    rs) → (k : ℕ) → place_served ends place ≡ Some k → (k < length new) × (is_in_service (record_at new k) ≡ true)
serving_served rs new place charge ends h5 h6 k h8 =
    grind (arith, false≢true, length-map, length-take-le, length-append, get_or_at, lt-ltb)

pub ready_step : {room longest place : ℕ} {w new : Waiters} {ds ds' : List Drive}
    {begun serving serving' : Option ℕ} {k : Block} {ends : Bool} → IsReady room longest w ds begun serving
    → IsServable w.budget w.waiting place → StepMade k place w.waiting new.waiting ds ds' ends
    → new.budget ≡ w.budget → new.targets ≡ cond ends (take place w.targets ++ drop (place + 1) w.targets) w.targets
    → serving' ≡ place_served ends place → IsReady room longest new ds' None serving'
ready_step {room} {longest} {place} {w} {new} {ds} {ds'} {begun} {serving} {serving'} {k} {ends} q n m b a s =
    let rs = w.waiting in
    let charge = step_charge (record_at rs place) in
    subst (λ (o : Option ℕ). IsReady room longest new ds' None o) (sym s) (record {
      held = subst (λ b. IsHeld room b longest new.waiting ds' None (is_some (place_served ends place))) (sym b)
          (subst (λ s. IsHeld room w.budget longest new.waiting ds' None s) (served_if ends) (held_step m q.held n));
      targeted = a ∙ ((λ i. cond ends (take place (q.targeted i) ++ drop (place + 1) (q.targeted i)) (q.targeted i))
          ∙ (targets_served (units_of ds) rs new.waiting place charge ends n.inside m.records
          ∙ ap (λ us. targets_of us new.waiting) (sym (units_step m q.held.units))));
      order = passed_left rs new.waiting place charge ends n.inside m.records q.order;
      served = serving_served rs new.waiting place charge ends n.inside m.records;
      waits = λ k e. absurd (false≢true (ap is_some e));
    })
  where
    served_if : (ends : Bool) → not ends ≡ is_some (place_served ends place)
    served_if h1 = grind arith

-- what a step leaves of those that wait
pub left_is : (k : Block) (place : ℕ) (rs : List Record) (d : Drive) (ends : Bool) → ends
    ≡ is_some (end_given k d (record_at rs place)) → map (passed_by (step_charge (record_at rs place))) (take place rs)
    ++ (cond ends [] (advanced (record_at rs place) ∷ []) ++ drop (place + 1) rs) ≡ waiting_after k d rs place
left_is k place rs d ends e = search arith
