-- After a legal trace an event has one right answer, if at a step it is known which command it serves.
use Rattle.mscp_judge.proofs.Common.{◌≡◌, ◌≢◌, ◌⊎◌, ⊎_elim, ℕ, ◌<◌, ◌^◌, Bool, true, false, cond, ◌||◌, [], ◌∷◌, ◌++◌, get_or, length, refl, ap, sym, ◌∙◌, subst, arith, length-append, filter, Option, Some, AllByRecursion, cases_Bool, eq-eqb, ltb-true, false≢true, get_or-map, length-map, filter-append, get_or-append_seam, Block, Choice, Name, Report, Idle, Served, name_on, choice_name, every_append, every_parts, every_weaker, is_same, same_is, Event, Entry, Settings, Service, Trace, WhenStarted, is_step, service_in, done, in_service, is_waiting, name, reference, service_name, waiting, is_startable, startable, IsPick, IsRight, IsServed, choice, view, one_waits, Known, startable_parts, Single, idle_others, cut, waits_below, IsNamed, choice_at, is_wanted}
use Rattle.mscp_drive.specs.declared.event.Event.TheVariants as events
use Rattle.mscp_controller.specs.declared.entry.Entry.TheVariants as entries

-- ---- who is served

-- beside a command that is served no other is in service
pub served_once : (c : Settings) (t : Trace) (y z : ℕ) → Single t (waiting t) → is_waiting t y ≡ true
    → is_waiting t z ≡ true → (in_service t y || is_startable c t y) ≡ true → 0 < done t z → z ≡ y
served_once c t y z s w v n d =
    let at = cut t y (waits_below t y w) w in
    let o = idle_others c t y at.0 at.1 at.2.is s n in
    let Other : ℕ → Type 0 = λ x. (done t x ≡ 0) ⊎ (x ≡ y) in
    let all : AllByRecursion Other (at.0 ++ y ∷ at.1) = search (arith, every_append, every_weaker) in
    let zat = cut t z (waits_below t z v) v in
    let own = (every_parts Other zat.0 (z ∷ zat.1) (subst (AllByRecursion Other) (sym at.2.is ∙ zat.2.is) all)).1.0 in
    ⊎_elim (λ k. absurd (omega (arith, d, k))) (λ k. k) own

-- where something may start, nothing is in service
pub idle_where : (c : Settings) (t : Trace) (y z : ℕ) → is_waiting t y ≡ true → is_startable c t z ≡ true → done t y ≡ 0
idle_where c t y z w s =
    let at = cut t y (waits_below t y w) w in
    (every_parts (λ x. done t x ≡ 0) at.0 (y ∷ at.1)
    (subst (AllByRecursion (λ x. done t x ≡ 0)) at.2.is (startable_parts c t z s).idle)).1.0

-- a command that may start has a place among those that may
startable_place : (c : Settings) (t : Trace) (y : ℕ) → is_waiting t y ≡ true → is_startable c t y ≡ true
    → (j : ℕ) × (j < length (startable c t)) × (get_or (startable c t) j 0 ≡ y)
unfolding startable
startable_place c t y w s =
    let at = cut t y (waits_below t y w) w in
    let p = is_startable c t in
    let F = filter p at.0 in
    let B = filter p at.1 in
    let e : filter p (waiting t) ≡ F ++ y ∷ B =
    ap (filter p) at.2.is ∙ (filter-append p at.0 (y ∷ at.1) ∙ ap (λ b. F ++ cond b (y ∷ B) B) s) in
    let l : length F < length (F ++ y ∷ B) = omega (arith, length-append F (y ∷ B)) in
    search (arith, get_or-append_seam F y B 0)

pub some_same : (a b : Name) → Some a ≡ Some b → a ≡ b
some_same a b e = cc

is_named : (wanted : Option Name) (o : Choice) → wanted ≡ Some (choice_name o) → is_wanted wanted o ≡ true
is_named wanted o h2 = grind (arith, is_same, some_same)

-- what is seen at a place is the command there
seen_at : (c : Settings) (t : Trace) (i : ℕ) → i < length (startable c t)
    → choice_at (view c t) i ≡ choice c t (get_or (startable c t) i 0)
seen_at c t i l = search (arith, get_or-map)

-- the command that is named is picked, if it may start; and its number has 32 bits
pub picked_one : (c : Settings) (t : Trace) (wanted : Option Name) (n : Name) (z : ℕ)
    → IsPick c (IsNamed wanted) t n → is_waiting t z ≡ true → is_startable c t z ≡ true
    → (reference t z < 2 ^ 32) × (wanted ≡ Some (name t z) → n ≡ name t z)
picked_one c t wanted n z p w s =
    let S = startable c t in
    let at = startable_place c t z w s in
    let l : at.0 < length (view c t) = subst (λ k. at.0 < k) (sym (length-map S (choice c t))) at.1 in
    let own : choice_at (view c t) at.0 ≡ choice c t z = seen_at c t at.0 at.1 ∙ ap (choice c t) at.2 in
    search (arith, seen_at, is_named, false≢true, same_is, some_same)

-- and the oldest that may start, if none that may is named
pub picked_first : (c : Settings) (t : Trace) (wanted : Option Name) (n : Name) → IsPick c (IsNamed wanted) t n
    → wanted ≢ Some n → n ≡ name t (get_or (startable c t) 0 0)
picked_first c t wanted n p differ = search (arith, seen_at c t p.0 p.1, ⊎_elim, false≢true, same_is, cases_Bool)

-- the same name is known of two services of one step
one_served : (c : Settings) (t : Trace) (k : Block) (wanted : Option Name) (s r : Service) (y z : ℕ) → Known c t
    → IsServed c t k s y → (s.started ≡ true → IsPick c (IsNamed wanted) t (service_name s)) → IsServed c t k r z
    → (r.reference < 2 ^ 32 → wanted ≡ Some (service_name r)) → y ≡ z
one_served c t k wanted s r y z known v picked u said =
    let both : (b : Bool) → in_service t z ≡ b → y ≡ z =
    λ b. elim b as (λ b. in_service t z ≡ b → y ≡ z) [
      | true ↦ λ e. sym (served_once c t y z known.steady.single v.waits u.waits v.next (ltb-true 0 (done t z) e))
      | false ↦ λ e. let starts : is_startable c t z ≡ true = ap (λ b. b || is_startable c t z) (sym e) ∙ u.next in
          let zero_done = idle_where c t y z v.waits starts in
          let p = picked (v.started ∙ eq-eqb (done t y) 0 zero_done) in
          let q = picked_one c t wanted (service_name s) z p u.waits starts in
          let own : name t z ≡ service_name r = λ i. name_on (sym u.connection i) (sym u.reference i) in
          let mine : name t y ≡ service_name s = λ i. name_on (sym v.connection i) (sym v.reference i) in
          let same = said (subst (λ n. n < 2 ^ 32) (sym u.reference) q.0) in
          one_waits t y z known.steady.apart v.waits u.waits (mine ∙ q.1 (same ∙ ap Some (sym own)))
    ] in
    both (in_service t z) refl

-- ---- a step

-- the name is that of the command that a report tells of
abbrev pub Says : Option Name → Report → Type 0
Says wanted Idle = Unit {0}
Says wanted (Served connection reference unit lbn started seek ended) =
    reference < 2 ^ 32 → wanted ≡ Some (name_on connection reference)

pub nobody_waits : (t : Trace) (y : ℕ) → waiting t ≡ [] → is_waiting t y ≡ true → ⊥
nobody_waits t y e w =
    let at = cut t y (waits_below t y w) w in
    omega (arith, length-append at.0 (y ∷ at.1), ap length (sym at.2.is ∙ e))

pub one_report : (c : Settings) (t : Trace) (k : Block) (wanted : Option Name) (p q : Report) → Known c t
    → IsRight c t (events.Step k) (entries.Stepped p)
    → WhenStarted (λ s. IsPick c (IsNamed wanted) t (service_name s)) (service_in (entries.Stepped p))
    → IsRight c t (events.Step k) (entries.Stepped q) → Says wanted q → p ≡ q
one_report c t k wanted Idle Idle known right picked other said = refl
one_report c t k wanted Idle (Served connection reference unit lbn started seek ended) known right picked other said =
    absurd (nobody_waits t other.0 right other.1.waits)
one_report c t k wanted (Served connection reference unit lbn started seek ended) Idle known right picked other said =
    absurd (nobody_waits t right.0 other right.1.waits)
one_report c t k wanted (Served a b d e f g h) (Served a' b' d' e' f' g' h') known right picked other said =
    let y = right.0 in
    let z = other.0 in
    let v = right.1 in
    let s : Service = record { connection = a; reference = b; unit = d; lbn = e; started = f; seek = g; ended = h } in
    let r : Service =
    record { connection = a'; reference = b'; unit = d'; lbn = e'; started = f'; seek = g'; ended = h' } in
    let same = one_served c t k wanted s r y z known v picked other.1 said in
    search arith

-- ---- any other event

pub one_answer : (c : Settings) (t : Trace) (event : Event) (n m : Entry) → is_step event ≡ false
    → IsRight c t event n → IsRight c t event m → n ≡ m
one_answer c t event n m h5 h6 h7 = grind (arith, false≢true)
