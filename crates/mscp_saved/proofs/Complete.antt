-- What is sound passes each test.
use Rattle.mscp_saved.proofs.Common.{All, ◌≡◌, ◌≢◌, ℕ, zero, suc, ◌+◌, ◌<◌, ◌≤◌, Bool, true, false, ◌&&◌, List, [], ◌∷◌, get_or, length, refl, subst, arith, ◌⊎◌, ◌==◌, filter, nat_eq, nat_le, nat_lt, not, unwrap_or, Option, Some, None, is_none, is_some, AllByRecursion, list_all, and_from, eq-eqb, false≢true, le-leb, le-ltb, lt-leb, lt-ltb, ne_eqb, not_from_false, or_left, or_right, recursion_from_All, Order, End, IsOfKind, weight, Shape, one_block, Drive, Connection, First, Second, Name, IsOnUnit, AreApart, ArePassedInOrder, IsStillServable, IsWaitable, names, Record, has_name, is_in_service, is_unstarted, name_of, record_at, IsServable, is_open_at, is_differ, same_is, name_found, is_queued, move_fault, unit_fault, Holdings, waiting_on, IsCovered, IsSound, IsValid, Settings, credits_of, limit_fault, room_of, are_apart, are_ends, are_on_units, are_passed, is_covered, may_be_begun, may_serve, parts_fault, settings_fault}
use Rattle.mscp_saved.proofs.Rising.{test_of_units}
use Rattle.mscp_saved.proofs.Sound.{Passes}

-- ---- settings
no_second : (n : ℕ) → (n ≡ 0) ⊎ (2 ≤ n) → (n == 1) ≡ false
no_second n h = ne_eqb n 1 (λ e. omega (arith, h, e))

limits_pass : (c : Settings) → IsValid c → is_some (limit_fault c) ≡ false
limits_pass c v = search (arith, le-ltb, no_second, lt-leb)

pub settings_pass : (c : Settings) → IsValid c → settings_fault c ≡ None
settings_pass c v = search (arith, test_of_units, limits_pass)

-- ---- each test
each_passes : {X : Type 0} (p : X → Bool) (P : X → Type 0) → ((x : X) → P x → p x ≡ true) → (xs : List X)
    → AllByRecursion P xs → list_all p xs ≡ true
each_passes p P f [] h = refl
each_passes p P f (x ∷ xs) h = and_from (p x) (list_all p xs) (f x h.0) (each_passes p P f xs h.1)

heads_pass : (ds : List Drive) → All IsOnUnit ds → are_on_units ds ≡ true
heads_pass ds h = search (arith, recursion_from_All IsOnUnit ds h, each_passes, le-leb)

covered_passes : (c : Settings) (rs : List Record) (via : Connection) (ends : List End)
    → IsCovered c rs via ends → is_covered c rs via ends ≡ true
covered_passes c rs via ends h = and_from (nat_le (length (waiting_on via rs) + length ends) (credits_of c via))
    (nat_le (length (waiting_on via rs)) (room_of c via)) (le-leb (length (waiting_on via rs) + length ends)
    (credits_of c via) h.covered) (le-leb (length (waiting_on via rs)) (room_of c via) h.fits)

known_unit : (o : Option Shape) → is_some o ≡ true → is_none (unit_fault o) ≡ true
known_unit o h1 = grind (arith, false≢true)

known_move : (c : Settings) (count block : ℕ) (o : Option Shape) → is_some o ≡ true → block + weight
    count ≤ (unwrap_or o one_block).size → weight count ≤ c.longest → is_none (move_fault c count block o) ≡ true
known_move c count block o h4 h5 h6 = grind (arith, false≢true, lt-leb, le-ltb)

waitable_queued : (c : Settings) (n u : ℕ) (o : Order) → IsWaitable c.longest c.units
    (record { reference = n; unit = u; order = o }) → is_queued c (record { reference = n; unit = u; order = o }) ≡ true
waitable_queued c n u o h4 = grind (arith, known_move, known_unit, false≢true)

apart_passes : (rs : List Record) → AreApart (names rs) → are_apart rs ≡ true
apart_passes [] h = refl
apart_passes (r ∷ rs) h =
    and_from (list_all (λ z. not (has_name (name_of r) z)) rs) (are_apart rs) (others rs h.0) (apart_passes rs h.1)
  where
    others : (zs : List Record) → AllByRecursion (λ y. y ≢ name_of r) (names zs)
        → list_all (λ z. not (has_name (name_of r) z)) zs ≡ true
    others [] h = refl
    others (z ∷ zs) h =
        and_from (not (has_name (name_of r) z)) (list_all (λ z. not (has_name (name_of r) z)) zs)
        (not_from_false (has_name (name_of r) z) (is_differ (name_of z) (name_of r) h.0)) (others zs h.1)

passed_pass : (most : ℕ) (rs : List Record)
    → AllByRecursion (λ r. r.passed ≤ most) rs → ArePassedInOrder rs → are_passed most rs ≡ true
passed_pass most [] few order = refl
passed_pass most (r ∷ rs) few order = and_from (nat_le r.passed most)
    (are_passed r.passed rs) (le-leb r.passed most few.0) (passed_pass r.passed rs order.0 order.1)

some_code : (e : End) → IsOfKind e → not (nat_eq e.code 0) ≡ true
some_code e k = search (arith, not_from_false, ne_eqb)

ends_pass : (ends : List End) → All IsOfKind ends → are_ends ends ≡ true
ends_pass ends h =
    each_passes (λ (e : End). not (nat_eq e.code 0)) IsOfKind some_code ends (recursion_from_All IsOfKind ends h)

serves : (budget : ℕ) (rs : List Record) (place : ℕ) → IsServable budget rs place → may_serve budget rs place ≡ true
serves budget rs place h = by (record_at rs place).done refl
  where
    by : (n : ℕ) → (record_at rs place).done ≡ n → may_serve budget rs place ≡ true
    by zero e =
        let unstarted : is_unstarted (record_at rs place) ≡ true = eq-eqb (record_at rs place).done 0 e in
        let zeros = each_passes is_unstarted (λ (r : Record). r.done ≡ 0) (λ r. eq-eqb r.done 0) rs
        (recursion_from_All (λ (r : Record). r.done ≡ 0) rs (h.idle unstarted)) in
        or_right (is_in_service (record_at rs place)) (list_all is_unstarted rs && is_open_at budget rs place)
        (and_from (list_all is_unstarted rs) (is_open_at budget rs place) zeros (h.opens unstarted))
    by (suc n) e =
        or_left (is_in_service (record_at rs place)) (list_all is_unstarted rs && is_open_at budget rs place)
        (lt-ltb 0 (record_at rs place).done (omega (arith, e)))

begun_passes : (budget : ℕ) (rs : List Record) (begun : Option Name) → AreApart (names rs)
    → ((name : Name) → begun ≡ Some name → IsStillServable budget rs name) → may_be_begun budget rs begun ≡ true
begun_passes budget rs begun h3 h4 = grind (arith, name_found, same_is, serves)

-- ---- all
module _ {K : Type 0} (h : Holdings K) (s : IsSound h) where
  passes_all : Passes h.settings h.drives h.waiting h.untaken.first h.untaken.second h.begun
  passes_all =
      let c = h.settings in
      let rs = h.waiting in
      let q = s.queue in
      let each : All (λ r. IsWaitable c.longest c.units r.command) rs =
      λ k d l. subst (λ us. IsWaitable c.longest us (get_or rs k d).command) s.units (q.each k d l).waitable in
      let left : All (λ r. r.done < r.weight) rs = λ k d l. (q.each k d l).unfinished in
      let few : All (λ r. r.passed ≤ c.budget) rs = λ k d l. (q.each k d l).passed in
      record {
        heads = heads_pass h.drives q.heads;
        first_covered = covered_passes c rs First h.untaken.first s.first;
        second_covered = covered_passes c rs Second h.untaken.second s.second;
        queued = each_passes (λ (r : Record). is_queued c r.command) (λ r. IsWaitable c.longest c.units r.command)
            (λ r. waitable_queued c r.command.reference r.command.unit r.command.order)
            rs (recursion_from_All (λ (r : Record). IsWaitable c.longest c.units r.command) rs each);
        apart = apart_passes rs q.apart;
        unfinished = and_from (list_all (λ (r : Record). nat_lt r.done r.weight) rs)
            (nat_le (length (filter is_in_service rs)) 1) (each_passes (λ (r : Record). nat_lt r.done r.weight)
            (λ r. r.done < r.weight) (λ r. lt-ltb r.done r.weight) rs (recursion_from_All (λ (r : Record). r.done
            < r.weight) rs left)) (le-leb (length (filter is_in_service rs)) 1 q.one);
        passed = passed_pass c.budget rs (recursion_from_All (λ (r : Record). r.passed ≤ c.budget) rs few) s.order;
        first_ends = ends_pass h.untaken.first s.first.shaped;
        second_ends = ends_pass h.untaken.second s.second.shaped;
        servable = begun_passes c.budget rs h.begun q.apart q.still;
      }

  pub parts_pass : parts_fault h.settings h.drives h.waiting h.untaken.first h.untaken.second h.begun ≡ None
  parts_pass = search (arith, passes_all)
