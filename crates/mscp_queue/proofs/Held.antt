-- What is true of each queue stays true.
use Rattle.mscp_queue.proofs.Common.{◌≡◌, ◌≢◌, ◌⊎◌, ⊎_elim, ℕ, ◌+◌, ◌*◌, ◌<◌, ◌≤◌, Bool, true, false, cond, ◌||◌, List, [], ◌∷◌, ◌++◌, map, length, refl, ap, sym, ◌∙◌, subst, arith, All, filter, nat_lt, is_some, Option, None, AllByRecursion, list_any, refill, length-append, length-map, map-append, All-from_recursion, All-nil, filter-append, recursion_from_All, ltb-false, lt-ltb, false≢true, true≢false, Command, Order, Shape, IsUnitList, Drive, Connection, IsOnUnit, fresh_drive, has_number, replaced, AreApart, IsHeld, IsKept, IsWaitable, names, units_of, Name, name_on, order_weight, Record, advanced, fresh_record, has_name, is_in_service, name_of, passed_by}
use Rattle.mscp_queue.proofs.Named.{differ_is}
use Rattle.mscp_queue.proofs.Lists.{every_append, every_parts}
use Rattle.mscp_queue.proofs.Mapped.{refilled}
use Rattle.mscp_queue.proofs.Placed.{map_map}
use Rattle.mscp_queue.proofs.Begun.{still_pushed}

-- ---- nothing came
units_fresh : (us : List Shape) → units_of (map fresh_drive us) ≡ us
units_fresh [] = refl
units_fresh (u ∷ us) = ap (λ vs. u ∷ vs) (units_fresh us)

heads_fresh : (us : List Shape) → AllByRecursion IsOnUnit (map fresh_drive us)
heads_fresh [] = tt
heads_fresh (u ∷ us) = (omega arith, heads_fresh us)

pub held_fresh : (room budget longest : ℕ) (us : List Shape) (rs : List Record) (ds : List Drive)
    → 1 ≤ room → room ≤ 63 → 1 ≤ longest → longest ≤ 8388608 → room * longest + budget ≤ 4294967295
    → IsUnitList us → rs ≡ [] → ds ≡ map fresh_drive us → IsHeld room budget longest rs ds None false
held_fresh room budget longest us rs ds a b c d e u n f = record {
  some_room = a;
  few = b;
  some_blocks = c;
  short = d;
  small = omega arith;
  fits = omega (arith, ap length n);
  each = search (arith, All-nil);
  apart = subst (λ rs. AreApart (names rs)) (sym n) tt;
  one = subst (λ rs. length (filter is_in_service rs) ≤ 1) (sym n) (omega arith);
  idle = λ e. subst (All (λ r. r.done ≡ 0)) (sym n) (All-nil (λ (r : Record). r.done ≡ 0));
  units = subst IsUnitList (sym (ap units_of f ∙ units_fresh us)) u;
  heads = subst (All IsOnUnit) (sym f) (All-from_recursion IsOnUnit (map fresh_drive us) (heads_fresh us));
  still = λ name k. absurd (false≢true (ap is_some k));
}

-- ---- a reset
-- the drives are as new
pub renewed : (ds ws : List Drive) → ws ≡ map (λ d. fresh_drive d.unit) ds
    → refill (length ds) ds ws ≡ map fresh_drive (units_of ds)
renewed ds ws e = search (arith, refilled, length-map, map_map)

pub held_renewed : (room budget longest : ℕ) (rs new : List Record)
    (ds ds' : List Drive) (begun : Option Name) (serving : Bool) → IsHeld room budget longest rs ds begun serving
    → new ≡ [] → ds' ≡ map fresh_drive (units_of ds) → IsHeld room budget longest new ds' None false
held_renewed room budget longest rs new ds ds' begun serving h n e = search (
  arith,
  held_fresh
      room budget longest (units_of ds) new ds' h.some_room h.few h.some_blocks h.short (omega arith) h.units n e,
)

-- ---- a command comes
-- each order takes a step
pub some_steps : (o : Order) → 1 ≤ order_weight o
some_steps o = grind arith

fresh_kept : (budget longest : ℕ) (us : List Shape) (by : Connection) (c : Command) → IsWaitable longest us c
    → IsKept budget longest us (fresh_record by c)
fresh_kept budget longest us by c w = search (arith, some_steps c.order)

apart_more : (xs : List Name) (x : Name) → AreApart xs → AllByRecursion (λ y. x ≢ y) xs → AreApart (xs ++ x ∷ [])
apart_more [] x a n = (tt, tt)
apart_more (y ∷ ys) x a n = (every_append (λ z. z ≢ y) ys (x ∷ []) a.0 (n.0, tt), apart_more ys x a.1 n.1)

or_parts : (a b : Bool) → (a || b) ≡ false → (a ≡ false) × (b ≡ false)
or_parts a b h2 = grind (arith, true≢false)

none_has : (gone : Name) (rs : List Record) → list_any (has_name gone) rs ≡ false
    → AllByRecursion (λ y. gone ≢ y) (names rs)
none_has gone [] h = tt
none_has gone (r ∷ rs) h =
    let p = or_parts (has_name gone r) (list_any (has_name gone) rs) h in
    ((λ e. differ_is (name_of r) gone p.0 (sym e)), none_has gone rs p.1)

pub held_pushed : (room budget longest : ℕ) (rs new : List Record) (ds : List Drive) (begun : Option Name)
    (serving : Bool) (by : Connection) (c : Command) → IsHeld room budget longest rs ds begun serving
    → length rs < room → IsWaitable longest (units_of ds) c → list_any (has_name (name_on by c.reference)) rs ≡ false
    → new ≡ rs ++ fresh_record by c ∷ [] → IsHeld room budget longest new ds begun serving
held_pushed room budget longest rs new ds begun serving by c h l w n e =
    let K = IsKept budget longest (units_of ds) in
    let r = fresh_record by c in
    let kept : All K (rs ++ r ∷ []) =
    All-from_recursion K (rs ++ r ∷ []) (every_append K rs (r ∷ []) (recursion_from_All K rs h.each)
    (fresh_kept budget longest (units_of ds) by c w, tt)) in
    let numbers : names (rs ++ r ∷ []) ≡ names rs ++ name_of r ∷ [] = grind (arith, map-append) in
    let served : filter is_in_service (rs ++ r ∷ []) ≡ filter is_in_service rs ++ [] = grind (arith, filter-append) in
    let all : IsHeld room budget longest (rs ++ r ∷ []) ds begun serving =
    record {
      some_room = h.some_room;
      few = h.few;
      some_blocks = h.some_blocks;
      short = h.short;
      small = h.small;
      fits = omega (arith, length-append rs (r ∷ []));
      each = kept;
      apart = subst AreApart (sym numbers) (apart_more (names rs) (name_of r) h.apart (none_has (name_of r) rs n));
      one = let o = h.one in omega (arith, ap length served, length-append (filter is_in_service rs) []);
      idle = λ e. All-from_recursion (λ z. z.done ≡ 0) (rs ++ r ∷ [])
          (every_append (λ z. z.done ≡ 0) rs (r ∷ []) (recursion_from_All (λ z. z.done ≡ 0) rs (h.idle e)) (refl, tt));
      units = h.units;
      heads = h.heads;
      still = λ name k. still_pushed budget rs name r refl (h.still name k);
    } in
    subst (λ zs. IsHeld room budget longest zs ds begun serving) (sym e) all

-- ---- a step
kept_passed : (budget longest n : ℕ) (us : List Shape) (r : Record) → IsKept budget longest us r
    → r.passed + n ≤ budget → IsKept budget longest us (passed_by n r)
kept_passed budget longest n us r h l = search arith

front_kept : (budget longest n : ℕ) (us : List Shape) (A : List Record) → AllByRecursion (IsKept budget longest us) A
    → AllByRecursion (λ r. r.passed + n ≤ budget) A → AllByRecursion (IsKept budget longest us) (map (passed_by n) A)
front_kept budget longest n us [] h l = tt
front_kept budget longest n us (r ∷ rs) h l = grind (arith, kept_passed, front_kept budget longest n us rs h.1 l.1)

kept_advanced : (budget longest : ℕ) (us : List Shape) (r : Record) → IsKept budget longest us r
    → r.done + 1 < r.weight → IsKept budget longest us (advanced r)
kept_advanced budget longest us r h l = search arith

names_passed : (n : ℕ) (A : List Record) → names (map (passed_by n) A) ≡ names A
names_passed n [] = refl
names_passed n (r ∷ rs) = ap (λ xs. name_of r ∷ xs) (names_passed n rs)

apart_without : (xs : List Name) (x : Name) (ys : List Name) → AreApart (xs ++ x ∷ ys) → AreApart (xs ++ ys)
apart_without [] x ys h = h.1
apart_without (z ∷ zs) x ys h =
    let p = every_parts (λ y. y ≢ z) zs (x ∷ ys) h.0 in
    (every_append (λ y. y ≢ z) zs ys p.0 p.1.1, apart_without zs x ys h.1)

-- what a step leaves of a record: nothing, or the record with one step more
pub record IsLeft (r : Record) (own : List Record) : Type 0 where
  pub left : (own ≡ []) ⊎ ((own ≡ advanced r ∷ []) × (r.done + 1 < r.weight))

-- nobody of them is in service
abbrev pub AreIdle : List Record → Type 0
AreIdle rs = AllByRecursion (λ z. z.done ≡ 0) rs

idle_none : (rs : List Record) → AreIdle rs → length (filter is_in_service rs) ≡ 0
idle_none [] h = refl
idle_none (r ∷ rs) h = search (arith, idle_none rs h.1)

none_idle : (rs : List Record) → length (filter is_in_service rs) ≡ 0 → AreIdle rs
none_idle [] h = tt
none_idle (r ∷ rs) h =
    let both : (b : Bool) → nat_lt 0 r.done ≡ b → length
    (cond b (r ∷ filter is_in_service rs) (filter is_in_service rs)) ≡ 0 → AreIdle (r ∷ rs) =
    λ b. elim b as (λ b. nat_lt 0 r.done ≡ b → length (cond b (r ∷ filter is_in_service rs) (filter is_in_service rs))
    ≡ 0 → AreIdle (r ∷ rs)) [
      | true ↦ λ e l. absurd (omega (arith, l))
      | false ↦ λ e l. let z = ltb-false 0 r.done e in (omega arith, none_idle rs l)
    ] in
    both (nat_lt 0 r.done) refl h

pub passed_idle : (n : ℕ) (A : List Record) → AreIdle A → AreIdle (map (passed_by n) A)
passed_idle n [] h = tt
passed_idle n (r ∷ rs) h = (h.0, passed_idle n rs h.1)

-- the others are idle where one is in service
pub others_idle : (A : List Record) (r : Record) (B : List Record) → length (filter is_in_service (A ++ r ∷ B)) ≤ 1
    → 0 < r.done → AreIdle A × AreIdle B
others_idle A r B one l = grind (arith, lt-ltb, filter-append, length-append, none_idle)

own_one : (r : Record) (own : List Record) → IsLeft r own → length own ≤ 1
own_one r own h = ⊎_elim (λ e. omega (arith, ap length e)) (λ e. omega (arith, ap length e.0)) h.left

own_serving : (own : List Record) → length own ≤ 1 → length (filter is_in_service own) ≤ 1
own_serving (r ∷ []) h = grind arith
own_serving own h1 = grind arith

apart_left : (r : Record) (own : List Record) (A B : List Record) → IsLeft r own
    → AreApart (names A ++ (name_of r ∷ names B)) → AreApart (names A ++ (names own ++ names B))
apart_left r own A B h a = search (arith, apart_without (names A) (name_of r) (names B) a, ⊎_elim)

kept_left : (budget longest : ℕ) (us : List Shape) (r : Record) (own : List Record) → IsLeft r own
    → IsKept budget longest us r → AllByRecursion (IsKept budget longest us) own
kept_left budget longest us r own h k = search (arith, ⊎_elim, kept_advanced)

-- what holds of a record among others
pub record IsTurn (budget n : ℕ) (A : List Record) (r : Record) (B own : List Record) : Type 0 where
  pub before : AreIdle A
  pub behind : AreIdle B
  pub affordable : AllByRecursion (λ z. z.passed + n ≤ budget) A
  pub left : IsLeft r own

pub held_turn : (room budget longest n : ℕ) (A : List Record) (r : Record) (B own : List Record) (ds ds' : List Drive)
    (begun : Option Name) (serving serves : Bool) → IsHeld room budget longest (A ++ r ∷ B) ds begun serving
    → IsTurn budget n A r B own → (serves ≡ false → own ≡ []) → units_of ds' ≡ units_of ds
    → All IsOnUnit ds' → IsHeld room budget longest (map (passed_by n) A ++ (own ++ B)) ds' None serves
held_turn room budget longest n A r B own ds ds' begun serving serves h t ended u heads =
    let K = IsKept budget longest (units_of ds) in
    let new = map (passed_by n) A ++ (own ++ B) in
    let parts = every_parts K A (r ∷ B) (recursion_from_All K (A ++ r ∷ B) h.each) in
    let kept : AllByRecursion K new = grind (arith, every_append, front_kept, kept_left) in
    let old_numbers : names (A ++ r ∷ B) ≡ names A ++ (name_of r ∷ names B) = map-append name_of A (r ∷ B) in
    let numbers : names new ≡ names A ++ (names own ++ names B) = grind (arith, map-append, names_passed) in
    search (
      arith,
      K,
      new,
      kept,
      old_numbers,
      numbers,
      own_one r own t.left,
      filter-append is_in_service (map (passed_by n) A) (own ++ B),
      filter-append is_in_service own B,
      idle_none (map (passed_by n) A) (passed_idle n A t.before),
      idle_none B t.behind,
      length-append,
      length-map,
      All-from_recursion,
      apart_left,
      own_serving,
      every_append,
      passed_idle,
      false≢true,
    )

-- ---- the drives
pub units_replaced : (number : ℕ) (new : Drive) (ds : List Drive) → AllByRecursion (λ d. has_number number d
    ≡ true → d.unit ≡ new.unit) ds → units_of (replaced number new ds) ≡ units_of ds
units_replaced number new [] h = refl
units_replaced number new (d ∷ ds) h = search (arith, units_replaced number new ds h.1)

pub heads_replaced : (number : ℕ) (new : Drive) (ds : List Drive) → IsOnUnit new → AllByRecursion IsOnUnit ds
    → AllByRecursion IsOnUnit (replaced number new ds)
heads_replaced number new [] o h = tt
heads_replaced number new (d ∷ ds) o h = search (arith, heads_replaced number new ds o h.1)
