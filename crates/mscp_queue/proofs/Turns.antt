-- A step of the record that may be served next is a turn among the others, and leaves each head on its unit.
use Rattle.mscp_queue.proofs.Common.{◌≡◌, ℕ, suc, ◌+◌, ◌<◌, ◌≤◌, Bool, true, false, cond, not, ◌&&◌, List, [], ◌∷◌, ◌++◌, map, take, drop, length, refl, ap, sym, ◌∙◌, subst, arith, append_assoc, filter, nat_eq, is_some, slice_index_or, unwrap_or, Option, Some, None, AllByRecursion, All-from_recursion, recursion_from_All, and_parts, eq-eqb, eqb-false, eqb-true, leb-true, ltb-true, ne_eqb, false≢true, true≢false, Order, End, Shape, one_block, IsUnitList, NumbersRise, unit_found, Block, Drive, Name, first_block, is_move, order_weight, IsOnUnit, drive_of, has_number, replaced, IsHeld, IsInside, IsKept, units_of, Record, advanced, drive_at, step_charge, is_in_service, is_unstarted, no_record, passed_by, record_at, IsServable, drive_after, end_given, touched, is_affordable, is_free, is_open_at, Pairs}
use Rattle.mscp_queue.proofs.Lists.{every_mapped, every_of, every_parts, every_weaker, pairs_middle}
use Rattle.mscp_queue.proofs.Placed.{cut_at, find_first}
use Rattle.mscp_queue.proofs.Held.{AreIdle, IsLeft, IsTurn, held_turn, heads_replaced, others_idle, units_replaced}

-- each of those in front keeps within the budget at a start that may be picked
front_affordable : (budget : ℕ) (rs : List Record) (place : ℕ) → is_open_at budget rs place ≡ true
    → AllByRecursion (λ z. z.passed + (record_at rs place).weight ≤ budget) (take place rs)
front_affordable budget rs place h =
    let r = record_at rs place in
    let p = and_parts (is_free r (take place rs)) (is_affordable budget r (take place rs)) h in
    search (arith, p, every_weaker, leb-true, every_of)

-- ---- the turn
last_of : (a b c : Bool) → (a && b && c) ≡ true → c ≡ true
last_of a b c h3 = grind (arith, false≢true)

more_left : (k : Block) (d : Drive) (r : Record) (e : Option End) → end_given k d r ≡ e
    → IsLeft r (cond (is_some e) [] (advanced r ∷ []))
more_left k d r e h4 = grind (arith, true≢false, ltb-true, last_of)

pub next_turn : (room budget longest place : ℕ) (rs : List Record) (ds : List Drive)
    (begun : Option Name) (serving : Bool) (k : Block) (d : Drive) → IsHeld room budget longest rs ds begun serving
    → IsServable budget rs place → IsTurn budget (step_charge (record_at rs place)) (take place rs) (record_at rs place)
    (drop (place + 1) rs) (cond (is_some (end_given k d (record_at rs place))) [] (advanced (record_at rs place) ∷ []))
next_turn room budget longest place rs ds begun serving k d h n =
    let r = record_at rs place in
    let A = take place rs in
    let B = drop (place + 1) rs in
    let cut = cut_at no_record rs place n.inside in
    let left = more_left k d r (end_given k d r) refl in
    let own = cond (is_some (end_given k d r)) [] (advanced r ∷ []) in
    let kept = (every_parts (IsKept budget longest (units_of ds)) A (r ∷ B)
    (subst (AllByRecursion (IsKept budget longest (units_of ds))) cut
    (recursion_from_All (IsKept budget longest (units_of ds)) rs h.each))).0 in
    let both : (b : Bool) → is_unstarted r ≡ b → IsTurn budget (cond b r.weight 0) A r B own =
    λ b. elim b as (λ b. is_unstarted r ≡ b → IsTurn budget (cond b r.weight 0) A r B own) [
      | true ↦ λ e.
          let idle = every_parts (λ z. z.done ≡ 0) A (r ∷ B)
          (subst AreIdle cut (recursion_from_All (λ z. z.done ≡ 0) rs (n.idle e))) in
          record {
            before = idle.0;
            behind = idle.1.1;
            affordable = grind (arith, front_affordable);
            left = left;
          }
      | false ↦ λ e.
          let some = eqb-false r.done 0 e in
          let one = h.one in
          let idle = others_idle A r B (subst (λ zs. length (filter is_in_service zs) ≤ 1) cut one) (omega arith) in
          record {
            before = idle.0;
            behind = idle.1;
            affordable = grind (arith, every_weaker);
            left = left;
          }
    ] in
    both (is_unstarted r) refl

-- ---- its drive
-- the unit has the lower number
abbrev pub Lower : Shape → Shape → Type 0
Lower a b = a.number < b.number

pub pairs_rise : (us : List Shape) → NumbersRise us → Pairs Lower us
pairs_rise (s ∷ x ∷ xs) r =
    let more : (i : ℕ) → suc i + 1 ≡ suc (i + 1) = λ i. omega arith in
    let rest = pairs_rise (x ∷ xs) (λ i other h. subst (λ j. (slice_index_or (x ∷ xs) i other).number
    < (slice_index_or (s ∷ x ∷ xs) j other).number) (more i) (r (suc i) other (omega (arith, h)))) in
    let first : s.number < x.number = r 0 s (omega arith) in
    ((first, every_weaker (Lower x) (Lower s) (λ y h. omega (arith, first, h)) xs rest.0), rest)
pairs_rise us h1 = grind arith

found_among : (A B : List Shape) → Pairs Lower (A ++ B) → AllByRecursion (λ s. unit_found (A ++ B) s.number ≡ Some s) B
found_among A [] p = tt
found_among A (s ∷ B) p =
    let more = append_assoc A (s ∷ []) B in (
      find_first (λ (x : Shape). nat_eq x.number s.number)
          A s B (every_weaker (λ x. Lower x s) (λ x. nat_eq x.number s.number ≡ false) (λ x h. ne_eqb x.number s.number
          (λ e. absurd (omega (arith, h, e)))) A (pairs_middle Lower A s B p).0) (eq-eqb s.number s.number refl),
      subst (λ l. AllByRecursion (λ (x : Shape). unit_found l x.number ≡ Some x) B)
          more (found_among (A ++ s ∷ []) B (subst (Pairs Lower) (sym more) p)),
    )

-- each unit of a list of units is found by its number
pub units_found : (us : List Shape) → IsUnitList us → AllByRecursion (λ s. unit_found us s.number ≡ Some s) us
units_found us l = found_among [] us (pairs_rise us l.rising)

-- the unit of the drive that is found
pub found_unit : (n : ℕ) (ds : List Drive) → unwrap_or (unit_found (units_of ds) n) one_block ≡ (drive_of ds n).unit
found_unit n [] = refl
found_unit n (d ∷ ds) = search (arith, found_unit n ds)

-- a drive of the number has the unit of the drive that is found
pub units_same : (n : ℕ) (ds : List Drive)
    → IsUnitList (units_of ds) → AllByRecursion (λ d. has_number n d ≡ true → d.unit ≡ (drive_of ds n).unit) ds
units_same n ds l =
    let us = units_of ds in
    every_weaker (λ d. unit_found us d.unit.number ≡ Some d.unit)
    (λ d. has_number n d ≡ true → d.unit ≡ (drive_of ds n).unit)
    (λ d f e. ap (λ o. unwrap_or o one_block) (sym f ∙ ap (unit_found us) (eqb-true d.unit.number n e)) ∙ found_unit
    n ds) ds (every_mapped (λ (d : Drive). d.unit) (λ s. unit_found us s.number ≡ Some s) ds (units_found us l))

-- ---- its block
some_is : {X : Type 0} (x y : X) → Some x ≡ Some y → x ≡ y
some_is x y e = ap (λ o. unwrap_or o x) e

pub inside_of : (us : List Shape) (n : ℕ) (o : Order) → is_move o ≡ true → IsInside us n o
    → first_block o + order_weight o ≤ (unwrap_or (unit_found us n) one_block).size
inside_of us n o h3 h4 = grind (arith, false≢true)

-- a block that is touched is one of the unit
pub touched_inside : (budget longest : ℕ) (ds : List Drive) (r : Record) (d : Drive) → d ≡ drive_of ds r.command.unit
    → IsKept budget longest (units_of ds) r → (lbn : ℕ) → touched d r ≡ Some lbn → lbn < d.unit.size
touched_inside budget longest ds r d e k lbn h = search (arith, found_unit, and_parts, inside_of, some_is, false≢true)

-- ---- the whole step
ended_if : (b : Bool) → not b ≡ false → b ≡ true
ended_if b h1 = grind (arith, true≢false)

-- a step of the record at a place, with the drive of its unit after it: what it makes of records and drives
pub record StepMade (k : Block) (place : ℕ) (rs new : List Record) (ds ds' : List Drive) (ends : Bool) : Type 0 where
  pub d' : Drive
  pub after : d' ≡ drive_after k (drive_at ds rs place) (record_at rs place)
  pub on : IsOnUnit d'
  pub ended : ends ≡ is_some (end_given k (drive_at ds rs place) (record_at rs place))
  pub records : new ≡ map (passed_by (step_charge (record_at rs place))) (take place rs)
      ++ (cond ends [] (advanced (record_at rs place) ∷ []) ++ drop (place + 1) rs)
  pub drives : ds' ≡ replaced (record_at rs place).command.unit d' ds

module _ {k : Block} {place : ℕ}
    {rs new : List Record} {ds ds' : List Drive} {ends : Bool} (m : StepMade k place rs new ds ds' ends) where
  -- each drive of its number has its unit
  own_unit : IsUnitList (units_of ds)
      → AllByRecursion (λ q. has_number (record_at rs place).command.unit q ≡ true → q.unit ≡ m.d'.unit) ds
  own_unit l = grind (arith, every_weaker, units_same)

  -- a step changes no unit
  pub units_step : IsUnitList (units_of ds) → units_of ds' ≡ units_of ds
  units_step l = ap units_of m.drives ∙ units_replaced (record_at rs place).command.unit m.d' ds (own_unit l)

  pub held_step : {room budget longest : ℕ} {begun : Option Name} {serving : Bool} → IsHeld room budget
      longest rs ds begun serving → IsServable budget rs place → IsHeld room budget longest new ds' None (not ends)
  held_step {room} {budget} {longest} {begun} {serving} h n =
      let r = record_at rs place in
      let d = drive_at ds rs place in
      let turn = subst (λ b. IsTurn budget (step_charge r) (take place rs) r (drop (place + 1) rs)
      (cond b [] (advanced r ∷ []))) (sym m.ended) (next_turn room budget longest place rs ds begun serving k d h n) in
      let ended : not ends ≡ false
      → cond ends [] (advanced r ∷ []) ≡ [] = λ e. ap (λ b. cond b [] (advanced r ∷ [])) (ended_if ends e) in
      subst (λ zs. IsHeld room budget longest new zs None (not ends)) (sym m.drives) (subst (λ zs. IsHeld
      room budget longest zs (replaced r.command.unit m.d' ds) None (not ends)) (sym m.records) (held_turn room
      budget longest (step_charge r) (take place rs) r (drop (place + 1) rs) (cond ends [] (advanced r ∷ []))
      ds (replaced r.command.unit m.d' ds) begun serving (not ends) (subst (λ zs. IsHeld room budget
      longest zs ds begun serving) (cut_at no_record rs place n.inside) h) turn ended (units_replaced r.command.unit
      m.d' ds (own_unit h.units)) (All-from_recursion IsOnUnit (replaced r.command.unit m.d' ds)
      (heads_replaced r.command.unit m.d' ds m.on (recursion_from_All IsOnUnit ds h.heads)))))

head_found : (n : ℕ) (ds : List Drive) → AllByRecursion IsOnUnit ds → IsOnUnit (drive_of ds n)
head_found n [] h = omega arith
head_found n (d ∷ ds) h = search (arith, head_found n ds h.1)

-- the drive that is found has its head on its unit
pub head_kept : (room budget longest n : ℕ) (rs : List Record) (ds : List Drive) (begun : Option Name) (serving : Bool)
    → IsHeld room budget longest rs ds begun serving → IsOnUnit (drive_of ds n)
head_kept room budget longest n rs ds begun serving h = head_found n ds (recursion_from_All IsOnUnit ds h.heads)
