-- What becomes of units, of which each is good by itself.
--     rises, steps      the test tells whether the numbers rise
--     taken, refused    why they are refused, by what `Units::fault` answers
use Rattle.mscp_c.proofs.Common.{◌≡◌, ℕ, zero, suc, ◌+◌, ◌<◌, ◌≤◌, List, [], ◌∷◌, length, map, Bool, true, false, nat_lt, ◌&&◌, refl, slice_index_or, add-one, None, Option, Some, subst, sym, ◌∙◌, ◌↔◌, length-map, false_from_ne_true, false≢true, Shape, IsUnitList, NumbersRise, UnitsFault, TooMany, NotAscending, Empty, UnitIn, first_fault, numbers_rise, rises_above, unit_given, units_fault}
use native.Mathlib.Omega.{arith}
use Rattle.mscp_c.specs.declared.units.InitFault.TheVariants as faults

-- those of the rest rise too
later : (v : Shape) (us : List Shape) → NumbersRise (v ∷ us) → NumbersRise us
later v us r = λ i u l. let h = r (suc i) u (omega arith) in rw add-one (rw add-one at h)

first : (v w : Shape) (us : List Shape) → NumbersRise (v ∷ w ∷ us) → v.number < w.number
first v w us r = r 0 v (omega arith)

-- the test is right
above : (v : UnitIn) (us : List UnitIn) → NumbersRise (map unit_given (v ∷ us)) → rises_above v.number us ≡ true
above v [] r = refl
above v (w ∷ us) r =
    let f = first (unit_given v) (unit_given w) (map unit_given us) r in
    let g = above w us (later (unit_given v) (map unit_given (w ∷ us)) r) in grind arith

rises : (us : List UnitIn) → NumbersRise (map unit_given us) → numbers_rise us ≡ true
rises [] r = refl
rises (u ∷ us) r = above u us r

parts : (x y : Bool) → (x && y) ≡ true → (x ≡ true) × (y ≡ true)
parts true y e = (refl, e)
parts false y e = (e, absurd (false≢true e))

step : (v : UnitIn) (us : List UnitIn) → rises_above v.number us ≡ true → (i : ℕ) (u : Shape)
    → i + 1 < length (map unit_given (v ∷ us))
    → (slice_index_or (map unit_given (v ∷ us)) i u).number
    < (slice_index_or (map unit_given (v ∷ us)) (i + 1) u).number
step v [] t i u l = absurd (omega arith)
step v (w ∷ us) t zero u l = let p = (parts (nat_lt v.number w.number) (rises_above w.number us) t).0 in grind arith
step v (w ∷ us) t (suc i) u l =
    let p = (parts (nat_lt v.number w.number) (rises_above w.number us) t).1 in
    let h = step w us p i u (omega arith) in rw add-one (rw add-one at h)

steps : (us : List UnitIn) → numbers_rise us ≡ true → NumbersRise (map unit_given us)
steps [] t = λ i u l. absurd (omega arith)
steps (v ∷ us) t = λ i u l. step v us t i u l

pub taken : (us : List UnitIn) → length us ≤ 16 → first_fault us ≡ None → IsUnitList (map unit_given us)
    → None ≡ units_fault us
taken us l n s = let r = rises us s.rising in let some = s.some in grind arith

fall : (us : List UnitIn) → length us ≤ 16 → first_fault us ≡ None → ¬ NumbersRise (map unit_given us)
    → Some (faults.Units NotAscending) ≡ units_fault us
fall us l n s = let r = false_from_ne_true (numbers_rise us) (λ t. s (steps us t)) in grind arith

none : (us : List UnitIn) → map unit_given us ≡ [] → Some (faults.Units Empty) ≡ units_fault us
none [] e = refl
none (u ∷ us) e = cc

pub refused : (us : List UnitIn) (xs : List Shape) (r : Option UnitsFault) (fault : UnitsFault)
    → r ≡ Some fault → xs ≡ map unit_given us → length us ≤ 16 → first_fault us ≡ None
    → ((r ≡ Some TooMany) ↔ (16 < length xs))
    → ((r ≡ Some NotAscending) ↔ ((length xs ≤ 16) × ¬ NumbersRise xs))
    → ((r ≡ Some Empty) ↔ (xs ≡ []))
    → Some (faults.Units fault) ≡ units_fault us
refused us xs r TooMany e x l n many falls empty =
    let m : 16 < length (map unit_given us) = subst (λ ys. 16 < length ys) x (many.0 e) in
    absurd (omega (arith, length-map us unit_given))
refused us xs r NotAscending e x l n many falls empty = fall us l n (subst (λ ys. ¬ NumbersRise ys) x (falls.0 e).1)
refused us xs r Empty e x l n many falls empty = none us (sym x ∙ empty.0 e)
