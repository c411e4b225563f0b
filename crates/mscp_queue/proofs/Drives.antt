-- Where the drive of a unit stands among the drives.
use Rattle.mscp_queue.proofs.Common.{◌≡◌, ℕ, zero, suc, ◌+◌, ◌<◌, Bool, true, false, cond, not, List, [], ◌∷◌, set, get_or, length, refl, ap, sym, ◌∙◌, subst, arith, find, nat_eq, if◌then◌else◌, is_some, unwrap_or, Some, AllByRecursion, position, position_or_len, eq-eqb, eqb-true, false≢true, lt-ltb, ne_eqb, get_or_default, All-from_recursion, IsUnitList, Drive, one_block, drive_of, fresh_drive, has_number, replaced, is_known, units_of, Pairs}
use Rattle.mscp_queue.proofs.Lists.{every_mapped}
use Rattle.mscp_queue.proofs.Turns.{Lower, pairs_rise}

-- ---- the place of a drive
-- the place of the drive of the unit of this number
abbrev pub drive_place : List Drive → ℕ → ℕ
drive_place ds number = position_or_len (has_number number) ds

-- the drive of a known unit stands at its place
pub record IsPlaced (ds : List Drive) (n place : ℕ) (other : Drive) : Type 0 where
  pub inside : place < length ds
  pub drive : get_or ds place other ≡ drive_of ds n
  pub number : (get_or ds place other).unit.number ≡ n

pub known_at : (ds : List Drive) (n : ℕ) (other : Drive) → is_known (units_of ds) n ≡ true
    → IsPlaced ds n (drive_place ds n) other
known_at [] n other h = absurd (false≢true h)
known_at (d ∷ ds) n other h =
    let found : Bool → Drive = λ b. unwrap_or (cond b (Some d) (find (has_number n) ds)) (fresh_drive one_block) in
    let P : Bool → ℕ → Type 0 = λ b i. (i < length (d ∷ ds)) × (get_or (d ∷ ds) i other ≡ found b)
    × ((get_or (d ∷ ds) i other).unit.number ≡ n) in
    let both : (b : Bool) → nat_eq d.unit.number n ≡ b
    → is_some (cond b (Some d.unit) (find (λ s. nat_eq s.number n) (units_of ds))) ≡ true
    → P b (cond (not b) (1 + drive_place ds n) 0) =
    λ b. elim b as (λ b. nat_eq d.unit.number n ≡ b
    → is_some (cond b (Some d.unit) (find (λ s. nat_eq s.number n) (units_of ds))) ≡ true
    → P b (cond (not b) (1 + drive_place ds n) 0)) [
      | true ↦ λ e k. (omega arith, refl, eqb-true d.unit.number n e)
      | false ↦ λ e k.
          let rest = known_at ds n other k in
          let inside = rest.inside in
          let one : suc (drive_place ds n) ≡ 1 + drive_place ds n = omega arith in
          subst (P false) one (omega arith, rest.drive, rest.number)
    ] in
    let all = both (nat_eq d.unit.number n) refl h in
    record { inside = all.0; drive = all.1; number = all.2 }

pub known_inside : (ds : List Drive) (n : ℕ) → is_known (units_of ds) n ≡ true → drive_place ds n < length ds
known_inside [] n h = absurd (false≢true h)
known_inside (d ∷ ds) n h = (known_at (d ∷ ds) n d h).inside

pub place_found : (ds : List Drive) (n other : ℕ) → is_known (units_of ds) n ≡ true
    → unwrap_or (position (has_number n) ds) other ≡ drive_place ds n
place_found ds n other h = grind (arith, lt-ltb, known_inside)

-- units are told apart by the places of their drives
pub apart_by_place : (ds : List Drive) (other : Drive) (a b : ℕ) → is_known (units_of ds) a ≡ true
    → is_known (units_of ds) b ≡ true → nat_eq (drive_place ds a) (drive_place ds b) ≡ nat_eq a b
apart_by_place ds other a b h k =
    search (arith, known_at ds a other h, known_at ds b other k, eq-eqb, eqb-true, ne_eqb, false≢true)

-- ---- one drive is replaced
-- that of a unit stands once
set_is : (ds : List Drive) (at n : ℕ) (new : Drive) → Pairs Lower (units_of ds)
    → at < length ds → (d : Drive) → d ≡ get_or ds at d → d.unit.number ≡ n → set ds at new ≡ replaced n new ds
set_is [] at n new p l d e num = absurd (omega (arith, l))
set_is (x ∷ ds) zero n new p l d e num =
    let own : x.unit.number ≡ n = ap (λ (q : Drive). q.unit.number) (sym e) ∙ num in
    (λ i. (sym (ap (λ b. if b then new else x) (eq-eqb x.unit.number n own)) i)
    ∷ sym (others ds (every_mapped (λ (q : Drive). q.unit) (Lower x.unit) ds p.0)) i)
  where
    others : (qs : List Drive) → AllByRecursion (λ q. x.unit.number < q.unit.number) qs → replaced n new qs ≡ qs
    others [] h = refl
    others (q ∷ qs) h = grind (arith, ne_eqb, others qs h.1)
set_is (x ∷ ds) (suc at) n new p l d e num =
    let below : at < length ds = omega (arith, l) in
    let up = every_mapped (λ (q : Drive). q.unit) (Lower x.unit) ds p.0 in
    let there : get_or ds at d ≡ d = sym e in
    let less : x.unit.number < d.unit.number = subst (λ (q : Drive). x.unit.number < q.unit.number) there
    (All-from_recursion (λ (q : Drive). x.unit.number < q.unit.number) ds up at d below) in
    search (arith, set_is ds, ne_eqb)

-- the drive of this number stands there
pub place_is : (ds : List Drive) (at n : ℕ) (d : Drive)
    → Pairs Lower (units_of ds) → at < length ds → d ≡ get_or ds at d → d.unit.number ≡ n → drive_place ds n ≡ at
place_is (x ∷ ds) (suc at) n d p l e num =
    let below : at < length ds = omega (arith, l) in
    let up = every_mapped (λ (q : Drive). q.unit) (Lower x.unit) ds p.0 in
    let there : get_or ds at d ≡ d = sym e in
    let less : x.unit.number < d.unit.number = subst (λ (q : Drive). x.unit.number < q.unit.number) there
    (All-from_recursion (λ (q : Drive). x.unit.number < q.unit.number) ds up at d below) in
    let rest = place_is ds at n d p.1 below e num in
    let next : 1 + at ≡ suc at = omega arith in
    search (arith, not, ne_eqb)
place_is ds at n d h4 h5 h6 h7 = search (arith, not, eq-eqb)

pub set_replaced : (ds : List Drive) (at n : ℕ) (new other : Drive) → IsUnitList (units_of ds)
    → is_known (units_of ds) n ≡ true → at ≡ drive_place ds n → set ds at new ≡ replaced n new ds
set_replaced ds at n new other l known e =
    let d = get_or ds (drive_place ds n) other in
    let placed = known_at ds n other known in
    let found : get_or ds at d ≡ d = search (arith, get_or_default ds (drive_place ds n) d other placed.inside) in
    search (arith, set_is ds, pairs_rise (units_of ds) l.rising)
