-- What a step makes of the waiting commands, their dues, and what is left of all.
use Rattle.mscp_queue.proofs.Basics.{◌≡◌, ◌<◌, ◌≤◌, ◌+◌, ◌-◌, ℕ, suc, true, List, ◌∷◌, ◌++◌, map, take, drop, set, length, sym, subst, ap, ◌∙◌, refl, arith, All, nat_eq, sum_by, AllByRecursion, eqb-false, eqb-true, lt-ltb, get_or_at, length-map, length-take-le, map-append, set_at, All-from_recursion, recursion_from_All, sum_by-append, sum_by-cons, Slot, AreDue, AreTimed, Waiters, Record, advanced, is_unstarted, left_if_serving, left_of, no_record, passed_by, record_at, step_charge, targets, items, lowered_by, slot_at, told, with_item, due_stepped, fallen, idle_left, items_append, items_fallen, late, serving_left, stepped, told_back, told_front, told_item, told_stepped, told_within, AreIdle, passed_idle}
use Rattle.mscp_queue.proofs.Placed.{at_place, map_map}
use Rattle.mscp_queue.proofs.Dues.{MayPass, at_same}
use Rattle.mscp_queue.proofs.Backlogs.{cut}

-- what a step of the command at a place makes of slots
pub record IsStep (budget clock : ℕ) (ss new : List Slot) (place : ℕ) : Type 0 where
  pub dues : AreDue budget (clock + 1) new
  pub left : sum_by left_of (items new) + 1 ≡ sum_by left_of (items ss)
  pub waiting : told budget (clock + 1) new ≡ stepped (step_charge (slot_at ss place).item) place (told budget clock ss)
  pub own : targets new ≡ targets ss

-- all that is left of a command is in service already, or is what its step costs
charge_is : (r : Record) → left_of r ≡ left_if_serving r + step_charge r
charge_is r = grind (arith, eqb-true, idle_left, serving_left, lt-ltb, eqb-false)

set_mid : (A : List Slot) (y : Slot) (B : List Slot) (place : ℕ) → length A ≡ place
    → set (A ++ y ∷ B) place (with_item advanced (slot_at (A ++ y ∷ B) place)) ≡ A ++ with_item advanced y ∷ B
set_mid A y B place l = grind (arith, set_at, get_or_at)

own_append : (xs ys : List Slot) → targets (xs ++ ys) ≡ targets xs ++ targets ys
own_append xs ys = map-append (λ (s : Slot). s.target) xs ys

pub step_of : {budget clock : ℕ} {ss : List Slot} {place : ℕ}
    → AreDue budget clock ss → place < length ss → (slot_at ss place).item.done < (slot_at ss place).item.weight
    → AreIdle (items (take place ss)) → AreIdle (items (drop (place + 1) ss)) → (is_unstarted (slot_at ss place).item
    ≡ true → MayPass budget (slot_at ss place).item.weight (take place (told budget clock ss)))
    → IsStep budget clock ss (set ss place (with_item advanced (slot_at ss place))) place
step_of {budget} {clock} {ss} {place} a l unfinished front back affordable = record {
  dues = subst (AreDue budget (clock + 1)) (sym new)
      (due_stepped budget n y z B back (charge_is y.item) unfinished refl refl clock F due front
      (subst (λ k. MayPass budget n (take k (told budget clock (F ++ y ∷ B)))) (sym long)
      (subst (λ zs. MayPass budget n (take place (told budget clock zs))) is may)));
  left =
      let p = ap (sum_by left_of) (ap items new ∙ items_append F (z ∷ B)) in
      let q = ap (λ zs. sum_by left_of (items zs)) is in
      let r = ap (sum_by left_of) (items_append F (y ∷ B)) in
      omega (arith, p, q, r, sum_by-append, sum_by-cons, unfinished);
  waiting = grind (arith, new, told_stepped, n, y, z, charge_is, due, long, is);
  own = ap targets new ∙ (own_append F (z ∷ B) ∙ (sym (own_append F (y ∷ B)) ∙ ap targets (sym is)));
}
  where
    y : Slot
    y = slot_at ss place

    z : Slot
    z = with_item advanced y

    n : ℕ
    n = step_charge y.item

    F : List Slot
    F = take place ss

    B : List Slot
    B = drop (place + 1) ss

    is : ss ≡ F ++ y ∷ B
    is = cut ss place l

    long : length F ≡ place
    long = length-take-le place ss (omega (arith, l))

    due : AreDue budget clock (F ++ y ∷ B)
    due = subst (AreDue budget clock) is a

    new : set ss place (with_item advanced (slot_at ss place)) ≡ F ++ z ∷ B
    new = ap (λ zs. set zs place (with_item advanced (slot_at zs place))) is ∙ set_mid F y B place long

    may : MayPass budget n (take place (told budget clock ss))
    may = grind (arith, y, n, told_within)

-- a step at a place, and then the clock may be set back
pub step_timed : {budget clock total now : ℕ} {ss ss' new : List Slot} {place : ℕ}
    → AreTimed budget clock total ss → IsStep budget clock ss ss' place → now < 1099511627776
    → now ≤ clock + 1 → new ≡ map (lowered_by (clock + 1 - now)) ss' → AreTimed budget now (total - 1) new
step_timed t step early below fell = grind (arith, fallen, at_same, items_fallen)

pub step_late : {budget clock : ℕ} {ss new : List Slot} {place : ℕ} → IsStep budget clock ss new place
    → All (λ s. clock + 1 ≤ s.due) new
step_late {budget} {clock} {ss} {new} {place} step =
    All-from_recursion (λ (s : Slot). clock + 1 ≤ s.due) new (late budget (clock + 1) new step.dues)

pub seen_step : {budget clock now : ℕ} {ss ss' new : List Slot} {rs : List Record} {place : ℕ}
    → IsStep budget clock ss ss' place → now ≤ clock + 1 → told budget clock ss ≡ rs
    → step_charge (slot_at ss place).item ≡ step_charge (record_at rs place)
    → new ≡ map (lowered_by (clock + 1 - now)) ss'
    → told budget now new ≡ map (passed_by (step_charge (record_at rs place))) (take place rs)
    ++ advanced (record_at rs place) ∷ drop (place + 1) rs
seen_step {budget} {clock} {now} {ss} {ss'} {new} {rs} {place} step below w charge fell =
    let e : clock + 1 ≡ now + (clock + 1 - now) = omega (arith, below) in
    let next : suc place ≡ place + 1 = omega arith in
    let kept = fallen budget now (clock + 1 - now) ss' (at_same budget ss' e step.dues) in
    ap (told budget now) fell ∙ (kept.same ∙ (ap (λ k. told budget k ss') (sym e) ∙ (step.waiting
    ∙ ((λ i. stepped (charge i) place (w i)) ∙ (λ i. map (passed_by (step_charge (record_at rs place))) (take place rs)
    ++ advanced (record_at rs place) ∷ drop (next i) rs)))))

pub seen_own : (by : ℕ) {budget clock : ℕ} {ss ss' new : List Slot} {place : ℕ} → IsStep budget clock ss ss' place
    → new ≡ map (lowered_by by) ss' → targets new ≡ targets ss
seen_own by step fell = grind (arith, by, map_map)

-- the same as it is found out of what callers see
pub step_at : {budget clock total : ℕ} {ss new : List Slot} {rs : List Record} {place : ℕ}
    → AreTimed budget clock total ss → told budget clock ss ≡ rs → place < length ss
    → (record_at rs place).done < (record_at rs place).weight
    → All (λ r. r.done ≡ 0) (take place rs) → All (λ r. r.done ≡ 0) (drop (place + 1) rs)
    → (is_unstarted (record_at rs place) ≡ true
    → All (λ r. r.passed + (record_at rs place).weight ≤ budget) (take place rs))
    → new ≡ set ss place (with_item advanced (slot_at ss place)) → IsStep budget clock ss new place
step_at {budget} {clock} {total} {ss} {new} {rs} {place} t w l unfinished front back affordable had =
    let item = told_item budget clock ss place t.dues l in
    let done = ap (λ (r : Record). r.done) item ∙ ap (λ zs. (record_at zs place).done) w in
    let weight = ap (λ (r : Record). r.weight) item ∙ ap (λ zs. (record_at zs place).weight) w in
    let P : Record → Type 0 = λ r. r.done ≡ 0 in
    subst (λ zs. IsStep budget clock ss zs place) (sym had) (step_of t.dues l (omega (arith, unfinished, done, weight))
    (told_front budget clock ss place (subst (λ zs. AllByRecursion P (take place zs)) (sym w)
    (recursion_from_All P (take place rs) front)))
    (told_back budget clock ss (place + 1) (subst (λ zs. AllByRecursion P (drop (place + 1) zs)) (sym w)
    (recursion_from_All P (drop (place + 1) rs) back)))
    (λ e. subst (λ k. MayPass budget k (take place (told budget clock ss))) (sym weight)
    (subst (λ zs. MayPass budget (record_at rs place).weight (take place zs)) (sym w)
    (recursion_from_All (λ (r : Record). r.passed + (record_at rs place).weight ≤ budget) (take place rs)
    (affordable (sym (ap (λ n. nat_eq n 0) done) ∙ e))))))

-- what may be passed by a command may be so by the budget that callers see
pub affordable : {budget : ℕ} (clock : ℕ) (ss : List Slot) {now : Waiters} (place : ℕ)
    → record { budget = budget; waiting = told budget clock ss; targets = targets ss } ≡ now
    → (is_unstarted (record_at now.waiting place) ≡ true
    → All (λ r. r.passed + (record_at now.waiting place).weight ≤ now.budget) (take place now.waiting))
    → is_unstarted (record_at now.waiting place) ≡ true
    → All (λ r. r.passed + (record_at now.waiting place).weight ≤ budget) (take place now.waiting)
affordable clock ss place view h e = grind arith

-- ---- what a step and its end leave
module _ (n place : ℕ) (rs ws : List Record)
    (r : Record) (l : place < length rs) (e : ws ≡ map (passed_by n) (take place rs) ++ r ∷ drop (place + 1) rs) where
  pub front_idle : All (λ r. r.done ≡ 0) (take place rs) → All (λ r. r.done ≡ 0) (take place ws)
  front_idle h =
      let long : length (map (passed_by n) (take place rs)) ≡ place = grind (arith, length-map, n, length-take-le) in
      let at = at_place ws (map (passed_by n) (take place rs)) r (drop (place + 1) rs) place no_record e long in
      let P : Record → Type 0 = λ r. r.done ≡ 0 in
      search (arith, at, P, All-from_recursion, passed_idle, recursion_from_All)

  pub back_idle : All (λ r. r.done ≡ 0) (drop (place + 1) rs) → All (λ r. r.done ≡ 0) (drop (place + 1) ws)
  back_idle h =
      let long : length (map (passed_by n) (take place rs)) ≡ place = grind (arith, length-map, n, length-take-le) in
      let at = at_place ws (map (passed_by n) (take place rs)) r (drop (place + 1) rs) place no_record e long in
      subst (All (λ (r : Record). r.done ≡ 0)) (sym at.behind) h

pub ended_at : (n place : ℕ) (rs ws new : List Record) (r : Record) → place < length rs
    → ws ≡ map (passed_by n) (take place rs) ++ r ∷ drop (place + 1) rs → new ≡ take place ws ++ drop (place + 1) ws
    → new ≡ map (passed_by n) (take place rs) ++ drop (place + 1) rs
ended_at n place rs ws new r l e gone =
    let long : length (map (passed_by n) (take place rs)) ≡ place = grind (arith, length-map, n, length-take-le) in
    let at = at_place ws (map (passed_by n) (take place rs)) r (drop (place + 1) rs) place no_record e long in
    gone ∙ (λ i. at.before i ++ at.behind i)
