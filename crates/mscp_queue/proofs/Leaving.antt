-- A command that leaves, as it ends or is aborted, keeps the dues of the others.
use Rattle.mscp_queue.proofs.Common.{◌≡◌, ◌≤◌, ◌+◌, ℕ, suc, true, false, List, [], ◌∷◌, ◌++◌, map, take, drop, length, arith, sum_by, AllByRecursion, Slot, AreDue, left_in_service, told, Record, is_in_service, left_if_serving, left_of, items, lowered_by}
use Rattle.mscp_queue.proofs.Held.{AreIdle}
use Rattle.mscp_queue.proofs.Dues.{fallen, fallen_enough, idle_left, idle_serving, items_append, items_fallen, serving_cons, serving_left, serving_mid}

serving_without : (front : List Record) (x : Record) (back : List Record) → is_in_service x ≡ false
    → sum_by left_if_serving (front ++ x ∷ back) ≡ sum_by left_if_serving (front ++ back)
serving_without [] x back e = search (arith, serving_cons x back, idle_left x e)
serving_without (r ∷ front) x back e = grind (arith, serving_cons, serving_without front x back e)

idle_append : (xs ys : List Record) → AreIdle xs → AreIdle ys → AreIdle (xs ++ ys)
idle_append [] ys i j = j
idle_append (x ∷ xs) ys i j = (i.0, idle_append xs ys i.1 j)

module _ (budget : ℕ) where
  -- ---- an end
  module _ (y : Slot) (back : List Slot) (j : AreIdle (items back)) (was : is_in_service y.item ≡ true) where
    serving_before : (front : List Slot) → AreIdle (items front)
        → left_in_service (front ++ y ∷ back) ≡ left_of y.item
    serving_before front i = grind (arith, items_append, serving_mid, serving_left)

    none_after : (front : List Slot) → AreIdle (items front)
        → left_in_service (map (lowered_by (left_of y.item)) (front ++ back)) ≡ 0
    none_after front i = grind (arith, items_fallen, items_append, idle_serving, idle_append)

    -- each other due is at least what is left of it
    pub end_enough : (a : ℕ) (front : List Slot) → AreDue budget a (front ++ y ∷ back)
        → AreIdle (items front) → AllByRecursion (λ s. left_of y.item ≤ s.due) (front ++ back)
    end_enough a [] d i = fallen_enough budget a (left_of y.item) back d.1
    end_enough a (x ∷ front) d i = grind (arith, serving_before, end_enough (a + left_of x.item) front d.1 i.1)

    pub due_ended : (a : ℕ) (front : List Slot) → AreDue budget a (front ++ y ∷ back)
        → AreIdle (items front) → AreDue budget a (map (lowered_by (left_of y.item)) (front ++ back))
    due_ended a [] d i = (fallen budget a (left_of y.item) back d.1).dues
    due_ended a (x ∷ front) d i =
        grind (arith, serving_before, none_after, due_ended (a + left_of x.item) front d.1 i.1)

    pub told_ended : (a : ℕ) (front : List Slot) → AreDue budget a (front ++ y ∷ back) → AreIdle (items front)
        → told budget a (map (lowered_by (left_of y.item)) (front ++ back)) ≡ take (length front)
        (told budget a (front ++ y ∷ back)) ++ drop (suc (length front)) (told budget a (front ++ y ∷ back))
    told_ended a [] d i = (fallen budget a (left_of y.item) back d.1).same
    told_ended a (x ∷ front) d i =
        grind (arith, serving_before, none_after, told_ended (a + left_of x.item) front d.1 i.1)

  -- ---- an abort of one that wasn't started
  module _ (y : Slot) (back : List Slot) (idle : is_in_service y.item ≡ false) where
    serving_same : (front : List Slot) → left_in_service (front ++ map (lowered_by (left_of y.item)) back)
        ≡ left_in_service (front ++ y ∷ back)
    serving_same front = grind (arith, items_append, items_fallen, serving_without)

    pub abort_enough : (a : ℕ) (front : List Slot) → AreDue budget a (front ++ y ∷ back)
        → AllByRecursion (λ s. left_of y.item ≤ s.due) back
    abort_enough a [] d = fallen_enough budget a (left_of y.item) back d.1
    abort_enough a (x ∷ front) d = abort_enough (a + left_of x.item) front d.1

    pub due_aborted : (a : ℕ) (front : List Slot) → AreDue budget a (front ++ y ∷ back)
        → AreDue budget a (front ++ map (lowered_by (left_of y.item)) back)
    due_aborted a [] d = (fallen budget a (left_of y.item) back d.1).dues
    due_aborted a (x ∷ front) d = grind (arith, serving_same, due_aborted (a + left_of x.item) front d.1)

    pub told_aborted : (a : ℕ) (front : List Slot) → AreDue budget a (front ++ y ∷ back)
        → told budget a (front ++ map (lowered_by (left_of y.item)) back) ≡ take (length front)
        (told budget a (front ++ y ∷ back)) ++ drop (suc (length front)) (told budget a (front ++ y ∷ back))
    told_aborted a [] d = (fallen budget a (left_of y.item) back d.1).same
    told_aborted a (x ∷ front) d = grind (arith, serving_same, told_aborted (a + left_of x.item) front d.1)
