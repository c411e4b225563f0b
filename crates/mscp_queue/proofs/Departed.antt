-- The masks stay those of the slots where a command leaves: at an end or an abort.
use Rattle.mscp_queue.proofs.Common.{◌≡◌, ◌≢◌, ◌<◌, ◌⊎◌, ℕ, Bool, true, false, ◌||◌, nat_eq, List, [], ◌∷◌, ◌++◌, sym, subst, ap, ◌∙◌, refl, arith, eqb-true, slice_index_or, append-nil, Masks, AreClasses, AreEarlier, AreMasks, AreSlots, HasLeft, IsMaskOf, IsSet, Kind, bit, has}
use Rattle.mscp_queue.proofs.Masked.{eq_false, eq_true, has_gone, has_kept, if_not, not_behind, not_here, off, same_or, set_mask, unit_set, without, without_append}

slots_left : (order : List ℕ) (n : ℕ) → AreSlots order → AreSlots (without n order)
slots_left [] n a = tt
slots_left (s ∷ order) n a = grind (arith, same_or, eq_true, eq_false, has_kept, slots_left order n a.2)

module _ (earlier earlier' : ℕ → ℕ) (n : ℕ) where
  cleared : (s : ℕ) (front : List ℕ) → IsSet false n (earlier s) (earlier' s) → IsMaskOf (earlier s) (λ k. has k front)
      → IsMaskOf (earlier' s) (λ k. has k (without n front))
  cleared s front clear is = search (arith, has_gone n front, set_mask, has_kept)

  earlier_left : (front order : List ℕ)
      → ((s : ℕ) → has s order ≡ true → s ≢ n → IsSet false n (earlier s) (earlier' s)) → AreEarlier earlier front order
      → AreEarlier earlier' (without n front) (without n order)
  earlier_left front [] clear a = tt
  earlier_left front (s ∷ order) clear a = by (earlier_left (front ++ s ∷ []) order (λ k there.
      clear k (ap (λ b. nat_eq k s || b) there ∙ or_true (nat_eq k s))) a.1) (same_or s n)
    where
      or_true : (b : Bool) → (b || true) ≡ true
      or_true h1 = grind arith

      ends : (b : Bool) → nat_eq s n ≡ b → without n (front ++ s ∷ []) ≡ without n front ++ if_not b s []
      ends b e = without_append n front (s ∷ []) ∙ ap (λ b. without n front ++ if_not b s []) e

      by : AreEarlier earlier' (without n (front ++ s ∷ [])) (without n order) → (s ≡ n) ⊎ (s ≢ n)
          → AreEarlier earlier' (without n front) (if_not (nat_eq s n) s (without n order))
      by rest h2 = grind (arith, eq_true, ends, append-nil, eq_false, cleared)

slot_low : (order : List ℕ) (k : ℕ) → AreSlots order → has k order ≡ true → k < 64
slot_low [] k a e = let bad = ap bit e in absurd (omega (arith, bad))
slot_low (s ∷ order) k a e = search (arith, nat_eq k s, eqb-true k s, slot_low order k a.2)

earlier_kept : (kinds : ℕ → Kind) (order : List ℕ) (m m' : Masks) (n drive : ℕ) → AreMasks kinds order m
    → HasLeft n drive m m' → IsMaskOf m'.waiting (λ k. has k (without n order))
    → AreEarlier (λ k. slice_index_or m'.earlier k 0) [] (without n order)
earlier_kept kinds order m m' n drive masks l waits = earlier_left _ _ n [] order (λ s there d. l.earlier s
    (waits s (slot_low order s masks.apart there) ∙ ap bit (has_kept s n order d ∙ there))) masks.of_earlier

-- the mask of a class has one slot less
pub classes_without : (f : ℕ → ℕ) (order old new : List ℕ) (n : ℕ) → AreClasses f order old → n < 64
    → IsSet false n (slice_index_or old (f n) 0) (slice_index_or new (f n) 0)
    → ((u : ℕ) → u ≢ f n → slice_index_or new u 0 ≡ slice_index_or old u 0) → AreClasses f (without n order) new
classes_without f order old new n h low own others u =
    grind (arith, set_mask, same_or, has_gone, has_kept, unit_set, eq_false)

masks_without : (kinds : ℕ → Kind) (order : List ℕ) (m m' : Masks) (n : ℕ) → AreMasks kinds order m → n < 64
    → HasLeft n (kinds n).drive m m' → AreMasks kinds (without n order) m'
masks_without kinds order m m' n masks low l = record {
  apart = slots_left order n masks.apart;
  of_waiting = search (arith, set_mask, has_gone, has_kept);
  of_sequential = grind (arith, set_mask, has_gone, has_kept);
  of_units = classes_without (λ k. (kinds k).drive) order m.units m'.units n masks.of_units low l.own l.units;
  of_earlier = earlier_kept kinds order m m' n (kinds n).drive masks l
      (set_mask m.waiting m'.waiting n false _ _ l.waits masks.of_waiting (has_gone n order)
      (λ k d. has_kept k n order d));
}

-- ---- the order without a slot
without_none : (n : ℕ) (xs : List ℕ) → has n xs ≡ false → without n xs ≡ xs
without_none n [] e = refl
without_none n (x ∷ xs) e = grind (arith, eq_false, not_here, not_behind, without_none n xs (not_behind n x xs e))

-- a slot stands once
pub once_in : (front : List ℕ) (n : ℕ) (back : List ℕ) → AreSlots (front ++ n ∷ back)
    → (has n front ≡ false) × (has n back ≡ false)
once_in [] n back a = (refl, a.1)
once_in (s ∷ front) n back a =
    let rest = once_in front n back a.2 in
    let other : n ≢ s = λ e. not_first s n front back a.1 (sym e) in
    (ap (λ b. b || has n front) (eq_false n s other) ∙ rest.0, rest.1)
  where
    not_first : (s n : ℕ) (front back : List ℕ) → has s (front ++ n ∷ back) ≡ false → s ≢ n
    not_first s n [] back e = λ f. not_here s n back e (sym f)
    not_first s n (x ∷ front) back e = not_first s n front back (off (nat_eq s x) (has s (front ++ n ∷ back)) e).1

-- without a slot that stands once
pub order_left : (front back : List ℕ) (n : ℕ) → AreSlots (front ++ n ∷ back)
    → without n (front ++ n ∷ back) ≡ front ++ back
order_left front back n apart = grind (arith, once_in, without_append, without_none, eq_true)

pub masks_left : (kinds : ℕ → Kind) (front back : List ℕ) (m m' : Masks) (n : ℕ)
    → AreMasks kinds (front ++ n ∷ back) m → n < 64 → HasLeft n (kinds n).drive m m'
    → AreMasks kinds (front ++ back) m'
masks_left kinds front back m m' n masks low l =
    subst (λ o. AreMasks kinds o m') (order_left front back n masks.apart)
    (masks_without kinds (front ++ n ∷ back) m m' n masks low l)
