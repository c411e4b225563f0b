-- The masks stay those of the slots: where a command comes, leaves, or has a step.
use Rattle.mscp_queue.proofs.Common.{◌≡◌, ◌≢◌, ◌<◌, ◌≤◌, ◌+◌, zero, suc, length, get_or, ◌⊎◌, ℕ, Bool, true, false, cond, ◌&&◌, ◌||◌, nat_eq, List, [], ◌∷◌, ◌++◌, sym, subst, ap, ◌∙◌, refl, arith, slice_index_or, bit_at, bit_at_ones, eq-eqb, eqb-false, eqb-true, ne_eqb, append_assoc, append-nil, Masks, AreClasses, AreEarlier, AreMasks, AreSlots, HasCome, IsMaskOf, IsSet, Kind, bit, has}

-- the slots without one
abbrev pub if_not : Bool → ℕ → List ℕ → List ℕ
if_not true x xs = xs
if_not false x xs = x ∷ xs

abbrev pub without : ℕ → List ℕ → List ℕ
without n [] = []
without n (x ∷ xs) = if_not (nat_eq x n) x (without n xs)

pub same_or : (a b : ℕ) → (a ≡ b) ⊎ (a ≢ b)
same_or a b = grind arith

pub eq_true : (a b : ℕ) → a ≡ b → nat_eq a b ≡ true
eq_true a b e = eq-eqb a b e

pub eq_false : (a b : ℕ) → a ≢ b → nat_eq a b ≡ false
eq_false a b n = ne_eqb a b n

-- ---- which slots are in a list
pub has_other : (k n : ℕ) (xs : List ℕ) → k ≢ n → has k (xs ++ n ∷ []) ≡ has k xs
has_other k n [] e = ap (λ b. b || false) (eq_false k n e)
has_other k n (x ∷ xs) e = ap (λ b. nat_eq k x || b) (has_other k n xs e)

pub has_last : (n : ℕ) (xs : List ℕ) → has n (xs ++ n ∷ []) ≡ true
has_last n [] = ap (λ b. b || false) (eq_true n n refl)
has_last n (x ∷ xs) = search (arith, nat_eq n x, has_last n xs)

pub has_kept : (k n : ℕ) (xs : List ℕ) → k ≢ n → has k (without n xs) ≡ has k xs
has_kept k n [] e = refl
has_kept k n (x ∷ xs) e = grind (arith, same_or, eq_true, eq_false, has_kept k n xs e)

pub has_gone : (n : ℕ) (xs : List ℕ) → has n (without n xs) ≡ false
has_gone n [] = refl
has_gone n (x ∷ xs) = grind (arith, same_or, eq_true, eq_false, has_gone n xs)

pub without_append : (n : ℕ) (xs ys : List ℕ) → without n (xs ++ ys) ≡ without n xs ++ without n ys
without_append n [] ys = refl
without_append n (x ∷ xs) ys = search (arith, without_append n xs ys, nat_eq x n)

-- ---- one mask
module _ (m m' n : ℕ) (on : Bool) (old new : ℕ → Bool) (set : IsSet on n m m')
    (is : IsMaskOf m old) (at : new n ≡ on) (other : (k : ℕ) → k ≢ n → new k ≡ old k) where
  pub set_mask : IsMaskOf m' new
  set_mask k l = grind (arith, same_or, eq_true, eq_false)

-- ---- a push
differ : (b : Bool) → b ≡ true → b ≡ false → bit true ≡ bit false
differ b p q = ap bit (sym p ∙ q)

pub off : (b c : Bool) → (b || c) ≡ false → (b ≡ false) × (c ≡ false)
off b c h2 = grind arith

module _ (n s : ℕ) (order : List ℕ) (e : has n (s ∷ order) ≡ false) where
  pub not_here : s ≢ n
  not_here f = grind (arith, differ, nat_eq, eq_true, off)

  pub not_behind : has n order ≡ false
  not_behind = (off (nat_eq n s) (has n order) e).1

slots_pushed : (order : List ℕ) (n : ℕ) → AreSlots order → n < 64 → has n order ≡ false → AreSlots (order ++ n ∷ [])
slots_pushed [] n a l e = (l, refl, tt)
slots_pushed (s ∷ order) n a l e =
    (a.0, has_other s n order (not_here n s order e) ∙ a.1, slots_pushed order n a.2 l (not_behind n s order e))

mask_same : (m : ℕ) (old new : ℕ → Bool) → ((k : ℕ) → old k ≡ new k) → IsMaskOf m old → IsMaskOf m new
mask_same m old new same is = λ k l. is k l ∙ ap bit (same k)

module _ (earlier earlier' : ℕ → ℕ) (n m : ℕ)
    (same : (k : ℕ) → k ≢ n → earlier' k ≡ earlier k) (new : earlier' n ≡ m) where
  earlier_pushed : (front order : List ℕ) → has n order ≡ false → IsMaskOf m (λ k. has k (front ++ order))
      → AreEarlier earlier front order → AreEarlier earlier' front (order ++ n ∷ [])
  earlier_pushed front [] e is a = grind (arith, mask_same, append-nil)
  earlier_pushed front (s ∷ order) e is a = (
    subst (λ m. IsMaskOf m (λ k. has k front)) (sym (same s (not_here n s order e))) a.0,
    earlier_pushed (front ++ s ∷ []) order (not_behind n s order e)
        (mask_same m _ _ (λ k. ap (has k) (sym (append_assoc front (s ∷ []) order))) is) a.1,
  )

and_same : (a a' b b' : Bool) → a ≡ a' → b ≡ b' → (a && b) ≡ (a' && b')
and_same a a' b b' p q = ap (λ a. a && b) p ∙ ap (λ b. a' && b) q

-- the slot whose command comes, and what masks tell of it and of the others
pub record Comes (kinds kinds' : ℕ → Kind) (order : List ℕ) (n : ℕ) : Type 0 where
  pub low : n < 64
  pub free : has n order ≡ false
  pub same : (k : ℕ) → k ≢ n → kinds' k ≡ kinds k

-- a bit that is set or, where it is clear, left
pub unit_set : (m m' n : ℕ) (on : Bool) → (on ≡ true → IsSet true n m m') → (on ≡ false → m' ≡ m) → bit_at m n ≡ 0
    → IsSet on n m m'
unit_set m m' n on h4 h5 h6 = grind (arith, same_or, nat_eq, eq_true, eq_false)

-- the mask of a class has one slot more
pub classes_pushed : (f f' : ℕ → ℕ) (order old new : List ℕ) (n : ℕ) → AreClasses f order old → has n order ≡ false
    → n < 64 → ((k : ℕ) → k ≢ n → f' k ≡ f k)
    → IsSet true n (slice_index_or old (f' n) 0) (slice_index_or new (f' n) 0)
    → ((u : ℕ) → u ≢ f' n → slice_index_or new u 0 ≡ slice_index_or old u 0) → AreClasses f' (order ++ n ∷ []) new
classes_pushed f f' order old new n h free low same own others u =
    grind (arith, set_mask, unit_set, eqb-true, eqb-false, has_last, and_same, has_other)

pub masks_pushed : (kinds kinds' : ℕ → Kind) (order : List ℕ) (m m' : Masks) (n : ℕ)
    → AreMasks kinds order m → Comes kinds kinds' order n
    → HasCome n (kinds' n).drive (kinds' n).sequential m m' → AreMasks kinds' (order ++ n ∷ []) m'
masks_pushed kinds kinds' order m m' n masks c h =
    grind (arith, slots_pushed, set_mask, has_last, has_other, and_same, classes_pushed, earlier_pushed)

-- ---- a step
-- a slot of the order is below 64, and the order is cut at it
pub slot_low : (order : List ℕ) (place : ℕ) → AreSlots order → place < length order → get_or order place 0 < 64
slot_low (s ∷ order) (suc place) a l = slot_low order place a.2 (omega (arith, l))
slot_low order place h2 h3 = grind arith

pub slot_has : (order : List ℕ) (place : ℕ) → place < length order → has (get_or order place 0) order ≡ true
slot_has (s ∷ order) (suc place) l = grind (arith, slot_has order place (omega (arith, l)))
slot_has order place h2 = search (arith, eq_true)

-- ---- the lowest free slot
-- where each of so many slots is taken, so many are taken
many_taken : (n : ℕ) (order : List ℕ) → ((k : ℕ) → k < n → has k order ≡ true) → n ≤ length order
many_taken zero order h = omega arith
many_taken (suc n) order h =
    let rest =
    many_taken n (without n order) (λ k l. has_kept k n order (λ e. omega (arith, l, e)) ∙ h k (omega (arith, l))) in
    omega (arith, rest, one_gone n order (h n (omega arith)))
  where
    no_more : (n : ℕ) (xs : List ℕ) → length (without n xs) ≤ length xs
    no_more n [] = omega arith
    no_more n (x ∷ xs) = grind (arith, no_more n xs)

    one_gone : (n : ℕ) (xs : List ℕ) → has n xs ≡ true → length (without n xs) < length xs
    one_gone n [] e = let bad = ap bit e in absurd (omega (arith, bad))
    one_gone n (x ∷ xs) e = grind (arith, no_more, same_or, eq_true, eq_false, one_gone n xs)

-- so where fewer than all wait, a bit is clear
pub some_free : (m : ℕ) (order : List ℕ) → IsMaskOf m (λ k. has k order) → length order < 64 → m ≢ 18446744073709551615
some_free m order is few = λ e.
    let all : (k : ℕ) → k < 64 → has k order ≡ true = grind (arith, full) in
    let many = many_taken 64 order all in
    omega (arith, many, few)
  where
    on : (b : Bool) → bit b ≡ 1 → b ≡ true
    on h1 e = grind arith

    full : (k : ℕ) → k < 64 → bit_at 18446744073709551615 k ≡ 1
    full k l = bit_at_ones 64 k l

pub off_bit : (b : Bool) → bit b ≡ 0 → b ≡ false
off_bit b h1 = grind arith

-- ---- one bit
pub after_bit : (m k n old : ℕ) (on was : Bool) → on ≡ was → bit_at m n ≡ cond was 1 0 → (k ≢ n → bit_at m k ≡ old)
    → bit_at m k ≡ cond (nat_eq k n) (cond on 1 0) old
after_bit m k n old on was e same other = search (arith, same_or, nat_eq, eq_true, eq_false)

pub not_last : (m : ℕ) → m < 18446744073709551616 → m ≢ 18446744073709551615 → m + 1 < 18446744073709551616
not_last m l n = grind (arith, l, n)

pub one_bit : (b : Bool) → bit b ≡ 1 → b ≡ true
one_bit b h1 = grind arith
