-- How many bits of a mask are set: as many as there are slots in it.
use Rattle.mscp_queue.proofs.Basics.{◌≡◌, ◌≢◌, ◌<◌, ◌≤◌, ◌+◌, ◌^◌, ◌%◌, ◌/◌, ◌⊎◌, inl, inr, ℕ, zero, suc, true, ◌||◌, nat_eq, List, [], ◌∷◌, count_ones, length, get_or, take, drop, sym, subst, ap, ◌∙◌, refl, arith, bit_at, eq-eqb, ne_eqb, length-take-le, bit_at-suc, bit_at_lowest, slice_index_or, Masks, AreEarlier, AreMasks, AreSlots, IsMaskOf, Kind, bit, has, earlier_at, same_or, slot_has, IsNumber, cut_order}
use lib.Count.{ones_step, ones-le}
use native.Mathlib.Nat.{pow-suc}
use Rattle.mscp_queue.proofs.Fallen.{slots_front}

-- the sum of a function's values at the numbers below w
total : ℕ → (ℕ → ℕ) → ℕ
total zero f = 0
total (suc w) f = f 0 + total w (λ k. f (suc k))

total_on : (w : ℕ) (f g : ℕ → ℕ) → ((k : ℕ) → k < w → f k ≡ g k) → total w f ≡ total w g
unfolding total
total_on zero f g h = refl
total_on (suc w) f g h = ap (λ n. n + total w (λ k. f (suc k))) (h 0 (omega arith))
    ∙ ap (λ n. g 0 + n) (total_on w (λ k. f (suc k)) (λ k. g (suc k)) (λ k l. h (suc k) (omega (arith, l))))

total_more : (w : ℕ) (f g : ℕ → ℕ) → total w (λ k. f k + g k) ≡ total w f + total w g
unfolding total
total_more zero f g = omega arith
total_more (suc w) f g = let rest = total_more w (λ k. f (suc k)) (λ k. g (suc k)) in omega (arith, rest)

total_none : (w : ℕ) → total w (λ k. 0) ≡ 0
unfolding total
total_none zero = refl
total_none (suc w) = let rest = total_none w in omega (arith, rest)

total_one : (w s : ℕ) → s < w → total w (λ k. bit (nat_eq k s)) ≡ 1
unfolding total
total_one zero s l = absurd (omega (arith, l))
total_one (suc w) zero l = search (arith, total_none w, total_on, nat_eq, ne_eqb)
total_one (suc w) (suc s) l = grind (arith, ne_eqb, total_on, same_or, eq-eqb, total_one w s (omega (arith, l)))

-- slots that stand once are as many as there are
total_has : (w : ℕ) (xs : List ℕ) → 64 ≤ w → AreSlots xs → total w (λ k. bit (has k xs)) ≡ length xs
total_has w [] l a = total_none w
total_has w (s ∷ xs) l a =
    let parts : (k : ℕ) → bit (nat_eq k s || has k xs) ≡ bit (nat_eq k s) + bit (has k xs) = λ k. by k (same_or k s) in
    let both = total_on w (λ k. bit (nat_eq k s || has k xs)) (λ k. bit (nat_eq k s) + bit (has k xs)) (λ k b. parts k)
    ∙ total_more w (λ k. bit (nat_eq k s)) (λ k. bit (has k xs)) in
    omega (arith, both, total_one w s (omega (arith, l, a.0)), total_has w xs l a.2)
  where
    by : (k : ℕ) → (k ≡ s) ⊎ (k ≢ s) → bit (nat_eq k s || has k xs) ≡ bit (nat_eq k s) + bit (has k xs)
    by k h2 = grind (arith, eq-eqb, ne_eqb)

-- ---- the bits of a number
total_bits : (w m : ℕ) → m < 2 ^ w → count_ones m ≡ total w (bit_at m)
unfolding total
total_bits zero m l = let none = ones-le 0 m l in omega (arith, none)
total_bits (suc w) m l = ones_step m ∙ (ap (λ n. m % 2 + n) (total_bits w (m / 2) (omega (arith, l, pow-suc 2 w)))
    ∙ (λ i. sym (bit_at_lowest m) i + total w (λ k. sym (bit_at-suc m k) i)))

pub ones_has : (m : ℕ) (xs : List ℕ) → m < 2 ^ 64 → IsMaskOf m (λ k. has k xs) → AreSlots xs → count_ones m ≡ length xs
ones_has m xs small is a = search (arith, total_bits 64 m small, total_has 64 xs (omega arith) a, total_on)

-- ---- the place of a slot
-- as many came earlier
pub place_counted : {kinds : ℕ → Kind} {order : List ℕ} {m : Masks} {place n : ℕ} → AreMasks kinds order m
    → IsNumber order place n → slice_index_or m.earlier n 0 < 2 ^ 64 → count_ones (slice_index_or m.earlier n 0) ≡ place
place_counted {kinds} {order} {m} {place} {n} masks h small =
    let front = take place order in
    let back = drop (place + 1) order in
    let cut = cut_order order place n h in
    let earlier : ℕ → ℕ = λ k. slice_index_or m.earlier k 0 in
    ones_has (earlier n) front small
    (earlier_at earlier [] front n back (subst (AreEarlier earlier []) cut masks.of_earlier))
    (slots_front front n back (subst AreSlots cut masks.apart))
    ∙ length-take-le place order (let l = h.inside in omega (arith, l))

-- a slot that is taken stands at a place
pub placed : (order : List ℕ) (n : ℕ) → has n order ≡ true → (place : ℕ) × (place < length order)
    × (n ≡ get_or order place 0)
placed [] n e = let bad = ap bit e in absurd (omega (arith, bad))
placed (s ∷ order) n e = by (same_or n s) (placed order n)
  where
    by : (n ≡ s) ⊎ (n ≢ s)
        → (has n order ≡ true → (place : ℕ) × (place < length order) × (n ≡ get_or order place 0))
        → (place : ℕ) × (place < length (s ∷ order)) × (n ≡ get_or (s ∷ order) place 0)
    by (inl f) rest = (0, omega arith, f)
    by (inr d) rest =
        let r = rest (ap (λ b. b || has n order) (sym (ne_eqb n s d)) ∙ e) in
        (suc r.0, (let l = r.1 in omega (arith, l)), r.2)

-- at one alone
pub one_place : (order : List ℕ) (k p : ℕ)
    → AreSlots order → k < length order → p < length order → get_or order k 0 ≡ get_or order p 0 → k ≡ p
one_place (s ∷ order) (suc k) (suc p) a l b e = ap suc (one_place order k p a.2 (omega (arith, l)) (omega (arith, b)) e)
one_place order k p h3 h4 h5 h6 = search (arith, slot_has)
