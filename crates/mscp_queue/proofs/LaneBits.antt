-- The bits of a mask as the lanes of a vector.
use Rattle.mscp_queue.proofs.Common.{◌≡◌, ℕ, ◌-◌, ◌<◌, List, [], ◌∷◌, Bool, false, cond, nat_eq, ltb, min, length, get_or, replicate, sym, ap, ◌∙◌, arith, bit_and, bit_at, top, sel_l, zip2, eq-eqb, ne_eqb, and_pow, bit_at-lt, bit_at_and, bit_at_ones, nat_tests, length-sel_l, get_or-sel_l, length-zip2, get_or-zip2, get_or-replicate, HasLanes, lowered}

abbrev pub test_lane : ℕ → ℕ → Bool
test_lane bits place = top 63 (cond (nat_eq (bit_and bits place) place) 18446744073709551615 0)

abbrev pub eight_tests : ℕ → List Bool
eight_tests bits = test_lane bits 1 ∷ test_lane bits 2 ∷ test_lane bits 4 ∷ test_lane bits 8
    ∷ test_lane bits 16 ∷ test_lane bits 32 ∷ test_lane bits 64 ∷ test_lane bits 128 ∷ []

-- the bit of each lane
pub bit_of_lane : (bits k : ℕ) → k < 8 → get_or (eight_tests bits) k false ≡ nat_eq (bit_at bits k) 1
bit_of_lane bits k h2 = search (arith, nat_eq, bit_and, and_pow, bit_at-lt, ne_eqb, eq-eqb)

chosen : (m x y a : ℕ) → (m ≡ 1 → x ≡ y) → cond (nat_eq m 1) x a ≡ cond (nat_eq m 1) y a
chosen m x y a h = grind (arith, nat_tests, h)

module _ (f : ℕ → ℕ → ℕ) (v : List ℕ) (bits by : ℕ) (len : length v ≡ 8) where
  long_less : length (zip2 f v (replicate 8 by)) ≡ 8
  long_less = length-zip2 f v (replicate 8 by) len ∙ len

  -- the lanes whose bits are set are f of them, the others stay
  pub selected : ((k : ℕ) → k < 8 → bit_at bits k ≡ 1 → f (get_or v k 0) by ≡ get_or v k 0 - by)
      → HasLanes (sel_l (eight_tests bits) (zip2 f v (replicate 8 by)) v) (λ k. lowered bits by k (get_or v k 0))
  selected less = record {
    long = length-sel_l (eight_tests bits) (zip2 f v (replicate 8 by)) v (sym long_less) (sym len);
    each = λ k l.
        let small : k < length v = omega arith in
        let a = get_or v k 0 in
        get_or-sel_l (eight_tests bits) (zip2 f v (replicate 8 by)) v k 0 l (omega (arith, long_less)) small
        ∙ (λ i. cond (bit_of_lane bits k l i) ((get_or-zip2 f v (replicate 8 by) k 0 0 0 small l
        ∙ ap (f a) (get_or-replicate 8 k by 0 l)) i) a)
        ∙ chosen (bit_at bits k) (f a by) (a - by) a (less k l);
  }

module _ (v : List ℕ) (bits rest : ℕ) (len : length v ≡ 8) where
  -- the lanes whose bits are set, and one number in the others
  pub kept : HasLanes (sel_l (eight_tests bits) v (replicate 8 rest))
      (λ k. cond (nat_eq (bit_at bits k) 1) (get_or v k 0) rest)
  kept = grind (arith, length-sel_l, get_or-sel_l, bit_of_lane, get_or-replicate)

lesser : (x y : ℕ) → cond (ltb x y) x y ≡ min x y
lesser x y = grind (arith, nat_tests)

-- the lesser of each two lanes
pub least_of_two : (a b : List ℕ) → length a ≡ 8 → length b ≡ 8
    → HasLanes (sel_l (zip2 ltb a b) a b) (λ k. min (get_or a k 0) (get_or b k 0))
least_of_two a b p q = grind (arith, ltb, length-zip2, length-sel_l, get_or-sel_l, get_or-zip2, lesser)

-- where all eight bits are set, each lane is kept
pub all_kept : (v : List ℕ) (bits rest : ℕ) → length v ≡ 8 → bit_and bits 255 ≡ 255
    → HasLanes v (λ k. cond (nat_eq (bit_at bits k) 1) (get_or v k 0) rest)
all_kept v bits rest len full = record {
  long = len;
  each = λ k l.
      let two = sym (bit_at_and bits 255 k) ∙ (ap (λ m. bit_at m k) full ∙ bit_at_ones 8 k l) in
      let one : bit_at bits k ≡ 1 = at_most (bit_at bits k) (bit_at 255 k) (bit_at-lt bits k) two in
      ap (λ b. cond (nat_eq b 1) (get_or v k 0) rest) (sym one);
}
  where
    at_most : (a b : ℕ) → a < 2 → min a b ≡ 1 → a ≡ 1
    at_most a b l e = omega (arith, l, e)
