-- The least of lanes, of the masked costs in a lane, and of all masked costs.
use Rattle.mscp_queue.proofs.Common.{◌≡◌, ◌≢◌, ◌<◌, ◌≤◌, ◌+◌, ◌-◌, ◌*◌, ◌/◌, ◌%◌, ◌^◌, ◌⊎◌, inl, inr, ℕ, List, get_or, cond, nat_eq, min, ap, sym, subst, ◌∙◌, arith, w64, Option, IfSome, IfNone, bit_and, bit_at, trailing_zeros, nat_tests, bit_at_and, bit_at-trailing_zeros, bit_at-lt, bit_at-zero, IsCost, IsFirst, IsLane, IsLeast, IsLow}
use Rattle.mscp_queue.proofs.LaneParts.{bit_from}

abbrev FoundLow : List ℕ → ℕ → ℕ → ℕ → ℕ → Type 0
FoundLow costs mask j n x = (x ≡ 2 ^ 64 - 1)
    ⊎ ((i : ℕ) × (i < n) × (bit_at mask (8 * i + j) ≡ 1) × (get_or costs (8 * i + j) 0 ≡ x))

abbrev FoundCost : List ℕ → ℕ → ℕ → Type 0
FoundCost costs mask x = (x ≡ 2 ^ 64 - 1) ⊎ ((k : ℕ) × (k < 64) × (bit_at mask k ≡ 1) × (get_or costs k 0 ≡ x))

lower_or : (a b : ℕ) → (a ≤ b) ⊎ (b < a)
lower_or a b = grind arith

below_or_at : (k n : ℕ) → k < n + 1 → (k < n) ⊎ (k ≡ n)
below_or_at k n l = grind arith

-- ---- lanes
module _ (v : List ℕ) (n x : ℕ) (old : IsLane v n x) where
  pub lane_more : IsLane v (n + 1) (min x (get_or v n 0))
  lane_more = search (arith, lower_or x (get_or v n 0), min x (get_or v n 0), below_or_at)

-- ---- the costs in one lane of each block
abbrev pub masked : ℕ → ℕ → ℕ
masked bit cost = cond (nat_eq bit 1) cost 18446744073709551615

module _ (costs : List ℕ) (mask n j x : ℕ) (old : IsLow costs mask n j x) where
  abbrev cost : ℕ
  cost = get_or costs (8 * n + j) 0

  low_on : bit_at mask (8 * n + j) ≡ 1 → IsLow costs mask (n + 1) j (min x cost)
  low_on set = search (arith, lower_or x cost, min x cost, below_or_at)

  low_off : bit_at mask (8 * n + j) ≢ 1 → IsLow costs mask (n + 1) j x
  low_off clear = search (arith, below_or_at)

  small : x ≤ 18446744073709551615 → min x 18446744073709551615 ≡ x
  small l = omega arith

  set_or : (m : ℕ) → (m ≡ 1) ⊎ (m ≢ 1)
  set_or m = grind (arith, nat_tests)

  on_is : (m a : ℕ) → m ≡ 1 → masked m a ≡ a
  on_is m a e = grind (arith, nat_tests, e)

  off_is : (m a : ℕ) → m ≢ 1 → masked m a ≡ 18446744073709551615
  off_is m a e = grind (arith, nat_tests, e)

  pub low_more : x ≤ 18446744073709551615 → IsLow costs mask (n + 1) j (min x (masked (bit_at mask (8 * n + j)) cost))
  low_more fits = grind (arith, set_or, min, on_is, low_on, off_is, small, low_off)

-- where no bit is set from a block on, its lanes hold nothing
pub low_whole : (costs : List ℕ) (mask n j x : ℕ)
    → mask / 2 ^ (8 * n) ≡ 0 → n ≤ 8 → IsLow costs mask n j x → IsLow costs mask 8 j x
low_whole costs mask n j x none few h = record { below = λ i l on. by i on (compare i n); found = kept h.found }
  where
    compare : (i n : ℕ) → (i < n) ⊎ (n ≤ i)
    compare i n = grind arith

    off : (k : ℕ) → 8 * n ≤ k → bit_at mask k ≡ 0
    off k l =
        let back : 8 * n + (k - 8 * n) ≡ k = omega arith in
        subst (λ k. bit_at mask k ≡ 0) back
        (sym (bit_from mask (8 * n) (k - 8 * n)) ∙ (ap (λ m. bit_at m (k - 8 * n)) none ∙ bit_at-zero (k - 8 * n)))

    by : (i : ℕ) → bit_at mask (8 * i + j) ≡ 1 → (i < n) ⊎ (n ≤ i) → x ≤ get_or costs (8 * i + j) 0
    by i on h3 = grind (arith, off)

    kept : FoundLow costs mask j n x → FoundLow costs mask j 8 x
    kept h1 = grind arith

-- ---- all costs
place_is : (k : ℕ) → 8 * (k / 8) + k % 8 ≡ k
place_is k = omega arith

pub cost_of : (costs low : List ℕ) (mask x : ℕ)
    → ((j : ℕ) → j < 8 → IsLow costs mask 8 j (get_or low j 0)) → IsLane low 8 x → IsCost costs mask x
cost_of costs low mask x each lane = record { below = under; found = found_by lane.found }
  where
    under : (k : ℕ) → k < 64 → bit_at mask k ≡ 1 → x ≤ get_or costs k 0
    under k l on =
        let is = place_is k in
        let one = lane.below (k % 8) (omega arith) in
        let two = (each (k % 8) (omega arith)).below (k / 8) (omega arith)
        (subst (λ k. bit_at mask k ≡ 1) (sym is) on) in
        let three : get_or costs (8 * (k / 8) + k % 8) 0 ≡ get_or costs k 0 = ap (λ k. get_or costs k 0) is in
        omega (arith, one, two, three)

    in_lane : (j : ℕ) → j < 8 → get_or low j 0 ≡ x → (get_or low j 0 ≡ 2 ^ 64 - 1)
        ⊎ ((i : ℕ) × (i < 8) × (bit_at mask (8 * i + j) ≡ 1) × (get_or costs (8 * i + j) 0 ≡ get_or low j 0))
        → FoundCost costs mask x
    in_lane j l e h4 = grind arith

    found_by : (x ≡ 2 ^ 64 - 1) ⊎ ((j : ℕ) × (j < 8) × (get_or low j 0 ≡ x)) → FoundCost costs mask x
    found_by h1 = grind (arith, in_lane)

-- ---- the first place
pub first_is_least : (costs : List ℕ) (mask x p : ℕ) → IsCost costs mask x → IsFirst costs mask x p
    → IsLeast costs mask p
first_is_least costs mask x p cost first = search arith

-- where no masked place holds the least cost, none is masked
pub none_masked : (costs : List ℕ) (mask x : ℕ) → mask < 2 ^ 64 → ((k : ℕ) → get_or costs k 0 < 2 ^ 64)
    → IsCost costs mask x → ((k : ℕ) → k < 64 → bit_at mask k ≡ 1 → get_or costs k 0 ≢ x) → mask ≡ 0
none_masked costs mask x small fits cost none = by (zero_or mask)
  where
    zero_or : (m : ℕ) → (m ≡ 0) ⊎ (0 < m)
    zero_or m = grind arith

    by_found : (k : ℕ) → k < 64 → bit_at mask k ≡ 1 → (x ≡ 2 ^ 64 - 1)
        ⊎ ((k : ℕ) × (k < 64) × (bit_at mask k ≡ 1) × (get_or costs k 0 ≡ x)) → mask ≡ 0
    by_found k l on h4 = grind arith

    by : (mask ≡ 0) ⊎ (0 < mask) → mask ≡ 0
    by (inl e) = e
    by (inr some) = let t = bit_at-trailing_zeros w64 mask some small in by_found
        (trailing_zeros w64 mask) t.0 t.1 cost.found

-- ---- the places of one block
one_of_min : (a b : ℕ) → min a b ≡ 1 → a < 2 → b < 2 → (a ≡ 1) × (b ≡ 1)
one_of_min a b e l m = (omega (arith, e), omega (arith, e))

both : (a b : ℕ) → a ≡ 1 → b ≡ 1 → min a b ≡ 1
both a b e f = omega (arith, e, f)

module _ (costs part : List ℕ) (mask n x eight : ℕ)
    (at : (k : ℕ) → k < 8 → get_or part k 0 ≡ get_or costs (8 * n + k) 0) (only : (k : ℕ) → bit_at eight k
    ≡ 1 → k < 8) (equal : (k : ℕ) → bit_at eight k ≡ 1 → get_or part k 0 ≡ x) (each : (k : ℕ) → k < 8 → get_or part k 0
    ≡ x → bit_at eight k ≡ 1) (before : (k : ℕ) → k < 8 * n → bit_at mask k ≡ 1 → get_or costs k 0 ≢ x) where
  abbrev hits : ℕ
  hits = bit_and eight (mask / 2 ^ (8 * n))

  hit : (k : ℕ) → bit_at hits k ≡ 1 → (bit_at eight k ≡ 1) × (bit_at mask (8 * n + k) ≡ 1)
  hit k set = grind (arith, one_of_min, bit_at_and, bit_at-lt, bit_from)

  hits_at : (k : ℕ) → k < 8 → bit_at mask (8 * n + k) ≡ 1 → get_or costs (8 * n + k) 0 ≡ x → bit_at hits k ≡ 1
  hits_at k l on e = grind (arith, bit_at_and, both, bit_from)

  within : (k t : ℕ) → 8 * n ≤ k → k < 8 * n + t → (8 * n + (k - 8 * n) ≡ k) × (k - 8 * n < t)
  within k t a b = (omega arith, omega arith)

  no_hit : (k : ℕ) → k < 8 → bit_at hits k ≢ 1 → bit_at mask (8 * n + k) ≡ 1 → get_or costs (8 * n + k) 0 ≢ x
  no_hit k l clear on = λ e. clear (hits_at k l on e)

  from_block : (t : ℕ) → t ≤ 8 → ((k : ℕ) → k < t → bit_at hits k ≢ 1)
      → (k : ℕ) → k < 8 * n + t → bit_at mask k ≡ 1 → (k < 8 * n) ⊎ (8 * n ≤ k) → get_or costs k 0 ≢ x
  from_block t l clear k below on (inl under) = before k under on
  from_block t l clear k below on (inr over) =
      let w = within k t over below in
      subst (λ k. get_or costs k 0 ≢ x) w.0
      (no_hit (k - 8 * n) (omega (arith, w.1)) (clear (k - 8 * n) w.1) (subst (λ k. bit_at mask k ≡ 1) (sym w.0) on))

  before_or : (k : ℕ) → (k < 8 * n) ⊎ (8 * n ≤ k)
  before_or k = grind arith

  zero_not_one : (b : ℕ) → b ≡ 0 → b ≢ 1
  zero_not_one b e = λ f. omega (arith, e, f)

  pub first_of : hits ≢ 0 → hits < 2 ^ 64 → n < 8 → IsFirst costs mask x (8 * n + trailing_zeros w64 hits)
  first_of some small few =
      let t = bit_at-trailing_zeros w64 hits (positive hits some) small in
      let h = hit (trailing_zeros w64 hits) t.1 in
      let low = only (trailing_zeros w64 hits) h.0 in
      record {
        low = omega (arith, low);
        masked = h.1;
        holds = sym (at (trailing_zeros w64 hits) low) ∙ equal (trailing_zeros w64 hits) h.0;
        first = λ k l on. from_block (trailing_zeros w64 hits)
            (omega (arith, low)) (λ i l. zero_not_one (bit_at hits i) (t.2 i l)) k l on (before_or k);
      }
    where
      positive : (a : ℕ) → a ≢ 0 → 0 < a
      positive a n = grind (arith, n)

  pub none_more : hits ≡ 0 → (k : ℕ) → k < 8 * (n + 1) → bit_at mask k ≡ 1 → get_or costs k 0 ≢ x
  none_more none k l on = from_block 8 (omega arith) (λ i l. zero_not_one
      (bit_at hits i) (ap (λ h. bit_at h i) none ∙ bit_at-zero_of i)) k (omega arith) on (before_or k)
    where
      bit_at-zero_of : (i : ℕ) → bit_at 0 i ≡ 0
      bit_at-zero_of i = bit_at-zero i

pub none_if : (costs : List ℕ) (mask x : ℕ) (p : Option ℕ) → mask < 2 ^ 64 → ((k : ℕ) → get_or costs k 0 < 2 ^ 64)
    → IsCost costs mask x → IfNone p ((k : ℕ) → k < 64 → bit_at mask k ≡ 1 → get_or costs k 0 ≢ x) → IfNone p (mask ≡ 0)
none_if costs mask x p h4 h5 h6 h7 = grind (arith, none_masked, small)

pub some_if : (costs : List ℕ) (mask x : ℕ) (p : Option ℕ) → IsCost costs mask x
    → IfSome p (λ p. IsFirst costs mask x p) → IfSome p (λ p. IsLeast costs mask p)
some_if costs mask x p h4 h5 = grind (arith, first_is_least)
