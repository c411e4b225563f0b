-- The ranges of slots, and the nearest of them.
use Rattle.mscp_queue.proofs.Basics.{◌≡◌, ◌≢◌, ◌⊎◌, inl, inr, ⊎_elim, ℕ, zero, suc, ◌<◌, ◌≤◌, ◌^◌, true, false, cond, nat_eq, List, set, get_or, length, refl, ap, sym, ◌∙◌, arith, bit_and, bit_at, bit_at-zero, bit_at-trailing_zeros, w64, trailing_zeros, eq-eqb, ne_eqb, get_or-set_other, get_or-set_same, length-set, IsSet, Target, same_or, eqb-true}
use Rattle.std.specs.Prelude.{bit_or, replicate}
use Rattle.std.proofs.lemmas.Nat.{or_lt}
use Rattle.std.proofs.lemmas.Nat.Bits.{bit_at_or}
use Rattle.mscp_queue.proofs.Common.{IsAbove, IsBelow, IsIn, IsNearest, IsSooner, AreRanged, AreRanges, bit_at_and, bit_at-lt, range_at}

-- ---- a slot is in another range from now on
pub ranged_set : {ranges masks : List ℕ} (slot range v w : ℕ) → AreRanged ranges masks → length ranges ≡ 64
    → length masks ≡ 64 → slot < 64 → range < 64
    → IsSet false slot (get_or masks (range_at ranges slot) 0) v
    → IsSet true slot (get_or (set masks (range_at ranges slot) v) range 0) w
    → AreRanged (set ranges slot range) (set (set masks (range_at ranges slot) v) range w)
ranged_set slot range v w h long many low few off on =
    grind (arith, same_or, get_or-set_same, get_or-set_other, ne_eqb, eq-eqb, length-set)

-- ---- the slots in a range
pub is_here : {ranges masks : List ℕ} (mask range k : ℕ) → AreRanged ranges masks → range < 64 → k < 64
    → bit_at (bit_and mask (get_or masks range 0)) k ≡ cond (nat_eq (range_at ranges k) range) (bit_at mask k) 0
is_here mask range k h l b = grind (arith, bit_at_and, bit_at-lt)

-- what is told of one range
abbrev pub IsHere : List ℕ → ℕ → ℕ → ℕ → Type 0
IsHere ranges mask range found =
    (k : ℕ) → k < 64 → bit_at found k ≡ cond (nat_eq (range_at ranges k) range) (bit_at mask k) 0

pub here_to : (ranges : List ℕ) (mask range found k : ℕ) → IsHere ranges mask range found → IsIn found k
    → IsIn mask k × (range_at ranges k ≡ range)
here_to ranges mask range found k h x = grind (arith, eqb-true)

pub here_from : (ranges : List ℕ) (mask range found k : ℕ) → IsHere ranges mask range found → IsIn mask k
    → range_at ranges k ≡ range → IsIn found k
here_from ranges mask range found k h x e = grind (arith, eq-eqb)

-- a mask that isn't 0 has a slot
pub some_in : (mask : ℕ) → mask ≢ 0 → mask < 2 ^ 64 → (j : ℕ) × IsIn mask j
some_in mask d small =
    let t = bit_at-trailing_zeros w64 mask (positive mask d) small in (trailing_zeros w64 mask, (t.0, t.1))
  where
    positive : (m : ℕ) → m ≢ 0 → 0 < m
    positive m e = grind (arith, e)

pub none_in : (mask k : ℕ) → mask ≡ 0 → IsIn mask k → ⊥
none_in mask k e x = let zero = ap (λ m. bit_at m k) (sym e) ∙ x.1 in omega (arith, zero, bit_at-zero k)

-- ---- the next range above
pub found_above : {ranges : List ℕ} {mask range other found : ℕ} → range < other
    → ((k : ℕ) → IsIn mask k → range < range_at ranges k → other ≤ range_at ranges k)
    → IsHere ranges mask other found → found ≢ 0 → found < 2 ^ 64 → IsAbove ranges mask range found
found_above {ranges} {mask} {range} {other} {found} l h here d small = record {
  to = λ k x. let t = here_to ranges mask other found k here x in (t.0, (let e = t.1 in omega (arith, e, l)));
  from = λ k x a. by k x (h k x a) (same_or (range_at ranges k) other);
}
  where
    by : (k : ℕ) → IsIn mask k → other ≤ range_at ranges k
        → (range_at ranges k ≡ other) ⊎ (range_at ranges k ≢ other)
        → IsIn found k ⊎ ((j : ℕ) × IsIn found j × (range_at ranges j < range_at ranges k))
    by k x a (inl e) = inl (here_from ranges mask other found k here x e)
    by k x a (inr f) =
        let s = some_in found d small in
        let t = here_to ranges mask other found s.0 here s.1 in
        inr (s.0, s.1, (let e = t.1 in omega (arith, e, a, f)))

pub none_above : {ranges : List ℕ} {mask range : ℕ} → ((k : ℕ) → range_at ranges k < 64)
    → ((k : ℕ) → IsIn mask k → range < range_at ranges k → 64 ≤ range_at ranges k) → IsAbove ranges mask range 0
none_above low h = grind (arith, none_in)

-- ---- the next below
pub found_below : {ranges : List ℕ} {mask range other found : ℕ} → other < range
    → ((k : ℕ) → IsIn mask k → range_at ranges k < range → range_at ranges k ≤ other)
    → IsHere ranges mask other found → found ≢ 0 → found < 2 ^ 64 → IsBelow ranges mask range found
found_below {ranges} {mask} {range} {other} {found} l h here d small = record {
  to = λ k x. let t = here_to ranges mask other found k here x in (t.0, (let e = t.1 in omega (arith, e, l)));
  from = λ k x a. by k x (h k x a) (same_or (range_at ranges k) other);
}
  where
    by : (k : ℕ) → IsIn mask k → range_at ranges k ≤ other
        → (range_at ranges k ≡ other) ⊎ (range_at ranges k ≢ other)
        → IsIn found k ⊎ ((j : ℕ) × IsIn found j × (range_at ranges k < range_at ranges j))
    by k x a (inl e) = inl (here_from ranges mask other found k here x e)
    by k x a (inr f) =
        let s = some_in found d small in
        let t = here_to ranges mask other found s.0 here s.1 in
        inr (s.0, s.1, (let e = t.1 in omega (arith, e, a, f)))

pub none_below : {ranges : List ℕ} {mask range : ℕ}
    → ((k : ℕ) → IsIn mask k → range_at ranges k < range → ⊥) → IsBelow ranges mask range 0
none_below h = grind (arith, none_in)

-- ---- the nearest to a head
or_to : (a b k : ℕ) → IsIn (bit_or a b) k → IsIn a k ⊎ IsIn b k
or_to a b k x = grind (arith, bit_at-lt, ⊎_elim, bit_at_or)

or_from : (a b k : ℕ) → IsIn a k ⊎ IsIn b k → IsIn (bit_or a b) k
or_from a b k h4 = grind (arith, bit_at_or, bit_at-lt)

-- a range is below another, or that, or above it
order_of : (a b : ℕ) → (a < b) ⊎ ((a ≡ b) ⊎ (b < a))
order_of a b = grind arith

pub or_small : (a b : ℕ) → a < 2 ^ 64 → b < 2 ^ 64 → bit_or a b < 2 ^ 64
or_small a b l m = or_lt 64 a b l m

module _ {ranges : List ℕ} {mask range : ℕ} (at over : ℕ) (here : IsHere ranges mask range at)
    (above : IsAbove ranges mask range over) where
  -- going up
  pub up_ahead : bit_or at over ≢ 0 → bit_or at over < 2 ^ 64 → IsNearest true ranges mask range (bit_or at over)
  up_ahead d small = record {
    to = λ k x. ⊎_elim (λ y. (here_to ranges mask range at k here y).0) (λ y. (above.to k y).0) (or_to at over k x);
    from = λ k x. by k x (order_of (range_at ranges k) range);
  }
    where
      first : (k : ℕ) → range_at ranges k < range → (j : ℕ) × IsIn (bit_or at over) j → (j : ℕ)
          × IsIn (bit_or at over) j × IsSooner true range (range_at ranges j) (range_at ranges k)
      first k l s = grind (arith, ⊎_elim, here_to, here, or_to)

      by : (k : ℕ) → IsIn mask k → (range_at ranges k < range) ⊎ ((range_at ranges k ≡ range)
          ⊎ (range < range_at ranges k)) → IsIn (bit_or at over) k ⊎ ((j : ℕ) × IsIn (bit_or at over) j
          × IsSooner true range (range_at ranges j) (range_at ranges k))
      by k x (inl l) = inr (first k l (some_in (bit_or at over) d small))
      by k x (inr (inl e)) = inl (or_from at over k (inl (here_from ranges mask range at k here x e)))
      by k x (inr (inr l)) = grind (arith, ⊎_elim, or_from)

module _ {ranges : List ℕ} {mask range : ℕ} (at over under : ℕ) (here : IsHere ranges mask range at)
    (above : IsAbove ranges mask range over) (below : IsBelow ranges mask range under) where
  pub up_behind : bit_or at over ≡ 0 → IsNearest true ranges mask range under
  up_behind e = record {
    to = λ k x. (below.to k x).0;
    from = λ k x. by k x (order_of (range_at ranges k) range);
  }
    where
      by : (k : ℕ) → IsIn mask k → (range_at ranges k < range) ⊎ ((range_at ranges k ≡ range)
          ⊎ (range < range_at ranges k)) → IsIn under k ⊎ ((j : ℕ) × IsIn under j
          × IsSooner true range (range_at ranges j) (range_at ranges k))
      by k x (inl l) = ⊎_elim (λ y. inl y) (λ y. inr (y.0, y.1, inr (l, y.2))) (below.from k x l)
      by k x (inr (inl f)) =
          absurd (none_in (bit_or at over) k e (or_from at over k (inl (here_from ranges mask range at k here x f))))
      by k x (inr (inr l)) = absurd (⊎_elim (λ y. none_in (bit_or at over) k e (or_from at over k (inr y)))
          (λ y. none_in (bit_or at over) y.0 e (or_from at over y.0 (inr y.1))) (above.from k x l))

-- and down
module _ {ranges : List ℕ} {mask range : ℕ} (at under : ℕ) (here : IsHere ranges mask range at)
    (below : IsBelow ranges mask range under) where
  pub down_ahead : bit_or at under ≢ 0 → bit_or at under < 2 ^ 64 → IsNearest false ranges mask range (bit_or at under)
  down_ahead d small = record {
    to = λ k x. ⊎_elim (λ y. (here_to ranges mask range at k here y).0) (λ y. (below.to k y).0) (or_to at under k x);
    from = λ k x. by k x (order_of (range_at ranges k) range);
  }
    where
      first : (k : ℕ) → range < range_at ranges k → (j : ℕ) × IsIn (bit_or at under) j → (j : ℕ)
          × IsIn (bit_or at under) j × IsSooner false range (range_at ranges j) (range_at ranges k)
      first k l s = grind (arith, ⊎_elim, here_to, here, below, or_to)

      by : (k : ℕ) → IsIn mask k → (range_at ranges k < range) ⊎ ((range_at ranges k ≡ range)
          ⊎ (range < range_at ranges k)) → IsIn (bit_or at under) k ⊎ ((j : ℕ) × IsIn (bit_or at under) j
          × IsSooner false range (range_at ranges j) (range_at ranges k))
      by k x h3 = grind (arith, ⊎_elim, or_from, below, here_from, here, first, some_in)

module _ {ranges : List ℕ} {mask range : ℕ} (at over under : ℕ) (here : IsHere ranges mask range at)
    (above : IsAbove ranges mask range over) (below : IsBelow ranges mask range under) where
  pub down_behind : bit_or at under ≡ 0 → IsNearest false ranges mask range over
  down_behind e = record {
    to = λ k x. (above.to k x).0;
    from = λ k x. by k x (order_of (range_at ranges k) range);
  }
    where
      by : (k : ℕ) → IsIn mask k → (range_at ranges k < range) ⊎ ((range_at ranges k ≡ range)
          ⊎ (range < range_at ranges k)) → IsIn over k ⊎ ((j : ℕ) × IsIn over j
          × IsSooner false range (range_at ranges j) (range_at ranges k))
      by k x (inl l) = absurd (⊎_elim (λ y. none_in (bit_or at under) k e (or_from at under k (inr y)))
          (λ y. none_in (bit_or at under) y.0 e (or_from at under y.0 (inr y.1))) (below.from k x l))
      by k x (inr (inl f)) =
          absurd (none_in (bit_or at under) k e (or_from at under k (inl (here_from ranges mask range at k here x f))))
      by k x (inr (inr l)) = ⊎_elim (λ y. inl y) (λ y. inr (y.0, y.1, inr (l, y.2))) (above.from k x l)

-- ---- at first each slot is in the first range
pub alike : {X : Type 0} (n k : ℕ) (x : X) → get_or (replicate n x) k x ≡ x
alike zero k x = refl
alike (suc n) zero x = refl
alike (suc n) (suc k) x = alike n k x

pub zeros : (n k : ℕ) → get_or {A = ℕ} (replicate n 0) k 0 ≡ 0
zeros n k = let none : ℕ = 0 in alike n k none

pub ranged_none : (ranges masks : List ℕ) → ((k : ℕ) → range_at ranges k ≡ 0)
    → ((k : ℕ) → k < 64 → bit_at (get_or masks 0 0) k ≡ 1) → ((r : ℕ) → 0 < r → get_or masks r 0 ≡ 0)
    → AreRanged ranges masks
ranged_none ranges masks none first rest = grind (arith, same_or, eq-eqb, bit_at-zero, ne_eqb)

-- a slot has another target, and its range
pub ranges_pushed : (own : List Target) (ranges new : List ℕ) (n : ℕ) (a : Target) → length own ≡ 64
    → length ranges ≡ 64
    → n < 64 → AreRanges own ranges → new ≡ set ranges n a.range → AreRanges (set own n a) new
ranges_pushed own ranges new n a long many low h e k l = grind (arith, same_or, get_or-set_same, get_or-set_other)
