-- Which slots of a unit are in front of its sequential commands.
use Rattle.mscp_queue.proofs.Common.{◌≡◌, ◌≢◌, ⊎_elim, ℕ, ◌<◌, ◌≤◌, ◌-◌, ◌^◌, true, false, bit_and, min, cond, refl, ap, sym, ◌∙◌, arith, slice_index_or, bit_at, w64, trailing_zeros, bit_at_and, bit_at-lt, bit_at-zero, bit_at-trailing_zeros, eq-eqb, ne_eqb, Masks, IsFence, IsFront, IsNarrowed, IsSet}
use Rattle.mscp_queue.proofs.Masked.{same_or}

-- of the sequential commands of a unit all but those left were looked at
pub record Narrows (drive : ℕ) (m : Masks) (unit left narrowed : ℕ) : Type 0 where
  pub own : unit ≡ slice_index_or m.units drive 0
  pub of_left : (s : ℕ) → s < 64 → bit_at left s ≡ 1 → (bit_at unit s ≡ 1) × (bit_at m.sequential s ≡ 1)
  pub to : (k : ℕ) → k < 64 → bit_at narrowed k ≡ 1 → bit_at unit k ≡ 1
  pub each : (k : ℕ) → k < 64 → bit_at narrowed k ≡ 1 → (s : ℕ) → s < 64 → bit_at unit s ≡ 1
      → bit_at m.sequential s ≡ 1 → bit_at left s ≡ 0 → s ≢ k → bit_at (slice_index_or m.earlier s 0) k ≡ 1
  pub from : (k : ℕ) → k < 64 → bit_at unit k ≡ 1 → ((s : ℕ) → s < 64 → bit_at unit s ≡ 1
      → bit_at m.sequential s ≡ 1 → bit_at left s ≡ 0 → s ≢ k → bit_at (slice_index_or m.earlier s 0) k ≡ 1)
      → bit_at narrowed k ≡ 1

both_set : (a b k : ℕ) → bit_at (bit_and a b) k ≡ 1 → (bit_at a k ≡ 1) × (bit_at b k ≡ 1)
both_set a b k e = omega (arith, bit_at_and a b k, e, bit_at-lt a k, bit_at-lt b k)

set_both : (a b k : ℕ) → bit_at a k ≡ 1 → bit_at b k ≡ 1 → bit_at (bit_and a b) k ≡ 1
set_both a b k e f = omega (arith, bit_at_and a b k, e, f)

-- at first all are left
pub narrows_first : {drive : ℕ} {m : Masks} (unit left : ℕ) → unit ≡ slice_index_or m.units drive 0
    → left ≡ bit_and unit m.sequential → Narrows drive m unit left unit
narrows_first unit left own is = grind (arith, own, both_set, set_both)

-- one more
pub narrows_more : {drive : ℕ} {m : Masks} {unit left narrowed : ℕ} (slot left' own narrowed' : ℕ)
    → Narrows drive m unit left narrowed → slot < 64 → bit_at left slot ≡ 1 → IsSet false slot left left'
    → IsSet true slot (slice_index_or m.earlier slot 0) own → narrowed' ≡ bit_and narrowed own
    → Narrows drive m unit left' narrowed'
narrows_more {drive} {m} {unit} {left} {narrowed} slot left' own narrowed' h low on gone more is = record {
  own = h.own;
  of_left = λ s l e. h.of_left s l (was s l e);
  to = λ k l e. h.to k l (parts k e).0;
  each = grind (arith, ⊎_elim, other, parts, kept, same_or);
  from = grind (arith, set_both, own, below, ⊎_elim, here, other, eq-eqb, same_or);
}
  where
    parts : (k : ℕ) → bit_at narrowed' k ≡ 1 → (bit_at narrowed k ≡ 1) × (bit_at own k ≡ 1)
    parts k e = both_set narrowed own k (ap (λ n. bit_at n k) (sym is) ∙ e)

    kept : (s : ℕ) → s < 64 → s ≢ slot → bit_at left' s ≡ bit_at left s
    kept s l d = gone s l ∙ ap (λ b. cond b 0 (bit_at left s)) (ne_eqb s slot d)

    was : (s : ℕ) → s < 64 → bit_at left' s ≡ 1 → bit_at left s ≡ 1
    was s l e = ⊎_elim (λ f. ap (bit_at left) f ∙ on) (λ f. sym (kept s l f) ∙ e) (same_or s slot)

    below : (s : ℕ) → s < 64 → bit_at left s ≡ 0 → bit_at left' s ≡ 0
    below s l off = grind (arith, ⊎_elim, kept, same_or)

    here : (k : ℕ) → k < 64 → k ≡ slot → bit_at own k ≡ 1
    here k l f = more k l ∙ ap (λ b. cond b 1 (bit_at (slice_index_or m.earlier slot 0) k)) (eq-eqb k slot f)

    other : (k : ℕ) → k < 64 → k ≢ slot → bit_at (slice_index_or m.earlier slot 0) k ≡ bit_at own k
    other k l d = sym (more k l ∙ ap (λ b. cond b 1 (bit_at (slice_index_or m.earlier slot 0) k)) (ne_eqb k slot d))

-- what is left gets less
pub less_left : (left left' n : ℕ) → n < 64 → bit_at left n ≡ 1 → IsSet false n left left' → left' ≤ left → left' < left
less_left left left' n low on set le = search (arith, eq-eqb n n refl)

-- in the end all were looked at
pub narrowed_all : {drive : ℕ} {m : Masks} {unit left narrowed : ℕ} → Narrows drive m unit left narrowed
    → ((n : ℕ) → n < 64 → bit_at left n ≡ 0) → IsNarrowed drive m narrowed
narrowed_all h off = grind arith

-- ---- the transfers of them, if there is one
pub front_alone : {drive : ℕ} {m : Masks} {narrowed : ℕ} (transfers : ℕ) → IsNarrowed drive m narrowed
    → ((k : ℕ) → k < 64 → bit_at transfers k ≡ min (bit_at narrowed k) (1 - bit_at m.sequential k))
    → transfers ≡ 0 → IsFront drive m narrowed
front_alone transfers h is none = grind (arith, bit_at-zero, bit_at-lt)

pub front_free : {drive : ℕ} {m : Masks} {narrowed : ℕ} (transfers : ℕ) → IsNarrowed drive m narrowed
    → ((k : ℕ) → k < 64 → bit_at transfers k ≡ min (bit_at narrowed k) (1 - bit_at m.sequential k))
    → transfers ≢ 0 → transfers < 2 ^ 64 → IsFront drive m transfers
front_free {drive} {m} {narrowed} transfers h is some small = record {
  to = grind (arith, parts);
  from = grind (arith, ⊎_elim, no_fence);
}
  where
    parts : (k : ℕ) → k < 64 → bit_at transfers k ≡ 1 → (bit_at narrowed k ≡ 1) × (bit_at m.sequential k ≡ 0)
    parts k l e = omega (arith, is k l, e, bit_at-lt narrowed k, bit_at-lt m.sequential k)

    positive : 0 < transfers
    positive = grind arith

    no_fence : IsFence drive m → ⊥
    no_fence fence =
        let t = bit_at-trailing_zeros w64 transfers positive small in
        let p = parts (trailing_zeros w64 transfers) t.0 t.1 in
        let q = fence (trailing_zeros w64 transfers) t.0 (h.to (trailing_zeros w64 transfers) t.0 p.0) in
        omega (arith, p.1, q)
