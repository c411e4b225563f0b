-- A slot in front of the sequential commands of its unit is that of a command that nobody keeps back.
use Rattle.mscp_queue.proofs.Basics.{◌≡◌, ◌≢◌, ◌⊎◌, inl, inr, ⊎_elim, ℕ, suc, ◌<◌, ◌≤◌, Bool, true, false, not, ◌&&◌, ◌||◌, nat_eq, nat_lt, List, [], ◌∷◌, map, take, get_or, length, refl, ap, sym, ◌∙◌, subst, arith, slice_index_or, bit_at, list_all, All-from_recursion, eq-eqb, eqb-true, lt-ltb, false≢true, get_or-map, get_or-take, length-map, length-take-le, every_of, Masks, AreMasks, AreEarlier, IsMaskOf, Kind, bit, has, keeps_back, no_kind, is_unfenced_at, cut_order, earlier_at, IsNumber, one_bit, slot_has, slot_low}
use Rattle.mscp_queue.proofs.Common.{IsFence, IsFront, IsInFront, IsOpenOn, le-ltb}
use Rattle.mscp_queue.proofs.Counted.{one_place, placed}
use Rattle.mscp_queue.proofs.Masked.{same_or}

-- ---- by places alone: which are of a unit, and which are sequential
module _ (n : ℕ) (on sq : ℕ → Bool) where
  -- it is of the unit, and none of its sequential ones is in front of it
  pub record In (p : ℕ) : Type 0 where
    pub own : on p ≡ true
    pub each : (s : ℕ) → s < n → on s ≡ true → sq s ≡ true → s ≢ p → p < s

  -- it is of the unit, and none in front of it keeps it back
  pub record Opens (p : ℕ) : Type 0 where
    pub own : on p ≡ true
    pub none : (z : ℕ) → z < p → on z ≡ true → (sq z ≡ true) ⊎ (sq p ≡ true) → ⊥

  abbrev Fence : Type 0
  Fence = (j : ℕ) → j < n → In j → sq j ≡ true

  pub in_opens : (p : ℕ) → p < n → In p → (sq p ≡ true → Fence) → Opens p
  in_opens p l h fence = grind (arith, ⊎_elim, same_or)

  pub opens_in : (p : ℕ) → p < n → Opens p → In p
  opens_in p l h = grind arith

  pub opens_fence : (p : ℕ) → p < n → Opens p → (sq p ≡ false) ⊎ Fence
  opens_fence p l h = by (sq p) refl
    where
      by : (b : Bool) → sq p ≡ b → (sq p ≡ false) ⊎ Fence
      by false e = inl e
      by true e = grind (arith, false≢true)

-- ---- what a list of tests says
pub all_at : {X : Type 0} (test : X → Bool) (xs : List X) (i : ℕ) (d : X) → list_all test xs ≡ true → i < length xs
    → test (get_or xs i d) ≡ true
all_at test xs i d e l = All-from_recursion (λ x. test x ≡ true) xs (every_of test xs e) i d l

pub at_all : {X : Type 0} (test : X → Bool) (xs : List X) (d : X)
    → ((i : ℕ) → i < length xs → test (get_or xs i d) ≡ true) → list_all test xs ≡ true
at_all test [] d h = refl
at_all test (x ∷ xs) d h =
    ap (λ b. b && list_all test xs) (h 0 (omega arith)) ∙ at_all test xs d (λ i l. h (suc i) (omega (arith, l)))

fence_off : (zd rd at : ℕ) (zs rs : Bool) → nat_eq rd at ≡ true
    → (nat_eq zd at ≡ true → (zs ≡ true) ⊎ (rs ≡ true) → ⊥) → not (nat_eq zd rd && (zs || rs)) ≡ true
fence_off zd rd at zs rs e h = grind (arith, eq-eqb, eqb-true)

off_fence : (zd rd at : ℕ) (zs rs : Bool) → nat_eq rd at ≡ true → not (nat_eq zd rd && (zs || rs)) ≡ true
    → nat_eq zd at ≡ true → (zs ≡ true) ⊎ (rs ≡ true) → ⊥
off_fence zd rd at zs rs e h f o = grind (arith, eq-eqb, eqb-true, false≢true, ⊎_elim)

-- ---- by the masks
module _ (kinds : ℕ → Kind) (order : List ℕ) (m : Masks) (masks : AreMasks kinds order m) (at : ℕ) where
  abbrev number : ℕ → ℕ
  number p = get_or order p 0

  abbrev on : ℕ → Bool
  on p = nat_eq (kinds (number p)).drive at

  abbrev sq : ℕ → Bool
  sq p = (kinds (number p)).sequential

  low : (p : ℕ) → p < length order → number p < 64
  low p l = slot_low order p masks.apart l

  unit_bit : (p : ℕ) → p < length order → bit_at (slice_index_or m.units at 0) (number p) ≡ bit (on p)
  unit_bit p l = masks.of_units at (number p) (low p l) ∙ ap (λ b. bit (b && on p)) (slot_has order p l)

  seq_bit : (p : ℕ) → p < length order → bit_at m.sequential (number p) ≡ bit (sq p)
  seq_bit p l = masks.of_sequential (number p) (low p l) ∙ ap (λ b. bit (b && sq p)) (slot_has order p l)

  pub early_bit : (p q : ℕ) → p < length order → q < length order
      → bit_at (slice_index_or m.earlier (number p) 0) (number q) ≡ bit (nat_lt q p)
  early_bit p q l k = is (number q) (low q k) ∙ ap bit (by (lt_or q p))
    where
      here : IsNumber order p (number p)
      here = record { low = low p l; taken = slot_has order p l; inside = l; is = refl }

      is : IsMaskOf (slice_index_or m.earlier (number p) 0) (λ k. has k (take p order))
      is = earlier_at (λ k. slice_index_or m.earlier k 0) [] (take p order) (number p) _
          (subst (AreEarlier (λ k. slice_index_or m.earlier k 0) []) (cut_order order p
          (number p) here) masks.of_earlier)

      lt_or : (a b : ℕ) → (a < b) ⊎ (b ≤ a)
      lt_or a b = grind arith

      long : length (take p order) ≡ p
      long = length-take-le p order (omega (arith, l))

      none : p ≤ q → (b : Bool) → has (number q) (take p order) ≡ b → b ≡ nat_lt q p
      none g h2 e = grind (arith, le-ltb, placed, long, one_place, get_or-take)

      by : (q < p) ⊎ (p ≤ q) → has (number q) (take p order) ≡ nat_lt q p
      by (inl g) = ap (λ k. has k (take p order)) (sym (get_or-take p order q 0 g))
          ∙ (slot_has (take p order) q (omega (arith, g, long)) ∙ sym (lt-ltb q p g))
      by (inr g) = none g (has (number q) (take p order)) refl

  -- a slot of the unit stands at a place
  there : (k : ℕ) → k < 64 → bit_at (slice_index_or m.units at 0) k ≡ 1
      → (p : ℕ) × (p < length order) × (k ≡ number p)
  there k l e = grind (arith, placed)

  off : (b : Bool) → bit b ≡ 0 → b ≡ false
  off h1 e = grind arith

  abbrev Inside : ℕ → Type 0
  Inside = In (length order) on sq

  in_front : (p : ℕ) → p < length order → IsInFront at m (number p) → Inside p
  in_front p l h = grind (arith, one_bit, unit_bit, early_bit, low, seq_bit, one_place)

  front_in : (p : ℕ) → p < length order → Inside p → IsInFront at m (number p)
  front_in p l h = grind (arith, unit_bit, there, one_bit, seq_bit, early_bit, lt-ltb)

  abbrev Alone : Type 0
  Alone = (j : ℕ) → j < length order → Inside j → sq j ≡ true

  fence_to : IsFence at m → Alone
  fence_to h j l f = one_bit (sq j) (sym (seq_bit j l) ∙ h (number j) (low j l) (front_in j l f))

  fence_from : Alone → IsFence at m
  fence_from h k l f = grind (arith, there, seq_bit, in_front)

  abbrev ks : List Kind
  ks = map kinds order

  kind_is : (p : ℕ) → p < length order → get_or ks p no_kind ≡ kinds (number p)
  kind_is p l = get_or-map kinds order p 0 no_kind l

  unfenced : (p : ℕ) → p < length order → Opens (length order) on sq p → is_unfenced_at ks p ≡ true
  unfenced p l h = at_all (λ z. not (keeps_back z (get_or ks p no_kind))) (take p ks) no_kind (λ z b.
      let under : z < p = omega (arith, b, length-take-le p ks (omega (arith, l, length-map order kinds))) in
      let inside : z < length order = omega (arith, under, l) in
      (λ i. not (keeps_back ((get_or-take p ks z no_kind under ∙ kind_is z inside) i) (kind_is p l i)))
      ∙ fence_off (kinds (number z)).drive (kinds (number p)).drive at (sq z) (sq p) h.own
      (λ u o. h.none z under u o))

  opens : (p : ℕ) → p < length order → on p ≡ true → is_unfenced_at ks p ≡ true → Opens (length order) on sq p
  opens p l own e = record {
    own = own;
    none = λ z under u o.
        let inside : z < length order = omega (arith, under, l) in
        let long : z < length (take p ks) = grind (arith, length-take-le, length-map) in
        off_fence (kinds (number z)).drive (kinds (number p)).drive at (sq z) (sq p) own
        ((λ i. not (keeps_back (sym (get_or-take p ks z no_kind under ∙ kind_is z inside) i) (sym (kind_is p l) i)))
        ∙ all_at (λ z. not (keeps_back z (get_or ks p no_kind))) (take p ks) z no_kind e long) u o;
  }

  -- ---- so the bits of the front are those of the commands that are open on the drive
  pub front_open : (front p : ℕ) → IsFront at m front → p < length order → bit_at front (number p) ≡ 1
      → IsOpenOn ks at p
  front_open front p h l e =
      grind (arith, low, in_opens, in_front, fence_to, seq_bit, length-map, kind_is, eqb-true, unfenced)

  pub open_front : (front p : ℕ) → IsFront at m front → IsOpenOn ks at p → bit_at front (number p) ≡ 1
  open_front front p h e =
      let l : p < length order = omega (arith, e.inside, length-map order kinds) in
      let own = eq-eqb (kinds (number p)).drive at (sym (ap (λ (k : Kind). k.drive) (kind_is p l)) ∙ e.drive) in
      let o = opens p l own e.free in
      h.from (number p) (low p l) (front_in p l (opens_in (length order) on sq p l o))
      (⊎_elim (λ q. inl (seq_bit p l ∙ ap bit q)) (λ f. inr (fence_from f)) (opens_fence (length order) on sq p l o))
