-- The masks tell which commands no earlier one keeps back.
use Rattle.mscp_queue.proofs.Common.{◌≡◌, ◌≢◌, ◌<◌, ◌^◌, ◌⊎◌, inl, inr, ℕ, Bool, true, false, not, ◌&&◌, ◌||◌, nat_eq, min, bit_and, List, [], ◌∷◌, ◌++◌, sym, subst, ap, ◌∙◌, refl, arith, w64, bit_at, trailing_zeros, list_all, eqb-true, eq-eqb, ne_eqb, append_assoc, append-nil, and_le_l, bit_at_and, bit_at-trailing_zeros, bit_at-zero, slice_index_or, Masks, AreEarlier, AreMasks, AreSlots, IsMaskOf, Kind, bit, fences, has, keeps_back}

-- the mask of a slot in the order holds those in front of it
pub earlier_at : (earlier : ℕ → ℕ) (done front : List ℕ) (s : ℕ) (back : List ℕ)
    → AreEarlier earlier done (front ++ s ∷ back) → IsMaskOf (earlier s) (λ k. has k (done ++ front))
earlier_at earlier done [] s back a = subst (λ xs. IsMaskOf (earlier s) (λ k. has k xs)) (sym (append-nil done)) a.0
earlier_at earlier done (x ∷ front) s back a =
    search (arith, append_assoc done (x ∷ []) front, earlier_at earlier (done ++ x ∷ []) front s back a.1)

has_front : (k : ℕ) (front back : List ℕ) → has k front ≡ true → has k (front ++ back) ≡ true
has_front k [] back e = let bad = ap bit e in absurd (omega (arith, bad))
has_front k (x ∷ front) back e = search (arith, nat_eq k x, has_front k front back)

below_64 : (k : ℕ) (front back : List ℕ) → AreSlots (front ++ back) → has k front ≡ true → k < 64
below_64 k [] back a e = let bad = ap bit e in absurd (omega (arith, bad))
below_64 k (x ∷ front) back a e = search (arith, nat_eq k x, eqb-true k x, below_64 k front back a.2)

module _ (test : ℕ → Bool) where
  -- where each of some slots fails a test, no slot is one of them and passes it
  none_has : (xs : List ℕ) → list_all (λ t. not (test t)) xs ≡ true → (k : ℕ) → (has k xs && test k) ≡ false
  none_has [] e k = refl
  none_has (x ∷ xs) e k = grind (arith, eqb-true, none_has xs)

  has_none : (xs : List ℕ) → ((k : ℕ) → has k xs ≡ true → test k ≡ false) → list_all (λ t. not (test t)) xs ≡ true
  has_none [] h = refl
  has_none (x ∷ xs) h = ap (λ b. not b && list_all (λ t. not (test t)) xs) (h x (ap (λ b. b || has x xs)
      (eq-eqb x x refl))) ∙ has_none xs (λ k e. h k (ap (λ b. nat_eq k x || b) e ∙ or_true (nat_eq k x)))
    where
      or_true : (b : Bool) → (b || true) ≡ true
      or_true h1 = grind arith

-- a mask with no bit is 0
no_bit : (m : ℕ) → m < 2 ^ 64 → ((k : ℕ) → k < 64 → bit_at m k ≢ 1) → m ≡ 0
no_bit m small none = by (zero_or m)
  where
    zero_or : (m : ℕ) → (m ≡ 0) ⊎ (0 < m)
    zero_or m = grind arith

    by : (m ≡ 0) ⊎ (0 < m) → m ≡ 0
    by (inl e) = e
    by (inr some) = let t = bit_at-trailing_zeros w64 m some small in absurd (none (trailing_zeros w64 m) t.0 t.1)

-- a mask of those slots that pass a test is 0 where none of them does, and there alone
module _ (m : ℕ) (front : List ℕ) (test : ℕ → Bool) (small : m < 2 ^ 64)
    (low : (k : ℕ) → has k front ≡ true → k < 64) (is : IsMaskOf m (λ k. has k front && test k)) where
  zero_from : list_all (λ t. not (test t)) front ≡ true → m ≡ 0
  zero_from e = no_bit m small (λ k l one. let f = sym one ∙ is k l
      ∙ ap bit (none_has test front e k) in omega (arith, f))

  zero_to : m ≡ 0 → list_all (λ t. not (test t)) front ≡ true
  zero_to e = grind (arith, has_none, low, bit_at-zero)

-- two masks joined
joined : (a b : ℕ) (p q r : ℕ → Bool) → IsMaskOf a p → IsMaskOf b q → ((k : ℕ) → (p k && q k) ≡ r k)
    → IsMaskOf (bit_and a b) r
joined a b p q r f g h = search (arith, bit_at_and, min)

for_sequential : (f o n q ys : Bool) → (f ≡ true → o ≡ true) → ys ≡ true → (f && (o && n)) ≡ (f && (n && (q || ys)))
for_sequential f o n q ys h5 h6 = grind arith

for_transfer : (f o n q ys : Bool) → (f ≡ true → o ≡ true) → ys ≡ false
    → ((f && (o && n)) && (o && q)) ≡ (f && (n && (q || ys)))
for_transfer f o n q ys h5 h6 = grind arith

tested : (m : ℕ) (b : Bool) → (b ≡ true → m ≡ 0) → (m ≡ 0 → b ≡ true) → nat_eq m 0 ≡ b
tested m b h2 h3 = grind (arith, eq-eqb, ne_eqb)

-- no slot in front keeps one back where the masks joined are 0
pub free_tells : (kinds : ℕ → Kind) (front : List ℕ) (s : ℕ) (back : List ℕ) (m : Masks)
    → AreMasks kinds (front ++ s ∷ back) m → slice_index_or m.earlier s 0 < 2 ^ 64 → nat_eq (fences m
    s (kinds s).drive (kinds s).sequential) 0 ≡ list_all (λ t. not (keeps_back (kinds t) (kinds s))) front
free_tells kinds front s back m masks small = by (kinds s).sequential refl
  where
    own : ℕ
    own = slice_index_or m.earlier s 0

    unit : ℕ
    unit = slice_index_or m.units (kinds s).drive 0

    in_front : IsMaskOf own (λ k. has k front)
    in_front = earlier_at (λ k. slice_index_or m.earlier k 0) [] front s back masks.of_earlier

    low : (k : ℕ) → has k front ≡ true → k < 64
    low k e = below_64 k front (s ∷ back) masks.apart e

    tells : (n : ℕ) → n < 2 ^ 64 → IsMaskOf n (λ k. has k front && keeps_back (kinds k) (kinds s))
        → nat_eq n 0 ≡ list_all (λ t. not (keeps_back (kinds t) (kinds s))) front
    tells n l is = tested n (list_all (λ t. not (keeps_back (kinds t) (kinds s))) front)
        (zero_from n front (λ k. keeps_back (kinds k) (kinds s)) l low is)
        (zero_to n front (λ k. keeps_back (kinds k) (kinds s)) l low is)

    by : (b : Bool) → (kinds s).sequential ≡ b
        → nat_eq (fences m s (kinds s).drive b) 0 ≡ list_all (λ t. not (keeps_back (kinds t) (kinds s))) front
    by true e =
        let under = and_le_l own unit in
        tells (bit_and own unit) (omega (arith, under, small))
        (joined own unit _ _ _ in_front (masks.of_units (kinds s).drive)
        (λ k. for_sequential (has k front) (has k (front ++ s ∷ back)) _ _ _ (has_front k front (s ∷ back)) e))
    by false e =
        let under = and_le_l own unit in
        let under_too = and_le_l (bit_and own unit) m.sequential in
        tells (bit_and (bit_and own unit) m.sequential) (omega (arith, under, under_too, small))
        (joined (bit_and own unit) m.sequential _ _ _
        (joined own unit _ _ (λ k. has k front && (has k (front ++ s ∷ back)
        && nat_eq (kinds k).drive (kinds s).drive)) in_front
        (masks.of_units (kinds s).drive) (λ k. refl))
        masks.of_sequential
        (λ k. for_transfer (has k front) (has k (front ++ s ∷ back)) _ _ _ (has_front k front (s ∷ back)) e))
