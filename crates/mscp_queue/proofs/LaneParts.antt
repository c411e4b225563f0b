-- Eight of sixty-four numbers, and what a write to them leaves.
use Rattle.mscp_queue.proofs.Common.{◌≡◌, ◌⊎◌, inl, inr, ℕ, ◌+◌, ◌-◌, ◌/◌, ◌%◌, ◌^◌, ◌<◌, ◌≤◌, List, length, get_or, cond, nat_eq, take, drop, sym, ap, subst, ◌∙◌, arith, bit_at, chunk, put_chunk, shr-shr, bit_at-zero, get_or-take, get_or-drop, get_or_append_left, get_or-append_right, length-take-le, length-append, length-drop, put_chunk_whole, get_or-chunk, HasLanes, lowered}
use borrow.Rule.Slice.PartMut.{mid_of, put_mid}

-- a store over the whole of eight numbers
pub whole_part : (part res : List ℕ) (bits by : ℕ) → length part ≡ 8 → HasLanes res (λ k. lowered bits
    by k (get_or (chunk 0 8 part) k 0)) → HasLanes (put_chunk 0 part res) (λ k. lowered bits by k (get_or part k 0))
whole_part part res bits by len h = search (arith, put_chunk_whole part res (omega arith), get_or-chunk)

-- the bits from place a on
pub bit_from : (mask a k : ℕ) → bit_at (mask / 2 ^ a) k ≡ bit_at mask (a + k)
bit_from mask a k = ap (λ x. x % 2) (shr-shr mask a k)

module _ (a n : ℕ) (xs : List ℕ) (eight : n ≡ 8) (room : a + 8 ≤ length xs) where
  pub at_mid : (k : ℕ) → k < 8 → get_or (mid_of a n xs) k 0 ≡ get_or xs (a + k) 0
  at_mid k l = get_or-take n (drop a xs) k 0 (omega arith) ∙ get_or-drop a xs k 0

  pub mid_long : length (mid_of a n xs) ≡ 8
  mid_long = search (arith, length-drop a xs, length-take-le)

  module _ (ys : List ℕ) (len : length ys ≡ 8) where
    front_len : length (take a xs) ≡ a
    front_len = length-take-le a xs (omega arith)

    pub put_len : length (put_mid a n xs ys) ≡ length xs
    put_len = grind (arith, length-append, length-drop, front_len)

    pub at_put_below : (k : ℕ) → k < a → get_or (put_mid a n xs ys) k 0 ≡ get_or xs k 0
    at_put_below k l = grind (arith, get_or_append_left, front_len, get_or-take)

    pub at_put : (k : ℕ) → k < 8 → get_or (put_mid a n xs ys) (a + k) 0 ≡ get_or ys k 0
    at_put k l = grind (arith, get_or-append_right, front_len, get_or_append_left)

    pub at_put_above : (k : ℕ) → a + 8 ≤ k → get_or (put_mid a n xs ys) k 0 ≡ get_or xs k 0
    at_put_above k l = grind (arith, get_or-append_right, front_len, get_or-drop)

-- the numbers below place a are lowered, and those from it on are as they were
pub record Lowered (mask by a : ℕ) (old xs : List ℕ) : Type 0 where
  pub long : length xs ≡ 64
  pub below : (k : ℕ) → k < a → get_or xs k 0 ≡ lowered mask by k (get_or old k 0)
  pub above : (k : ℕ) → a ≤ k → get_or xs k 0 ≡ get_or old k 0

split : (a k : ℕ) → k < a + 8 → (k < a) ⊎ (a ≤ k)
split a k l = grind arith

pub next : (mask by a n : ℕ) (old xs ys : List ℕ) → n ≡ 8 → a + 8 ≤ length xs → Lowered mask by a old xs → HasLanes ys
    (λ k. lowered (mask / 2 ^ a) by k (get_or (mid_of a n xs) k 0)) → Lowered mask by (a + 8) old (put_mid a n xs ys)
next mask by a n old xs ys eight room h new = record {
  long = put_len a n xs eight room ys new.long ∙ h.long;
  below = λ k l. go k l (split a k l);
  above = λ k l. at_put_above a n xs eight room ys new.long k l ∙ h.above k (omega arith);
}
  where
    here : (j : ℕ) → j < 8 → get_or (put_mid a n xs ys) (a + j) 0 ≡ lowered mask by (a + j) (get_or old (a + j) 0)
    here j l = grind (arith, at_put, at_mid, bit_from)

    go : (k : ℕ) → k < a + 8 → (k < a) ⊎ (a ≤ k) → get_or (put_mid a n xs ys) k 0 ≡ lowered mask by k (get_or old k 0)
    go k l (inl under) = at_put_below a n xs eight room ys new.long k under ∙ h.below k under
    go k l (inr over) =
        let back : a + (k - a) ≡ k = omega arith in
        subst (λ j. get_or (put_mid a n xs ys) j 0 ≡ lowered mask by j (get_or old j 0)) back
        (here (k - a) (omega arith))

pub next_at : (mask by a n e : ℕ) (old xs ys : List ℕ) → n ≡ 8 → a + 8 ≡ e → a + 8 ≤ length xs
    → Lowered mask by a old xs → HasLanes ys (λ k. lowered (mask / 2 ^ a) by k (get_or (mid_of a n xs) k 0))
    → Lowered mask by e old (put_mid a n xs ys)
next_at mask by a n e old xs ys eight up room h new = search (arith, next mask by a n old xs ys eight room h new)

-- where no bit is set from place a on, all are done
pub none_on : (mask by a : ℕ) (old xs : List ℕ) → mask / 2 ^ a ≡ 0 → Lowered mask by a old xs
    → (k : ℕ) → get_or xs k 0 ≡ lowered mask by k (get_or old k 0)
none_on mask by a old xs none h k = go (compare k a)
  where
    compare : (k a : ℕ) → (k < a) ⊎ (a ≤ k)
    compare k a = grind arith

    off : (j : ℕ) → bit_at mask (a + j) ≡ 0
    off j = sym (bit_from mask a j) ∙ ap (λ m. bit_at m j) none ∙ bit_at-zero j

    as_before : a ≤ k → get_or xs k 0 ≡ lowered mask by k (get_or old k 0)
    as_before over =
        let back : a + (k - a) ≡ k = omega arith in
        let zero_bit : bit_at mask k ≡ 0 = subst (λ j. bit_at mask j ≡ 0) back (off (k - a)) in
        h.above k over ∙ ap (λ b. cond (nat_eq b 1) (get_or old k 0 - by) (get_or old k 0)) (sym zero_bit)

    go : (k < a) ⊎ (a ≤ k) → get_or xs k 0 ≡ lowered mask by k (get_or old k 0)
    go h1 = grind (arith, as_before)
