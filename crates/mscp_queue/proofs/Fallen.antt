-- What slots show once dues fell: of all, or of those behind a place.
use Rattle.mscp_queue.proofs.Basics.{◌≡◌, ◌≢◌, ◌<◌, ◌≤◌, ◌+◌, ◌-◌, ◌⊎◌, inl, inr, ℕ, Bool, true, false, cond, ◌&&◌, ◌||◌, min, nat_eq, List, [], ◌∷◌, ◌++◌, map, take, drop, get_or, length, append_assoc, sym, subst, ap, ◌∙◌, refl, arith, All, bit_at, AllByRecursion, eq-eqb, eqb-true, ne_eqb, drop-map, map-append, map-id, take-map, take_more, All-from_recursion, recursion_from_All, Target, Masks, Slot, lowered, AreMasks, AreSlots, IsBehind, IsMaskOf, Kind, bit, has, Record, no_target, AreKept, held, kind_at, lowered_by, shown, slot_at, earlier_at, once_in, one_bit, same_or, IsNumber, cut_order, slot_is}

-- what a lowered due leaves of a slot
module _ (rs : List Record) (own : List Target)
    (ds ds' : List ℕ) (mask by : ℕ) (fall : (k : ℕ) → k < 64 → get_or ds' k 0 ≡ lowered mask by k (get_or ds k 0)) where
  pub fell : (k : ℕ) → k < 64 → bit_at mask k ≡ 1 → held rs own ds' k ≡ lowered_by by (held rs own ds k)
  fell k l on = grind (arith, by, eq-eqb)

  pub stayed : (k : ℕ) → k < 64 → bit_at mask k ≡ 0 → held rs own ds' k ≡ held rs own ds k
  stayed k l off = grind (arith, off, by, ne_eqb)

-- each slot of the order holds what a function makes of what it held
pub each_held : {X Y : Type 0} (f : ℕ → X) (g : ℕ → Y) (h : X → Y) (order : List ℕ)
    → AreSlots order → ((k : ℕ) → k < 64 → has k order ≡ true → g k ≡ h (f k)) → map g order ≡ map h (map f order)
each_held f g h [] a e = refl
each_held f g h (s ∷ order) a e = (λ i. e s a.0 (ap (λ b. b || has s order) (eq-eqb s s refl))
    i ∷ each_held f g h order a.2 (λ k l there. e k l (ap (λ b. nat_eq k s || b) there ∙ or_true (nat_eq k s))) i)
  where
    or_true : (b : Bool) → (b || true) ≡ true
    or_true h1 = grind arith

-- what holds of each slot that is shown holds of the slot of each number
pub of_shown : {X : Type 0} (P : X → Type 0) (f : ℕ → X) (order : List ℕ) (k : ℕ) → AllByRecursion P (map f order)
    → has k order ≡ true → P (f k)
of_shown P f [] k h e = let bad = ap bit e in absurd (omega (arith, bad))
of_shown P f (s ∷ order) k h e = grind (arith, eqb-true, of_shown P f order k h.1)

waits_bit : (order : List ℕ) (waiting k : ℕ) → IsMaskOf waiting (λ k. has k order) → k < 64 → bit_at waiting k ≡ 1
    → has k order ≡ true
waits_bit order waiting k is l on = one_bit (has k order) (sym (is k l) ∙ on)

pub enough_all : {rs : List Record} {own : List Target} {order : List ℕ} {m : Masks} (ds : List ℕ)
    (now : List Slot) (by : ℕ) → AreKept rs own order m → shown rs own ds order ≡ now
    → All (λ s. by ≤ s.due) now → (k : ℕ) → k < 64 → bit_at m.waiting k ≡ 1 → by ≤ get_or ds k 0
enough_all {rs} {own} {order} {m} ds now by kept view enough k l on = of_shown
    (λ (s : Slot). by ≤ s.due) (held rs own ds) order k (subst (AllByRecursion (λ (s : Slot). by ≤ s.due)) (sym view)
    (recursion_from_All (λ (s : Slot). by ≤ s.due) now enough)) (waits_bit order m.waiting k kept.masks.of_waiting l on)

pub lowered_all : {rs : List Record} {own : List Target} {order : List ℕ} {m : Masks} (ds ds' : List ℕ)
    (now : List Slot) (by : ℕ) → AreKept rs own order m → shown rs own ds order ≡ now → ((k : ℕ) → k < 64
    → get_or ds' k 0 ≡ lowered m.waiting by k (get_or ds k 0)) → shown rs own ds' order ≡ map (lowered_by by) now
lowered_all {rs} {own} {order} {m} ds ds' now by kept view fall = search (arith, each_held)

on_off : bit true ≡ bit false → ⊥
on_off e = omega (arith, e)

has_back : (k : ℕ) (front : List ℕ) (n : ℕ) (back : List ℕ) → has k back ≡ true → has k (front ++ n ∷ back) ≡ true
has_back k [] n back e = search (arith, nat_eq k n)
has_back k (x ∷ front) n back e = search (arith, nat_eq k x, has_back k front n back e)

not_front : (k : ℕ) (front : List ℕ) (n : ℕ) (back : List ℕ) → AreSlots (front ++ n ∷ back) → has k back ≡ true
    → has k front ≡ false
not_front k [] n back a e = refl
not_front k (x ∷ front) n back a e = grind (arith, on_off, has_back, ne_eqb, not_front k front n back a.2 e)

pub slots_front : (front : List ℕ) (n : ℕ) (back : List ℕ) → AreSlots (front ++ n ∷ back) → AreSlots front
slots_front [] n back a = tt
slots_front (x ∷ front) n back a = (a.0, in_part x front (n ∷ back) a.1, slots_front front n back a.2)
  where
    in_part : (x : ℕ) (front back : List ℕ) → has x (front ++ back) ≡ false → has x front ≡ false
    in_part x [] back e = refl
    in_part x (y ∷ front) back e = grind (arith, in_part x front back)

slots_back : (front : List ℕ) (n : ℕ) (back : List ℕ) → AreSlots (front ++ n ∷ back) → AreSlots back
slots_back [] n back a = a.2
slots_back (x ∷ front) n back a = slots_back front n back a.2

-- one behind a slot waits, and isn't earlier
later : (kinds : ℕ → Kind) (front : List ℕ) (n : ℕ) (back : List ℕ) (m : Masks) → AreMasks kinds (front ++ n ∷ back) m
    → (k : ℕ) → k < 64 → has k back ≡ true → (bit_at m.waiting k ≡ 1) × (bit_at (get_or m.earlier n 0) k ≡ 0) × (k ≢ n)
later kinds front n back m masks k l there =
    let once = once_in front n back masks.apart in
    let earlier : IsMaskOf (get_or m.earlier n 0) (λ k. has k front) =
    earlier_at (λ k. get_or m.earlier k 0) [] front n back masks.of_earlier in
    search (arith, has_back, not_front, on_off)

-- those behind a slot
module _ (kinds : ℕ → Kind) (front : List ℕ) (n : ℕ)
    (back : List ℕ) (m : Masks) (mask : ℕ) (masks : AreMasks kinds (front ++ n ∷ back) m) (is : IsBehind n m mask) where
  in_earlier : IsMaskOf (get_or m.earlier n 0) (λ k. has k front)
  in_earlier = earlier_at (λ k. get_or m.earlier k 0) [] front n back masks.of_earlier

  once : (has n front ≡ false) × (has n back ≡ false)
  once = once_in front n back masks.apart

  pub own_off : bit_at mask n ≡ 0
  own_off = is n (low_in front n back masks.apart) ∙ ap (λ b. cond b 0
      (min (bit_at m.waiting n) (1 - bit_at (get_or m.earlier n 0) n))) (eq-eqb n n refl)
    where
      low_in : (front : List ℕ) (n : ℕ) (back : List ℕ) → AreSlots (front ++ n ∷ back) → n < 64
      low_in [] n back a = a.0
      low_in (x ∷ front) n back a = low_in front n back a.2

  other_is : (k : ℕ) → k < 64 → k ≢ n
      → bit_at mask k ≡ min (bit_at m.waiting k) (1 - bit_at (get_or m.earlier n 0) k)
  other_is k l d = grind (arith, ne_eqb)

  pub front_off : (k : ℕ) → k < 64 → has k front ≡ true → bit_at mask k ≡ 0
  front_off k l there = grind (arith, once, in_earlier, other_is)

  -- a slot that isn't taken
  pub gone_off : (k : ℕ) → k < 64 → has k front ≡ false → k ≢ n → has k back ≡ false → bit_at mask k ≡ 0
  gone_off k l p d q = other_is k l d ∙ none (bit_at m.waiting k) (bit_at (get_or m.earlier n 0) k)
      (masks.of_waiting k l ∙ ap bit (has_in k front n back ∙ (λ i. p i || (ne_eqb k n d i || q i))))
    where
      none : (a b : ℕ) → a ≡ 0 → min a (1 - b) ≡ 0
      none a b e = omega (arith, e)

      has_in : (k : ℕ) (front : List ℕ) (n : ℕ) (back : List ℕ)
          → has k (front ++ n ∷ back) ≡ (has k front || (nat_eq k n || has k back))
      has_in k [] n back = refl
      has_in k (x ∷ front) n back = grind (arith, has_in k front n back)

  pub back_is : (k : ℕ) → k < 64 → has k back ≡ true → bit_at mask k ≡ 1
  back_is k l there = grind (arith, once, has_back, masks, in_earlier, not_front, other_is)

-- the dues behind a place
module _ {rs : List Record} {own : List Target} {order : List ℕ} {m : Masks} {place n : ℕ} (ds ds' : List ℕ)
    (now : List Slot) (by mask : ℕ) (kept : AreKept rs own order m) (view : shown rs own ds order
    ≡ now) (inside : place < length now) (h : IsNumber order place n) (is : IsBehind n m mask) where
  abbrev f : ℕ → Slot
  f = held rs own ds

  abbrev g : ℕ → Slot
  g = held rs own ds'

  abbrev front : List ℕ
  front = take place order

  abbrev back : List ℕ
  back = drop (place + 1) order

  cut : order ≡ front ++ n ∷ back
  cut = cut_order order place n h

  masks : AreMasks (kind_at rs own) (front ++ n ∷ back) m
  masks = subst (λ o. AreMasks (kind_at rs own) o m) cut kept.masks

  behind_is : map f back ≡ drop (place + 1) now
  behind_is = sym (drop-map f (place + 1) order) ∙ ap (drop (place + 1)) view

  pub enough_behind : All (λ s. by ≤ s.due) (drop (place + 1) now)
      → (k : ℕ) → k < 64 → bit_at mask k ≡ 1 → by ≤ get_or ds k 0
  enough_behind enough k l on = where_is (has k back) refl
    where
      each : AllByRecursion (λ (s : Slot). by ≤ s.due) (map f back)
      each = subst (AllByRecursion (λ (s : Slot). by ≤ s.due)) (sym behind_is)
          (recursion_from_All (λ (s : Slot). by ≤ s.due) (drop (place + 1) now) enough)

      where_is : (b : Bool) → has k back ≡ b → by ≤ get_or ds k 0
      where_is true e = of_shown (λ (s : Slot). by ≤ s.due) f back k each e
      where_is false e = absurd (nowhere (has k front) refl (same_or k n))
        where
          off : (b : Bool) → has k front ≡ b → k ≢ n → bit_at mask k ≡ 0
          off true q d = front_off (kind_at rs own) front n back m mask masks is k l q
          off false q d = gone_off (kind_at rs own) front n back m mask masks is k l q d e

          nowhere : (b : Bool) → has k front ≡ b → (k ≡ n) ⊎ (k ≢ n) → ⊥
          nowhere b q (inl s) =
              let zero_bit = ap (bit_at mask) s ∙ own_off (kind_at rs own) front n back m mask masks is in
              omega (arith, on, zero_bit)
          nowhere b q (inr d) = let zero_bit = off b q d in omega (arith, on, zero_bit)

  pub lowered_behind : ((k : ℕ) → k < 64 → get_or ds' k 0 ≡ lowered mask by k (get_or ds k 0))
      → shown rs own ds' order ≡ take (place + 1) now ++ map (lowered_by by) (drop (place + 1) now)
  lowered_behind fall = ap (map g) cut ∙ (map-append g front (n ∷ back) ∙ ((λ i. in_front i ++ own_kept i ∷ behind i)
      ∙ (sym (append_assoc (map f front) (f n ∷ []) (map (lowered_by by) (map f back)))
      ∙ ((λ i. first i ++ map (lowered_by by) (behind_is i))))))
    where
      apart : AreSlots (front ++ n ∷ back)
      apart = masks.apart

      in_front : map g front ≡ map f front
      in_front = each_held f g (λ s. s) front (slots_front front n back apart)
          (λ k l there. stayed rs own ds ds' mask by fall k l
          (front_off (kind_at rs own) front n back m mask masks is k l there))
          ∙ map-id (map f front)

      own_kept : g n ≡ f n
      own_kept = stayed rs own ds ds' mask by fall n h.low (own_off (kind_at rs own) front n back m mask masks is)

      behind : map g back ≡ map (lowered_by by) (map f back)
      behind = each_held f g (lowered_by by) back (slots_back front n back apart)
          (λ k l there. fell rs own ds ds' mask by fall k l
          (back_is (kind_at rs own) front n back m mask masks is k l there))

      first : map f front ++ f n ∷ [] ≡ take (place + 1) now
      first = sym (map-append f front (n ∷ []))
          ∙ (ap (map f) (ap (λ k. front ++ k ∷ []) h.is ∙ sym (take_more order place 0 h.inside))
          ∙ (sym (take-map f (place + 1) order) ∙ ap (take (place + 1)) view))

-- each behind a place is of the unit of the one there, where those that aren't earlier are
pub of_unit_behind : {rs : List Record} {own : List Target} {order : List ℕ} {m : Masks}
    {place n drive : ℕ} (ds : List ℕ) (now : List Slot) → AreKept rs own order m → shown rs own ds order ≡ now
    → place < length now → IsNumber order place n → drive ≡ (get_or own n no_target).drive → ((k : ℕ) → k < 64
    → bit_at m.waiting k ≡ 1 → bit_at (get_or m.earlier n 0) k ≡ 0 → k ≢ n → bit_at (get_or m.units drive 0) k ≡ 1)
    → All (λ s. s.target.drive ≡ (slot_at now place).target.drive) (drop (place + 1) now)
of_unit_behind {rs} {own} {order} {m} {place} {n} {drive} ds now kept view inside h e units =
    let f = held rs own ds in
    let front = take place order in
    let back = drop (place + 1) order in
    let masks = subst (λ o. AreMasks (kind_at rs own) o m) (cut_order order place n h) kept.masks in
    let d = (slot_at now place).target.drive in
    let P : Slot → Type 0 = λ s. s.target.drive ≡ d in
    let there : drive ≡ d = search (arith, slot_is rs own ds order now place n view inside h.is) in
    subst (All P) (sym (drop-map f (place + 1) order) ∙ ap (drop (place + 1)) view)
    (All-from_recursion P (map f back) (each back (slots_back front n back masks.apart) (λ k l in_back.
    let bits = later (kind_at rs own) front n back m masks k l in_back in
    own_drive (nat_eq (kind_at rs own k).drive drive) (eqb-true (kind_at rs own k).drive drive) (has k order)
    (sym (kept.masks.of_units drive k l) ∙ units k l bits.0 bits.1 bits.2) ∙ there)))
  where
    own_drive : {k drive : ℕ} (b : Bool) → (b ≡ true → k ≡ drive) → (a : Bool) → bit (a && b) ≡ 1 → k ≡ drive
    own_drive h1 same h3 e = grind arith

    each : (back : List ℕ) → AreSlots back
        → ((k : ℕ) → k < 64 → has k back ≡ true → (held rs own ds k).target.drive ≡ (slot_at now place).target.drive)
        → AllByRecursion (λ s. s.target.drive ≡ (slot_at now place).target.drive) (map (held rs own ds) back)
    each [] a e = tt
    each (s ∷ back) a e = (
      e s a.0 (ap (λ b. b || has s back) (eq-eqb s s refl)),
      each back a.2 (λ k l there. e k l (ap (λ b. nat_eq k s || b) there ∙ or_true (nat_eq k s))),
    )
      where
        or_true : (b : Bool) → (b || true) ≡ true
        or_true h1 = grind arith
