-- What slots show once one of them holds something else.
use Rattle.mscp_queue.proofs.Common.{◌≡◌, ◌≢◌, ◌<◌, ◌+◌, ◌^◌, ◌⊎◌, ℕ, zero, suc, Bool, true, false, not, ◌&&◌, nat_eq, List, [], ◌∷◌, ◌++◌, map, set, take, drop, get_or, length, sym, subst, ap, ◌∙◌, refl, arith, remove, slice_index_or, list_all, drop-map, get_or_default, get_or-map, get_or-set_same, get_or-set_other, length-map, length-set, map-append, take-map, Target, Slot, Masks, AreMasks, AreSlots, HasCome, HasLeft, IsLowestFree, IsLowestUntaken, Content, filled, numbers, fences, has, keeps_back, is_sequential, Record, advanced, no_record, no_target, AreKept, held, is_unfenced, kind_at, kind_of, shown, slot_at, with_item}
use Rattle.mscp_queue.proofs.Freed.{free_tells}
use Rattle.mscp_queue.proofs.Departed.{masks_left}
use Rattle.mscp_queue.proofs.Masked.{has_other, masks_pushed, not_behind, not_here, off_bit, one_bit, same_or, slot_has, slot_low}
use Rattle.mscp_queue.proofs.Placed.{cut_at}

module _ (rs : List Record) (own : List Target) (ds : List ℕ) (n : ℕ) (r : Record) (a : Target) (d : ℕ) where
  abbrev held_then : ℕ → Slot
  held_then = held (set rs n r) (set own n a) (set ds n d)

  pub held_other : (k : ℕ) → k ≢ n → held_then k ≡ held rs own ds k
  held_other k e = search (arith, get_or-set_other)

  pub shown_other : (order : List ℕ) → has n order ≡ false → map held_then order ≡ shown rs own ds order
  shown_other [] e = refl
  shown_other (s ∷ order) e =
      (λ i. held_other s (not_here n s order e) i ∷ shown_other order (not_behind n s order e) i)

  pub held_same : n < length rs
      → n < length own → n < length ds → held_then n ≡ record { number = n; item = r; target = a; due = d }
  held_same l m k = search (arith, get_or-set_same)

-- ---- a slot of the order
-- the number of the slot at a place of the order
pub record IsNumber (order : List ℕ) (place n : ℕ) : Type 0 where
  pub low : n < 64
  pub taken : has n order ≡ true
  pub inside : place < length order
  pub is : n ≡ get_or order place 0

-- as many are shown as there are
pub long_shown : (rs : List Record) (own : List Target) (ds order : List ℕ) (now : List Slot)
    → shown rs own ds order ≡ now → length order ≡ length now
long_shown rs own ds order now view = sym (length-map order (held rs own ds)) ∙ ap length view

-- what a slot holds is what is shown at its place
pub slot_is : (rs : List Record) (own : List Target) (ds order : List ℕ) (now : List Slot) (place n : ℕ)
    → shown rs own ds order ≡ now → place < length now → n ≡ get_or order place 0 → held rs own ds n ≡ slot_at now place
slot_is rs own ds order now place n view l is = grind (arith, get_or-map, long_shown)

pub number_of : {rs : List Record} {own : List Target} {order seen : List ℕ} {m : Masks} {place n : ℕ} (ds : List ℕ)
    (now : List Slot) → AreKept rs own order m
    → shown rs own ds order ≡ now → place < length now → n ≡ get_or seen place 0 → seen ≡ order → IsNumber order place n
number_of ds now kept view inside e same = grind (arith, long_shown, slot_low, slot_has)

-- the record in it
pub item_at : {rs : List Record} {own : List Target} {order : List ℕ} {m : Masks} {place n : ℕ} (ds : List ℕ)
    (now : List Slot) (other : Record) → AreKept rs own order m → shown rs own ds order ≡ now
    → place < length now → IsNumber order place n → get_or rs n other ≡ (slot_at now place).item
item_at {rs} {own} {order} {m} {place} {n} ds now other kept view inside h =
    get_or_default rs n other no_record (omega (arith, h.low, kept.records_64))
    ∙ ap (λ (q : Slot). q.item) (slot_is rs own ds order now place n view inside h.is)

-- the order is cut at it
pub cut_order : (order : List ℕ) (place n : ℕ) → IsNumber order place n
    → order ≡ take place order ++ n ∷ drop (place + 1) order
cut_order order place n h = search (arith, cut_at 0 order place h.inside)

-- a test of what is shown
pub all_shown : {X Y : Type 0} (p : Y → Bool) (f : X → Y) (xs : List X)
    → list_all p (map f xs) ≡ list_all (λ x. p (f x)) xs
all_shown p f [] = refl
all_shown p f (x ∷ xs) = ap (λ b. p (f x) && b) (all_shown p f xs)

-- no slot in front keeps one back
pub unfenced_at : {rs : List Record} {own : List Target} {order : List ℕ} {m : Masks} {place n : ℕ} (ds : List ℕ)
    (now : List Slot) → AreKept rs own order m → shown rs own ds order ≡ now
    → place < length now → IsNumber order place n → slice_index_or m.earlier n 0 < 2 ^ 64 → nat_eq (fences m
    n (kind_at rs own n).drive (kind_at rs own n).sequential) 0 ≡ is_unfenced (slot_at now place) (take place now)
unfenced_at {rs} {own} {order} {m} {place} {n} ds now kept view inside h small =
    let kinds = kind_at rs own in
    let front = take place order in
    free_tells kinds
    front n (drop (place + 1) order) m (subst (λ o. AreMasks kinds o m) (cut_order order place n h) kept.masks) small
    ∙ (sym (all_shown (λ z. not (keeps_back (kind_of z) (kinds n))) (held rs own ds) front) ∙ (ap (λ zs. list_all
    (λ z. not (keeps_back (kind_of z) (kinds n))) zs) (sym (take-map (held rs own ds) place order) ∙ ap (take place)
    view) ∙ ap (λ s. is_unfenced s (take place now)) (slot_is rs own ds order now place n view inside h.is)))

-- ---- the command at a place leaves
has_middle : (k n : ℕ) (front back : List ℕ) → has k (front ++ back) ≡ true → has k (front ++ n ∷ back) ≡ true
has_middle k n [] back e = search (arith, nat_eq k n)
has_middle k n (x ∷ front) back e = search (arith, nat_eq k x, has_middle k n front back)

pub kept_left : {rs : List Record} {own : List Target} {order new : List ℕ} {m m' : Masks} {place n : ℕ}
    → AreKept rs own order m → IsNumber order place n
    → HasLeft n (kind_at rs own n).drive m m' → new ≡ remove order place → AreKept rs own new m'
kept_left {rs} {own} {order} {new} {m} {m'} {place} {n} kept h left e =
    let front = take place order in
    let back = drop (place + 1) order in
    let next : suc place ≡ place + 1 = omega arith in
    let is : new ≡ front ++ back = e ∙ ap (λ k. front ++ drop k order) next in
    let cut = cut_order order place n h in
    subst (λ o. AreKept rs own o m') (sym is) (record {
      records_64 = kept.records_64;
      targets_64 = kept.targets_64;
      drives = λ k there. kept.drives k (ap (has k) cut ∙ has_middle k n front back there);
      masks = masks_left
          (kind_at rs own) front back m m' n (subst (λ o. AreMasks (kind_at rs own) o m) cut kept.masks) h.low left;
    })

pub shown_left : {X Y : Type 0} (f : X → Y) (order new : List X) (now : List Y) (place : ℕ) → map f order ≡ now
    → new ≡ remove order place → map f new ≡ take place now ++ drop (place + 1) now
shown_left f order new now place view e = grind (arith, map-append, take-map, drop-map)

-- ---- a command comes
-- the slot whose bit isn't set isn't taken
pub untaken : {rs : List Record} {own : List Target} {order : List ℕ} {m : Masks} {n : ℕ} → AreKept rs own order m
    → IsLowestFree m.waiting n → has n order ≡ false
untaken {order = order} {n = n} kept free = off_bit (has n order) (sym (kept.masks.of_waiting n free.low) ∙ free.free)

pub kept_pushed : {rs : List Record} {own : List Target} {order new : List ℕ} {m m' : Masks} {n drive : ℕ}
    {sequential : Bool} (r : Record) (a : Target) → AreKept rs own order m → IsLowestFree m.waiting n
    → a.drive < 16 → drive ≡ a.drive → sequential ≡ is_sequential r.command.order
    → HasCome n drive sequential m m' → new ≡ order ++ n ∷ [] → AreKept (set rs n r) (set own n a) new m'
kept_pushed {rs}
    {own} {order} {new} {m} {m'} {n} {drive} {sequential} r a kept free few is_drive ordered comes e =
    let rs' = set rs n r in
    let own' = set own n a in
    let kinds = kind_at rs own in
    let kinds' = kind_at rs' own' in
    let low = free.low in
    let item : get_or rs' n no_record ≡ r = get_or-set_same rs n r no_record (omega (arith, low, kept.records_64)) in
    let target : get_or own' n no_target ≡ a = grind (arith, get_or-set_same) in
    let none = untaken kept free in
    let others : (k : ℕ) → k ≢ n → kinds' k ≡ kinds k = search (arith, get_or-set_other) in
    let came : HasCome n (kinds' n).drive (kinds' n).sequential m m' = search arith in
    subst (λ o. AreKept rs' own' o m') (sym e) (record {
      records_64 = length-set rs n r ∙ kept.records_64;
      targets_64 = length-set own n a ∙ kept.targets_64;
      drives = λ k there. by k (subst (λ (q : Target). q.drive < 16) (sym target) few) (same_or k n) there;
      masks = masks_pushed kinds kinds' order m m' n kept.masks (record { low = low; free = none; same = others }) came;
    })
  where
    by : (k : ℕ) → (get_or (set own n a) n no_target).drive < 16 → (k ≡ n) ⊎ (k ≢ n) → has k (order ++ n ∷ []) ≡ true
        → (get_or (set own n a) k no_target).drive < 16
    by k l h3 there = grind (arith, get_or-set_other, has_other)

pub shown_pushed : {rs : List Record} {own : List Target} {order new : List ℕ} {m : Masks} {n : ℕ} (ds : List ℕ)
    (now : List Slot)
    (s : Content) → AreKept rs own order m → length ds ≡ 64 → IsLowestFree m.waiting n → shown rs own ds order ≡ now
    → new ≡ order ++ n ∷ [] → shown (set rs n s.item) (set own n s.target) (set ds n s.due) new ≡ now ++ filled n s ∷ []
shown_pushed ds now s kept long free view e = grind (arith, off_bit, map-append, shown_other, held_same)

-- the numbers of the slots that are shown are those of the order
shown_numbers : (rs : List Record) (own : List Target) (ds order : List ℕ) → numbers (shown rs own ds order) ≡ order
shown_numbers rs own ds [] = refl
shown_numbers rs own ds (s ∷ order) = ap (λ ys. s ∷ ys) (shown_numbers rs own ds order)

-- the lowest slot whose bit isn't set is the lowest that isn't taken
pub lowest_untaken : {rs : List Record} {own : List Target} {order : List ℕ} {m : Masks} {n : ℕ} (ds : List ℕ)
    (now : List Slot) → AreKept rs own order m → IsLowestFree m.waiting n → shown rs own ds order ≡ now
    → IsLowestUntaken n now
lowest_untaken ds now kept free view = grind (arith, untaken, shown_numbers, one_bit)

-- ---- one slot changes
-- where one slot holds something else, so does its place
pub set_at_number : {X : Type 0} (f f' : ℕ → X) (order : List ℕ) (place : ℕ) → AreSlots order → place < length order
    → ((k : ℕ) → k ≢ get_or order place 0 → f' k ≡ f k)
    → map f' order ≡ set (map f order) place (f' (get_or order place 0))
set_at_number f f' [] place a l same = absurd (omega (arith, l))
set_at_number f f' (s ∷ order) zero a l same = ap (λ ys. f' s ∷ ys) (rest order a.1)
  where
    rest : (xs : List ℕ) → has s xs ≡ false → map f' xs ≡ map f xs
    rest [] e = refl
    rest (x ∷ xs) e = λ i. same x (not_here s x xs e) i ∷ rest xs (not_behind s x xs e) i
set_at_number f f' (s ∷ order) (suc place) a l same =
    search (arith, slot_has order place (omega (arith, l)), set_at_number f f' order place a.2 (omega (arith, l)) same)

-- a record is changed in its slot
pub item_set : {rs : List Record} {own : List Target} {order : List ℕ}
    {m : Masks} {place n : ℕ} {r : Record} (ds : List ℕ) (now : List Slot) (f : Record → Record) (other : Record)
    → AreKept rs own order m → shown rs own ds order ≡ now → place < length now → IsNumber order place n
    → r ≡ f (get_or rs n other) → shown (set rs n r) own ds order ≡ set now place (with_item f (slot_at now place))
item_set {rs} {own} {order} {m} {place} {n} {r} ds now f other kept view inside h e =
    let g = held (set rs n r) own ds in
    let same : (k : ℕ) → k ≢ get_or order place 0 → g k ≡ held rs own ds k = search (arith, get_or-set_other) in
    let there : g n ≡ with_item f (held rs own ds n) = grind (arith, get_or-set_same, get_or_default) in
    set_at_number (held rs own ds) g order place kept.masks.apart h.inside same ∙ ((λ i. set (view i) place (g (sym h.is
    i))) ∙ ap (λ s. set now place s) (there ∙ ap (with_item f) (slot_is rs own ds order now place n view inside h.is)))

-- the masks stay those of the slots where a record keeps its kind
pub kept_advanced : {rs : List Record} {own : List Target} {order : List ℕ} {m : Masks} {n : ℕ} {r : Record}
    (other : Record)
    → AreKept rs own order m → n < 64 → r ≡ advanced (get_or rs n other) → AreKept (set rs n r) own order m
kept_advanced other kept low e = grind (arith, get_or-set_same, get_or_default, length-set, same_or, get_or-set_other)
