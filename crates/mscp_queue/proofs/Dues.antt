-- Each event keeps the dues, and makes of what is told of the slots what it should.
use Rattle.mscp_queue.proofs.Common.{◌≡◌, ◌<◌, ◌≤◌, ◌+◌, ◌-◌, ℕ, zero, suc, true, false, cond, List, [], ◌∷◌, ◌++◌, map, take, drop, length, sym, subst, ap, ◌∙◌, refl, arith, filter, nat_lt, sum_by, AllByRecursion, lt-ltb, take_more, sum_by-append, sum_by-cons, Slot, AreDue, IsDue, bare, figure_at, last_end, left_in_service, told, Record, advanced, is_in_service, left_if_serving, left_of, no_record, passed_by, record_at, items, lowered_by, slot_at}
use Rattle.mscp_queue.proofs.Held.{AreIdle}

idle_of : (r : Record) → r.done ≡ 0 → is_in_service r ≡ false
idle_of r e = ap (nat_lt 0) e

pub idle_left : (r : Record) → is_in_service r ≡ false → left_if_serving r ≡ 0
idle_left r e = ap (λ t. cond t (left_of r) 0) e

pub serving_left : (r : Record) → is_in_service r ≡ true → left_if_serving r ≡ left_of r
serving_left r e = ap (λ t. cond t (left_of r) 0) e

pub serving_cons : (r : Record) (rs : List Record) → sum_by left_if_serving (r ∷ rs) ≡ left_if_serving r
    + sum_by left_if_serving rs
serving_cons r rs = sum_by-cons left_if_serving r rs

pub idle_serving : (rs : List Record) → AreIdle rs → sum_by left_if_serving rs ≡ 0
idle_serving [] i = refl
idle_serving (r ∷ rs) i = omega (arith, serving_cons r rs, idle_left r (idle_of r i.0), idle_serving rs i.1)

pub items_append : (xs ys : List Slot) → items (xs ++ ys) ≡ items xs ++ items ys
items_append [] ys = refl
items_append (x ∷ xs) ys = ap (λ rs. x.item ∷ rs) (items_append xs ys)

-- one between others that are not in service
pub serving_mid : (front : List Record) (z : Record) (back : List Record)
    → AreIdle front → AreIdle back → sum_by left_if_serving (front ++ z ∷ back) ≡ left_if_serving z
serving_mid [] z back i j = search (arith, serving_cons z back, idle_serving back j)
serving_mid (r ∷ front) z back i j = grind (arith, serving_cons, idle_left, idle_of, serving_mid front z back i.1 j)

pub items_fallen : (n : ℕ) (ss : List Slot) → items (map (lowered_by n) ss) ≡ items ss
items_fallen n [] = refl
items_fallen n (s ∷ ss) = ap (λ rs. s.item ∷ rs) (items_fallen n ss)

pub lowered_none : (n : ℕ) (ss : List Slot) → n ≡ 0 → ss ≡ map (lowered_by n) ss
lowered_none n [] e = refl
lowered_none n (s ∷ ss) e = search (arith, lowered_none n ss e)

-- what is left in service, by a filter
filtered : (rs : List Record) → sum_by left_if_serving rs ≡ sum_by left_of (filter is_in_service rs)
filtered [] = refl
filtered (r ∷ rs) =
    search (arith, sum_by-cons left_if_serving r rs, filtered rs, sum_by-cons left_of r (filter is_in_service rs))

-- a record with this count of the blocks that passed its command
abbrev pub with_passed : ℕ → Record → Record
with_passed n r = record r { passed = n }

-- what a step at a place makes of records: n more blocks passed those in front of it
abbrev pub stepped : ℕ → ℕ → List Record → List Record
stepped n place rs = map (passed_by n) (take place rs) ++ advanced (record_at rs place) ∷ drop (suc place) rs

module _ (budget : ℕ) where
  -- what is told of the first of slots
  abbrev first_told : ℕ → Slot → List Slot → Record
  first_told a s ss = with_passed ((last_end a (left_in_service ss) s + budget) - s.due) s.item

  -- ---- what is told, but for the passes
  pub told_long : (a : ℕ) (ss : List Slot) → length (told budget a ss) ≡ length ss
  told_long a [] = refl
  told_long a (s ∷ ss) = ap suc (told_long (a + left_of s.item) ss)

  pub told_item : (a : ℕ) (ss : List Slot) (k : ℕ) → AreDue budget a ss → k < length ss
      → (slot_at ss k).item ≡ bare (record_at (told budget a ss) k)
  told_item a [] k d l = absurd (omega (arith, l))
  told_item a (s ∷ ss) zero d l = λ i. with_passed (d.0.bare i) s.item
  told_item a (s ∷ ss) (suc k) d l = told_item (a + left_of s.item) ss k d.1 (omega (arith, l))

  pub told_left : (a : ℕ) (ss : List Slot) → sum_by left_of (told budget a ss) ≡ sum_by left_of (items ss)
  told_left a [] = refl
  told_left a (s ∷ ss) = search (arith, sum_by-cons, told_left (a + left_of s.item) ss)

  pub told_serving : (a : ℕ) (ss : List Slot) → sum_by left_if_serving (told budget a ss) ≡ left_in_service ss
  told_serving a [] = refl
  told_serving a (s ∷ ss) = grind (arith, serving_cons, told_serving (a + left_of s.item) ss)

  pub told_front : (a : ℕ) (ss : List Slot) (place : ℕ) → AreIdle (take place (told budget a ss))
      → AreIdle (items (take place ss))
  told_front a [] zero i = tt
  told_front a [] (suc place) i = tt
  told_front a (s ∷ ss) zero i = tt
  told_front a (s ∷ ss) (suc place) i = (i.0, told_front (a + left_of s.item) ss place i.1)

  pub told_back : (a : ℕ) (ss : List Slot) (place : ℕ) → AreIdle (drop place (told budget a ss))
      → AreIdle (items (drop place ss))
  told_back a [] zero i = tt
  told_back a [] (suc place) i = tt
  told_back a (s ∷ ss) zero i = (i.0, told_back (a + left_of s.item) ss 0 i.1)
  told_back a (s ∷ ss) (suc place) i = told_back (a + left_of s.item) ss place i

  pub at_same : {a b : ℕ} (ss : List Slot) → a ≡ b → AreDue budget a ss → AreDue budget b ss
  at_same ss e d = subst (λ a. AreDue budget a ss) e d

  -- ---- what is told stays
  -- slots at one clock and at another, of which the same is told
  pub record Keeps (a b : ℕ) (old new : List Slot) : Type 0 where
    pub dues : AreDue budget b new
    pub same : told budget b new ≡ told budget a old

  -- where less is left before them, or the clock is set back
  pub fallen : (a n : ℕ) (ss : List Slot) → AreDue budget (a + n) ss → Keeps (a + n) a ss (map (lowered_by n) ss)
  fallen a n [] d = record { dues = tt; same = refl }
  fallen a n (s ∷ ss) d =
      let e : a + n + left_of s.item ≡ a + left_of s.item + n = omega arith in
      let rest = fallen (a + left_of s.item) n ss (at_same ss e d.1) in
      let serving = ap (sum_by left_if_serving) (items_fallen n ss) in
      let least = d.0.least in
      let most = d.0.most in
      let p : (last_end a (left_in_service (map (lowered_by n) ss)) (lowered_by n s) + budget) - (s.due - n)
      ≡ (last_end (a + n) (left_in_service ss) s + budget) - s.due = omega (arith, serving, least) in
      record {
        dues = grind arith;
        same = λ i. with_passed (p i) s.item ∷ (rest.same ∙ ap (λ k. told budget k ss) (sym e)) i;
      }

  -- they have more to wait than what is left before them
  pub fallen_enough : (a n : ℕ) (ss : List Slot) → AreDue budget (a + n) ss → AllByRecursion (λ s. n ≤ s.due) ss
  fallen_enough a n [] d = tt
  fallen_enough a n (s ∷ ss) d =
      let least = d.0.least in
      let e : a + n + left_of s.item ≡ a + left_of s.item + n = omega arith in
      (omega (arith, least), fallen_enough (a + left_of s.item) n ss (at_same ss e d.1))

  -- ---- a push
  serving_pushed : (ss : List Slot) (x : Slot) → x.item.done ≡ 0 → left_in_service (ss ++ x ∷ []) ≡ left_in_service ss
  serving_pushed [] x idle = serving_cons x.item [] ∙ omega (arith, idle_left x.item (idle_of x.item idle))
  serving_pushed (s ∷ ss) x idle = grind (arith, serving_cons, serving_pushed ss x idle)

  pub due_pushed : (a : ℕ) (ss : List Slot) (x : Slot) → AreDue budget a ss → x.item.passed ≡ 0 → x.item.done ≡ 0
      → x.due ≡ a + sum_by left_of (items ss) + budget + left_of x.item → AreDue budget a (ss ++ x ∷ [])
  due_pushed a [] x d bare idle n = (record { bare = bare; least = omega (arith, n); most = omega (arith, n) }, tt)
  due_pushed a (s ∷ ss) x d bare idle n =
      let n' : x.due ≡ a + left_of s.item + sum_by left_of (items ss) + budget + left_of x.item =
      omega (arith, sum_by-cons left_of s.item (items ss), n) in (
        subst (λ k. IsDue budget a k s) (sym (serving_pushed ss x idle)) d.0,
        due_pushed (a + left_of s.item) ss x d.1 bare idle n',
      )

  pub told_pushed : (a : ℕ) (ss : List Slot) (x : Slot) → x.item.passed ≡ 0 → x.item.done ≡ 0
      → x.due ≡ a + sum_by left_of (items ss) + budget + left_of x.item
      → told budget a (ss ++ x ∷ []) ≡ told budget a ss ++ x.item ∷ []
  told_pushed a [] x bare idle n = grind arith
  told_pushed a (s ∷ ss) x bare idle n =
      let n' : x.due ≡ a + left_of s.item + sum_by left_of (items ss) + budget + left_of x.item =
      omega (arith, sum_by-cons left_of s.item (items ss), n) in
      let p = ap (λ k. (last_end a k s + budget) - s.due) (serving_pushed ss x idle) in
      λ i. with_passed (p i) s.item ∷ told_pushed (a + left_of s.item) ss x bare idle n' i

  -- ---- a step
  -- of a command that isn't passed by more than the budget, once it was passed by n more
  abbrev pub MayPass : ℕ → List Record → Type 0
  MayPass n rs = AllByRecursion (λ r. r.passed + n ≤ budget) rs

  -- nothing passed by more than the budget
  pub told_within : (a : ℕ) (ss : List Slot) (place : ℕ) → AreDue budget a ss
      → MayPass 0 (take place (told budget a ss))
  told_within a [] zero d = tt
  told_within a [] (suc place) d = tt
  told_within a (s ∷ ss) zero d = tt
  told_within a (s ∷ ss) (suc place) d = grind (arith, told_within (a + left_of s.item) ss place d.1)

  module _ (n : ℕ) (y z : Slot) (back : List Slot) (j : AreIdle (items back)) (charge : left_of y.item
      ≡ left_if_serving y.item + n) (unfinished : y.item.done < y.item.weight) (step : z.item ≡ advanced y.item)
      (due : z.due ≡ y.due) where
    busy : is_in_service z.item ≡ true
    busy = ap (λ (r : Record). is_in_service r) step ∙ lt-ltb 0 (y.item.done + 1) (omega arith)

    less : left_of z.item + 1 ≡ left_of y.item
    less = let e = ap (λ (r : Record). left_of r) step in omega (arith, e, unfinished)

    before : (front : List Slot) → AreIdle (items front) → left_in_service (front ++ y ∷ back) ≡ left_if_serving y.item
    before front i = grind (arith, items_append, serving_mid)

    after : (front : List Slot) → AreIdle (items front) → left_in_service (front ++ z ∷ back) ≡ left_of z.item
    after front i = grind (arith, items_append, serving_mid, serving_left, busy)

    there : (a : ℕ) → a + 1 + left_of z.item ≡ a + left_of y.item
    there a = omega (arith, less)

    pub due_stepped : (a : ℕ) (front : List Slot) → AreDue budget a (front ++ y ∷ back) → AreIdle (items front)
        → MayPass n (take (length front) (told budget a (front ++ y ∷ back)))
        → AreDue budget (a + 1) (front ++ z ∷ back)
    due_stepped a [] d i m = grind (arith, idle_serving, less, at_same, there)
    due_stepped a (x ∷ front) d i m =
        grind (arith, before, after, less, at_same, due_stepped (a + left_of x.item) front d.1 i.1 m.1)

    pub told_stepped : (a : ℕ) (front : List Slot) → AreDue budget a (front ++ y ∷ back) → AreIdle (items front)
        → told budget (a + 1) (front ++ z ∷ back) ≡ stepped n (length front) (told budget a (front ++ y ∷ back))
    told_stepped a [] d i = grind (arith, idle_serving, less, there)
    told_stepped a (x ∷ front) d i = grind (arith, before, after, less, told_stepped (a + left_of x.item) front d.1 i.1)

  -- ---- what a due tells
  pub late : (a : ℕ) (ss : List Slot) → AreDue budget a ss → AllByRecursion (λ s. a ≤ s.due) ss
  late a [] d = tt
  late a (s ∷ ss) d =
      let least = d.0.least in
      (omega (arith, least), each ss (late (a + left_of s.item) ss d.1))
    where
      each : (xs : List Slot) → AllByRecursion (λ x. a + left_of s.item ≤ x.due) xs → AllByRecursion (λ x. a ≤ x.due) xs
      each [] h = tt
      each (x ∷ xs) h = let low = h.0 in (omega (arith, low), each xs h.1)

  -- by how many blocks a command was passed
  pub passes : (a : ℕ) (ss : List Slot) (k : ℕ) → AreDue budget a ss → k < length ss
      → (record_at (told budget a ss) k).passed + (slot_at ss k).due
      ≡ a + sum_by left_of (take (k + 1) (told budget a ss))
      + sum_by left_if_serving (drop (k + 1) (told budget a ss)) + budget
  passes a [] k d l = absurd (omega (arith, l))
  passes a (s ∷ ss) zero d l = grind (arith, told_serving, sum_by-cons)
  passes a (s ∷ ss) (suc k) d l =
      let h = passes (a + left_of s.item) ss k d.1 (omega (arith, l)) in
      let rs = told budget (a + left_of s.item) ss in
      let more = sum_by-cons left_of (first_told a s ss) (take (k + 1) rs) in
      let rises : suc (k + 1) ≡ suc k + 1 = omega arith in
      search (arith, h, more, rises)

  pub told_most : (a : ℕ) (ss : List Slot) (k : ℕ) → AreDue budget a ss → k < length ss
      → (record_at (told budget a ss) k).passed ≤ budget
  told_most a [] k d l = absurd (omega (arith, l))
  told_most a (s ∷ ss) zero d l = let least = d.0.least in omega (arith, least)
  told_most a (s ∷ ss) (suc k) d l = told_most (a + left_of s.item) ss k d.1 (omega (arith, l))

  -- the figure of a command that isn't in service
  pub tells : (a : ℕ) (ss : List Slot) (k : ℕ) → AreDue budget a ss → k < length ss
      → is_in_service (slot_at ss k).item ≡ false → (slot_at ss k).due ≡ a + figure_at budget (told budget a ss) k
  tells a ss k d l idle =
      let rs = told budget a ss in
      let r = record_at rs k in
      let front = sum_by left_of (take k rs) in
      let served = sum_by left_of (filter is_in_service (drop (k + 1) rs)) in
      let off : is_in_service r ≡ false = ap (λ (q : Record). is_in_service q) (sym (told_item a ss k d l)) ∙ idle in
      let f : figure_at budget rs k ≡ front + served + (budget - r.passed) + left_of r = grind arith in
      let more : sum_by left_of (take (k + 1) rs) ≡ front + (left_of r + 0) =
      ap (sum_by left_of) (take_more rs k no_record (omega (arith, l, told_long a ss)))
      ∙ (sum_by-append left_of (take k rs) (r ∷ []) ∙ ap (λ n. front + n) (sum_by-cons left_of r [])) in
      omega (arith, f, more, passes a ss k d l, told_most a ss k d l, filtered (drop (k + 1) rs))

  -- what the oldest has left of its budget, if nobody is in service
  pub unspent_tells : (a : ℕ) (ss : List Slot) → AreDue budget a ss → 0 < length ss → AreIdle (told budget a ss)
      → (slot_at ss 0).due ≡ a + left_of (slot_at ss 0).item + (budget - (record_at (told budget a ss) 0).passed)
  unspent_tells a [] d l i = absurd (omega (arith, l))
  unspent_tells a (s ∷ ss) d l i = grind (arith, told_serving, idle_serving)
