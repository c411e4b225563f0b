-- A queue as it was: its waiting commands in their slots, and what it knows of them.
use Rattle.mscp_queue.proofs.Common.{All, ◌≡◌, ◌+◌, ◌<◌, ◌≤◌, ◌^◌, ℕ, suc, Bool, true, false, List, [], ◌∷◌, ◌++◌, drop, get_or, length, append-nil, refl, map, sym, ap, ◌∙◌, arith, Content, sum_by, sum_by-cons, is_some, unwrap_or, Option, Some, None, IfNone, IfSome, list_any, position, false≢true, ltb-false, true≢false, drop_all, position-Some, Drive, Name, ArePassedInOrder, IsHeld, IsReady, IsStillServable, begun_name, units_of, Waiters, Slot, Shape, target_of, targets_of, AllByRecursion, AreDue, AreTimed, bare, due_of, left_in_service, told, Record, has_name, is_in_service, left_if_serving, left_of, no_record, targets, items}
use Rattle.mscp_queue.proofs.Named.{same_is}
use Rattle.mscp_queue.proofs.Placed.{position_any}

-- ---- lists
any_at : {X : Type 0} (p : X → Bool) (xs : List X) (k : ℕ) (d : X) → k < length xs → p (get_or xs k d) ≡ true
    → list_any p xs ≡ true
any_at p (x ∷ xs) (suc k) d l e = search (arith, any_at p xs k d (omega (arith, l)) e)
any_at p xs k d h4 h5 = search arith

some_same : {X : Type 0} {x y : X} → Some x ≡ Some y → x ≡ y
some_same {x = x} e = ap (λ o. unwrap_or o x) e

nil_not_cons : {X : Type 0} {x : X} {xs : List X} → [] ≡ x ∷ xs → ⊥
nil_not_cons e = cc

head_same : {X : Type 0} {x y : X} {xs ys : List X} → x ∷ xs ≡ y ∷ ys → x ≡ y
head_same {x = x} e = ap (λ zs. get_or zs 0 x) e

tail_same : {X : Type 0} {x y : X} {xs ys : List X} → x ∷ xs ≡ y ∷ ys → xs ≡ ys
tail_same e = ap (drop 1) e

-- ---- the waiting commands
abbrev with_passed : ℕ → Record → Record
with_passed n r = record r { passed = n }

module _ (budget : ℕ) (us : List Shape) where
  -- what the slot of a record holds, where so many steps are left before it, and of one in service behind it
  abbrev pub content_of : ℕ → ℕ → Record → Content
  content_of before behind r =
      record { item = bare r; target = target_of us r.command; due = due_of budget before behind r }

  -- what the slots of records hold
  abbrev pub contents_of : ℕ → List Record → List Content
  contents_of before [] = []
  contents_of before (r ∷ rs) = content_of before (sum_by left_if_serving rs) r ∷ contents_of (before + left_of r) rs

-- what slots hold, whatever their numbers are
abbrev content : Slot → Content
content s = record { item = s.item; target = s.target; due = s.due }

abbrev pub contents : List Slot → List Content
contents ss = map content ss

module _ (budget : ℕ) (us : List Shape) where
  items_of : (before : ℕ) (ss : List Slot) (rs : List Record) → contents ss ≡ contents_of budget us before rs
      → items ss ≡ map bare rs
  items_of before [] [] e = refl
  items_of before [] (r ∷ rs) e = absurd (nil_not_cons e)
  items_of before (s ∷ ss) [] e = absurd (nil_not_cons (sym e))
  items_of before (s ∷ ss) (r ∷ rs) e =
      λ i. (head_same e i).item ∷ items_of (before + left_of r) ss rs (tail_same e) i

  serving_of : (before : ℕ) (ss : List Slot) (rs : List Record) → contents ss ≡ contents_of budget us before rs
      → left_in_service ss ≡ sum_by left_if_serving rs
  serving_of before ss rs e = ap (sum_by left_if_serving) (items_of before ss rs e) ∙ each rs
    where
      each : (rs : List Record) → sum_by left_if_serving (map bare rs) ≡ sum_by left_if_serving rs
      each [] = refl
      each (r ∷ rs) = sum_by-cons left_if_serving (bare r) (map bare rs)
          ∙ (ap (λ n. left_if_serving r + n) (each rs) ∙ sym (sum_by-cons left_if_serving r rs))

  pub targets_are : (before : ℕ) (ss : List Slot) (rs : List Record) → contents ss ≡ contents_of budget us before rs
      → targets ss ≡ targets_of us rs
  targets_are before [] [] e = refl
  targets_are before [] (r ∷ rs) e = absurd (nil_not_cons e)
  targets_are before (s ∷ ss) [] e = absurd (nil_not_cons (sym e))
  targets_are before (s ∷ ss) (r ∷ rs) e =
      λ i. (head_same e i).target ∷ targets_are (before + left_of r) ss rs (tail_same e) i

  are_due : (before : ℕ) (ss : List Slot) (rs : List Record) → contents ss ≡ contents_of budget us before rs
      → AreDue budget before ss
  are_due before [] rs e = tt
  are_due before (s ∷ ss) [] e = absurd (nil_not_cons (sym e))
  are_due before (s ∷ ss) (r ∷ rs) e =
      grind (arith, head_same, serving_of, tail_same, are_due (before + left_of r) ss rs (tail_same e))

  pub told_are : (before : ℕ) (ss : List Slot) (rs : List Record) → contents ss ≡ contents_of budget us before rs
      → AllByRecursion (λ r. r.passed ≤ budget) rs → told budget before ss ≡ rs
  told_are before [] [] e p = refl
  told_are before [] (r ∷ rs) e p = absurd (nil_not_cons e)
  told_are before (s ∷ ss) [] e p = absurd (nil_not_cons (sym e))
  told_are before (s ∷ ss) (r ∷ rs) e p =
      grind (arith, head_same, serving_of, tail_same, told_are (before + left_of r) ss rs (tail_same e) p.1)

  -- at the end they are all
  pub contents_all : (cs : List Content) (before n : ℕ) (rs : List Record) → length rs ≤ n
      → cs ++ contents_of budget us before (drop n rs) ≡ contents_of budget us 0 rs → cs ≡ contents_of budget us 0 rs
  contents_all cs before n rs l h = search (arith, append-nil cs, drop_all n rs l)

  pub timed : (ss : List Slot) (total : ℕ) (rs : List Record) → budget < 2 ^ 32
      → contents ss ≡ contents_of budget us 0 rs → total ≡ sum_by left_of rs → AreTimed budget 0 total ss
  timed ss total rs fits e t =
      let left = ap (sum_by left_of) (items_of 0 ss rs e) ∙ each rs in
      record { dues = are_due 0 ss rs e; left = t ∙ sym left; early = omega arith; fits = fits }
    where
      each : (rs : List Record) → sum_by left_of (map bare rs) ≡ sum_by left_of rs
      each [] = refl
      each (r ∷ rs) = sum_by-cons left_of (bare r) (map bare rs)
          ∙ (ap (λ n. left_of r + n) (each rs) ∙ sym (sum_by-cons left_of r rs))

-- ---- what a queue knows
-- the place of the command of a name that is known
begun_some : (budget : ℕ) (rs : List Record) (name : Name) (place : Option ℕ) → IsStillServable budget rs name → place
    ≡ position (has_name name) rs → (begun_name rs place ≡ Some name) × ((k : ℕ) → place ≡ Some k → k < length rs)
begun_some budget rs name None still e = absurd (false≢true (ap is_some e
    ∙ (position_any (has_name name) rs ∙ any_at (has_name name) rs still.0 no_record still.1.inside still.2)))
begun_some budget rs name (Some k) still e = grind (arith, position-Some, same_is, some_same)

pub begun_back : (budget : ℕ) (rs : List Record) (begun : Option Name) (place : Option ℕ) → ((name : Name)
    → begun ≡ Some name → IsStillServable budget rs name) → IfSome begun (λ name. place ≡ position (has_name name) rs)
    → IfNone begun (place ≡ None) → (begun_name rs place ≡ begun) × ((k : ℕ) → place ≡ Some k → k < length rs)
begun_back budget rs None place still some none = search (arith, false≢true)
begun_back budget rs (Some name) place still some none = begun_some budget rs name place (still name refl) some

-- where nobody is in service nobody had a step
idle_where : (rs : List Record) → is_some (position is_in_service rs) ≡ false → All (λ r. r.done ≡ 0) rs
idle_where rs e = search (arith, position_any is_in_service rs, ltb-false, false≢true, any_at)

pub ready_restored : {room budget longest : ℕ} {w : Waiters} {rs : List Record}
    {ds : List Drive} {begun : Option Name} {place serving : Option ℕ} → IsHeld room budget longest rs ds begun true
    → ArePassedInOrder rs → w ≡ record { budget = budget; waiting = rs; targets = targets_of (units_of ds) rs }
    → (begun_name rs place ≡ begun) × ((k : ℕ) → place ≡ Some k → k < length rs)
    → serving ≡ position is_in_service rs → IsReady room longest w ds place serving
ready_restored h o e b s = grind (arith, idle_where, position-Some)

-- and what one knows it was
pub held_seen : {room budget longest : ℕ} {rs : List Record} {ds : List Drive} {begun : Option Name} {serving : Bool}
    → IsHeld room budget longest rs ds begun serving → IsHeld room budget longest rs ds begun true
held_seen h = search (arith, true≢false)
