-- Where commands stand: those in cells are a list, in which each has its place.
use Rattle.mscp_wire.proofs.Common.{Bool, Connection, First, IfSome, IsFound, IsKept, IsNext, IsSome, List, None, NoneIn, Option, Second, Sent, Some, Tallies, [], ap, arith, cell, command_at, cond, count_by, drop, false, filter, find, get_or-take, get_or_default, is_on, is_some, length, length-set, list_any, map, map_over_more, option_map, or_parts, place, place_if, position, refl, remove, rules, sents, set, set-get_or, stands, subst, suc, sum_by-cons, sym, take, take_all, true, zero, ℕ, ◌++◌, ◌+◌, ◌-◌, ◌<◌, ◌||◌, ◌∙◌, ◌∷◌, ◌≡◌, ◌≤◌}
use Rattle.mscp_wire.specs.Messages.{same_connection}
use Rattle.mscp_wire.proofs.Names.{place_at, place_none}

-- nothing stands in an empty cell
pub empty : (P : Type 0) → false ≡ true → P
empty P h = absurd (omega (arith, ap {B = ℕ} (λ b. cond b 1 0) h))

pub sents_take : (i : ℕ) (xs : List (Option Sent)) → sents (take i xs) ≡ take (place xs i) (sents xs)
sents_take zero xs = refl
sents_take (suc i) [] = refl
sents_take (suc i) (None ∷ xs) = sents_take i xs
sents_take (suc i) (Some x ∷ xs) = ap (λ l. x ∷ l) (sents_take i xs)

pub sents_drop : (i : ℕ) (xs : List (Option Sent)) → sents (drop i xs) ≡ drop (place xs i) (sents xs)
sents_drop zero xs = refl
sents_drop (suc i) [] = refl
sents_drop (suc i) (None ∷ xs) = sents_drop i xs
sents_drop (suc i) (Some x ∷ xs) = sents_drop i xs

one_more : (i : ℕ) → i + 1 ≡ suc i
one_more i = omega arith

-- the place behind that of a command
next : (xs : List (Option Sent)) (i : ℕ) → IsSome (cell xs i) → place xs (suc i) ≡ suc (place xs i)
next [] i h = empty _ h
next (None ∷ xs) zero h = empty _ h
next (Some x ∷ xs) zero h = refl
next (None ∷ xs) (suc i) h = next xs i h
next (Some x ∷ xs) (suc i) h = ap (λ n. suc n) (next xs i h)

pub next_place : (xs : List (Option Sent)) (i : ℕ) → IsSome (cell xs i) → place xs (i + 1) ≡ place xs i + 1
next_place xs i h = ap (place xs) (one_more i) ∙ (next xs i h ∙ sym (one_more (place xs i)))

-- one cell more
none_first : (xs : List Sent) → xs ≡ xs ++ []
none_first [] = refl
none_first (x ∷ xs) = ap (λ l. x ∷ l) (none_first xs)

further : (xs : List (Option Sent)) (i : ℕ) → sents (take (suc i) xs) ≡ sents (take i xs) ++ sents (cell xs i ∷ [])
further [] zero = refl
further [] (suc i) = refl
further (x ∷ xs) zero = refl
further (None ∷ xs) (suc i) = further xs i
further (Some x ∷ xs) (suc i) = ap (λ l. x ∷ l) (further xs i)

pub one_taken : (xs : List (Option Sent)) (i : ℕ)
    → sents (take (i + 1) xs) ≡ sents (take i xs) ++ sents (cell xs i ∷ [])
one_taken xs i = ap (λ n. sents (take n xs)) (one_more i) ∙ further xs i

-- an empty one at the end
pub none_taken : (xs : List (Option Sent)) (i : ℕ) → i + 1 ≡ length xs → cell xs i ≡ None
    → sents (take i xs) ≡ sents xs
none_taken xs i l h =
    none_first (sents (take i xs))
    ∙ ap (λ c. sents (take i xs) ++ sents (c ∷ [])) (sym h)
    ∙ sym (one_taken xs i)
    ∙ ap sents (take_all (i + 1) xs (omega (arith, l)))

pub place_less : (xs : List (Option Sent)) (i : ℕ) → IsSome (cell xs i) → place xs i < length (sents xs)
place_less [] i h = empty _ h
place_less (None ∷ xs) zero h = empty _ h
place_less (Some x ∷ xs) zero h = omega arith
place_less (None ∷ xs) (suc i) h = place_less xs i h
place_less (Some x ∷ xs) (suc i) h = omega (arith, place_less xs i h)

pub cell_less : (xs : List (Option Sent)) (i : ℕ) → IsSome (cell xs i) → i < length xs
cell_less [] i h = empty _ h
cell_less (x ∷ xs) zero h = omega arith
cell_less (x ∷ xs) (suc i) h = omega (arith, cell_less xs i h)

pub cell_is : (xs : List (Option Sent)) (i : ℕ) → IsSome (cell xs i)
    → cell xs i ≡ Some (command_at (sents xs) (place xs i))
cell_is [] i h = empty _ h
cell_is (None ∷ xs) zero h = empty _ h
cell_is (Some x ∷ xs) zero h = refl
cell_is (None ∷ xs) (suc i) h = cell_is xs i h
cell_is (Some x ∷ xs) (suc i) h = cell_is xs i h

-- the command in a cell
abbrev from : Sent → Option Sent → Sent
from x None = x
from x (Some s) = s

pub command_of : (xs : List (Option Sent)) (i : ℕ) (s : Sent) → cell xs i ≡ Some s
    → s ≡ command_at (sents xs) (place xs i)
command_of xs i s h =
    ap (from s) (sym h ∙ cell_is xs i (ap is_some h))

pub sents_put : (xs : List (Option Sent)) (i : ℕ) (s : Sent) → IsSome (cell xs i)
    → sents (set xs i (Some s)) ≡ set (sents xs) (place xs i) s
sents_put [] i s h = empty _ h
sents_put (None ∷ xs) zero s h = empty _ h
sents_put (Some x ∷ xs) zero s h = refl
sents_put (None ∷ xs) (suc i) s h = sents_put xs i s h
sents_put (Some x ∷ xs) (suc i) s h = ap (λ l. x ∷ l) (sents_put xs i s h)

pub sents_remove : (xs : List (Option Sent)) (i : ℕ) → IsSome (cell xs i)
    → sents (set xs i None) ≡ remove (sents xs) (place xs i)
sents_remove [] i h = empty _ h
sents_remove (None ∷ xs) zero h = empty _ h
sents_remove (Some x ∷ xs) zero h = refl
sents_remove (None ∷ xs) (suc i) h = sents_remove xs i h
sents_remove (Some x ∷ xs) (suc i) h = ap (λ l. x ∷ l) (sents_remove xs i h)

pub sents_map : (f : Sent → Sent) (xs : List (Option Sent)) → sents (map (option_map f) xs) ≡ map f (sents xs)
sents_map f [] = refl
sents_map f (None ∷ xs) = sents_map f xs
sents_map f (Some x ∷ xs) = ap (λ l. f x ∷ l) (sents_map f xs)

pub sents_filter : (xs : List (Option Sent)) → sents (filter is_some xs) ≡ sents xs
sents_filter [] = refl
sents_filter (None ∷ xs) = sents_filter xs
sents_filter (Some x ∷ xs) = ap (λ l. x ∷ l) (sents_filter xs)

pub few_sents : (xs : List (Option Sent)) → length (sents xs) ≤ length xs
few_sents [] = omega arith
few_sents (None ∷ xs) = omega (arith, few_sents xs)
few_sents (Some x ∷ xs) = omega (arith, few_sents xs)

-- ---- which is sought
-- none before a cell is, and none there
none_further : (p : Sent → Bool) (xs : List (Option Sent)) (i : ℕ) → list_any p (sents (take i xs)) ≡ false
    → stands p (cell xs i) ≡ false → list_any p (sents (take (suc i) xs)) ≡ false
none_further p [] i h k = refl
none_further p (None ∷ xs) zero h k = refl
none_further p (Some x ∷ xs) zero h k = ap (λ b. b || false) k
none_further p (None ∷ xs) (suc i) h k = none_further p xs i h k
none_further p (Some x ∷ xs) (suc i) h k =
    let parts = or_parts (p x) (list_any p (sents (take i xs))) h in
    ap (λ b. b || list_any p (sents (take (suc i) xs))) parts.0 ∙ none_further p xs i parts.1 k

pub none_more : (p : Sent → Bool) (xs : List (Option Sent)) (i : ℕ) → list_any p (sents (take i xs)) ≡ false
    → stands p (cell xs i) ≡ false → list_any p (sents (take (i + 1) xs)) ≡ false
none_more p xs i h k = ap (λ n. list_any p (sents (take n xs))) (one_more i) ∙ none_further p xs i h k

-- the one in a cell is
pub is_full : (p : Sent → Bool) (c : Option Sent) → stands p c ≡ true → IsSome c
is_full p None h = h
is_full p (Some s) h = refl

pub stands_at : (p : Sent → Bool) (xs : List (Option Sent)) (i : ℕ) → stands p (cell xs i) ≡ true
    → p (command_at (sents xs) (place xs i)) ≡ true
stands_at p xs i h = sym (ap (stands p) (cell_is xs i (is_full p (cell xs i) h))) ∙ h

-- and it is the first
pub first_in : (p : Sent → Bool) (xs : List (Option Sent)) (i : ℕ) → list_any p (sents (take i xs)) ≡ false
    → stands p (cell xs i) ≡ true → Some (place xs i) ≡ position p (sents xs)
first_in p xs i h k =
    sym (place_at p (sents xs) (place xs i) (place_less xs i (is_full p (cell xs i) k))
    (ap (list_any p) (sym (sents_take i xs)) ∙ h) (stands_at p xs i k))

-- one that isn't sought isn't changed
pub unsought : (f : Sent → Sent) (p : Sent → Bool) → ((s : Sent) → p s ≡ false → f s ≡ s) → (c : Option Sent)
    → stands p c ≡ false → option_map f c ≡ c
unsought f p h None e = refl
unsought f p h (Some s) e = ap (λ t. Some t) (h s e)

-- one is found if there is one
pub some_found : (p : Sent → Bool) (xs : List Sent) → is_some (find p xs) ≡ list_any p xs
some_found p [] = refl
some_found p (x ∷ xs) = by_bool (p x) (some_found p xs)
  where
    by_bool : (b : Bool) → is_some (find p xs) ≡ list_any p xs
        → is_some (cond b (Some x) (find p xs)) ≡ (b || list_any p xs)
    by_bool true h = refl
    by_bool false h = h

-- a cell is there if its place is
pub some_place_if : (xs : List (Option Sent)) (at : Option ℕ) → is_some at ≡ is_some (place_if xs at)
some_place_if xs None = refl
some_place_if xs (Some at) = refl

-- what stands in a cell stays
pub same_in : (f : Option Sent → Option Sent) (xs : List (Option Sent)) (i : ℕ) → f (cell xs i) ≡ cell xs i
    → xs ≡ set xs i (f (cell xs i))
same_in f xs i h = sym (ap (set xs i) h ∙ set-get_or xs i None)

-- and so does an empty one of which commands change
pub empty_stays : (f : Sent → Sent) (xs : List (Option Sent)) (i : ℕ) → ((s : Sent) → cell xs i ≡ Some s → ⊥)
    → xs ≡ set xs i (option_map f (cell xs i))
empty_stays f xs i none = same_in (option_map f) xs i (stays (cell xs i) none)
  where
    stays : (c : Option Sent) → ((s : Sent) → c ≡ Some s → ⊥) → option_map f c ≡ c
    stays None h = refl
    stays (Some s) h = absurd (h s refl)

-- or changes, if one is put there
pub put_over : (f : Sent → Sent) (cells xs zs : List (Option Sent)) (i : ℕ) (s t : Sent) → cells ≡ xs
    → cell cells i ≡ Some s → t ≡ f s → zs ≡ set cells i (Some t) → zs ≡ set xs i (option_map f (cell xs i))
put_over f cells xs zs i s t same is put h =
    h ∙ (ap (set cells i) (ap (λ x. Some x) put ∙ sym (ap (option_map f) is))
    ∙ ap (λ ys. set ys i (option_map f (cell ys i))) same)

-- or changes, after what stands in those before it
pub over_more : (f : Option Sent → Option Sent) (xs ys zs : List (Option Sent)) (i : ℕ) → i < length xs
    → length ys ≡ length xs → ys ≡ map f (take i xs) ++ drop i xs → zs ≡ set ys i (f (cell ys i))
    → zs ≡ map f (take (i + 1) xs) ++ drop (i + 1) xs
over_more f xs ys zs i l same h put =
    put ∙ map_over_more f xs ys i (cell ys i) l h (get_or_default ys i None (cell ys i) (omega (arith, l, same)))

pub over_all : (f : Option Sent → Option Sent) (xs : List (Option Sent)) (n : ℕ) → length xs ≤ n
    → map f (take n xs) ++ drop n xs ≡ map f xs
over_all f [] zero l = refl
over_all f [] (suc n) l = refl
over_all f (x ∷ xs) zero l = absurd (omega (arith, l))
over_all f (x ∷ xs) (suc n) l = ap (λ ys. f x ∷ ys) (over_all f xs n (omega (arith, l)))

-- each command is of one connection
pub both_counted : (xs : List Sent) → count_by (is_on First) xs + count_by (is_on Second) xs ≡ length xs
both_counted [] = refl
both_counted (x ∷ xs) =
    omega (
      arith,
      sum_by-cons (λ s. cond (is_on First s) 1 0) x xs,
      sum_by-cons (λ s. cond (is_on Second s) 1 0) x xs,
      both_counted xs,
      one x.connection,
    )
  where
    one : (via : Connection) → cond (same_connection via First) 1 0 + cond (same_connection via Second) 1 0 ≡ 1
    one First = refl
    one Second = refl

-- so the numbers of both are small
pub both_few : {A : Type 0} (xs : List (Option Sent)) (kinds : Tallies A) → IsKept (sents xs) kinds
    → (kinds.first + kinds.second ≡ length (sents xs)) × (length (sents xs) ≤ length xs)
both_few xs kinds k = (omega (arith, k.first, k.second, both_counted (sents xs)), few_sents xs)

-- ---- the next cell
-- none stands in so many
pub none_taken_from : (p : Sent → Bool) (xs : List (Option Sent)) (n : ℕ) → NoneIn p xs 0 n
    → list_any p (sents (take n xs)) ≡ false
none_taken_from p xs zero h = refl
none_taken_from p xs (suc n) h =
    ap (λ k. list_any p (sents (take k xs))) (sym (one_more n))
    ∙ none_more p xs n (none_taken_from p xs n (λ i l k. h i l (omega (arith, k)))) (h n (omega arith) (omega arith))

-- the first of so many has its place among those
abbrev pub IsPlaced : (Sent → Bool) → List (Option Sent) → Option ℕ → Type 0
IsPlaced p xs at = (place_if xs at ≡ position p (sents xs)) × IfSome at (λ i. IsSome (cell xs i))

pub first_of : (p : Sent → Bool) (xs : List (Option Sent)) (n : ℕ) (at : Option ℕ) → n ≤ length xs
    → IsNext p xs 0 n at → IsPlaced p (take n xs) at
first_of p xs n None l h = (sym (place_none p (sents (take n xs)) (none_taken_from p xs n h)), search rules)
first_of p xs n (Some at) l h =
    let there : stands p (cell (take n xs) at) ≡ true = ap (stands p) (get_or-take n xs at None h.high) ∙ h.there in (
      first_in p (take n xs) at
          (none_taken_from p (take n xs) at
          (λ i low high. ap (stands p) (get_or-take n xs i None (omega (arith, high, h.high))) ∙ h.none i low high))
          there,
      is_full p (cell (take n xs) at) there,
    )

-- those that aren't sought stay, up to the next one
pub skipped : (f : Sent → Sent) (p : Sent → Bool) → ((s : Sent) → p s ≡ false → f s ≡ s)
    → (xs ys : List (Option Sent)) (from k : ℕ) → from + k ≤ length xs → length ys ≡ length xs
    → ys ≡ map (option_map f) (take from xs) ++ drop from xs → NoneIn p ys from (from + k)
    → ys ≡ map (option_map f) (take (from + k) xs) ++ drop (from + k) xs
skipped f p h xs ys from zero l same is none =
    is ∙ ap (λ n. map (option_map f) (take n xs) ++ drop n xs) (omega arith)
skipped f p h xs ys from (suc k) l same is none =
    let i : ℕ = from + k in
    over_more (option_map f) xs ys ys i (omega (arith, l)) same
    (skipped f p h xs ys from k (omega (arith, l)) same is (λ j a b. none j a (omega (arith, b))))
    (same_in (option_map f) ys i (unsought f p h (cell ys i) (none i (omega arith) (omega arith))))
    ∙ ap (λ n. map (option_map f) (take n xs) ++ drop n xs) (omega arith)

passed : (f : Sent → Sent) (p : Sent → Bool) → ((s : Sent) → p s ≡ false → f s ≡ s)
    → (xs ys : List (Option Sent)) (from to : ℕ) → from ≤ to → to ≤ length xs → length ys ≡ length xs
    → ys ≡ map (option_map f) (take from xs) ++ drop from xs → NoneIn p ys from to
    → ys ≡ map (option_map f) (take to xs) ++ drop to xs
passed f p h xs ys from to low high same is none =
    let e : from + (to - from) ≡ to = omega (arith, low) in
    skipped f p h xs ys from (to - from) (omega (arith, low, high)) same is
    (λ i l k. none i l (omega (arith, k, low)))
    ∙ ap (λ n. map (option_map f) (take n xs) ++ drop n xs) e

-- ---- those behind a cell
-- none of them is
none_behind : (p : Sent → Bool) (xs : List (Option Sent)) (from : ℕ) → NoneIn p xs from (length xs)
    → list_any p (sents (drop from xs)) ≡ false
none_behind p [] zero h = refl
none_behind p [] (suc from) h = refl
none_behind p (None ∷ xs) zero h = none_behind p xs zero (λ i l k. h (suc i) (omega arith) (omega (arith, k)))
none_behind p (Some x ∷ xs) zero h =
    ap (λ b. b || list_any p (sents xs)) (h zero (omega arith) (omega arith))
    ∙ none_behind p xs zero (λ i l k. h (suc i) (omega arith) (omega (arith, k)))
none_behind p (x ∷ xs) (suc from) h =
    none_behind p xs from (λ i l k. h (suc i) (omega (arith, l)) (omega (arith, k)))

-- or one is
or_other : (a b : Bool) → b ≡ true → (a || b) ≡ true
or_other true b h = refl
or_other false b h = h

one_behind : (p : Sent → Bool) (xs : List (Option Sent)) (from at : ℕ) → from ≤ at → stands p (cell xs at) ≡ true
    → list_any p (sents (drop from xs)) ≡ true
one_behind p [] from at low h = empty _ h
one_behind p (None ∷ xs) zero zero low h = empty _ h
one_behind p (Some x ∷ xs) zero zero low h = ap (λ b. b || list_any p (sents xs)) h
one_behind p (None ∷ xs) zero (suc at) low h = one_behind p xs zero at (omega arith) h
one_behind p (Some x ∷ xs) zero (suc at) low h =
    or_other (p x) (list_any p (sents xs)) (one_behind p xs zero at (omega arith) h)
one_behind p (x ∷ xs) (suc from) zero low h = absurd (omega (arith, low))
one_behind p (x ∷ xs) (suc from) (suc at) low h = one_behind p xs from at (omega (arith, low)) h

pub some_behind : (p : Sent → Bool) (xs : List (Option Sent)) (i : ℕ) (at : Option ℕ) → IsSome (cell xs i)
    → IsNext p xs (i + 1) (length xs) at → is_some at ≡ list_any p (drop (place xs i + 1) (sents xs))
some_behind p xs i at full h =
    found (i + 1) at h ∙ (ap (list_any p) (sents_drop (i + 1) xs)
    ∙ ap (λ n. list_any p (drop n (sents xs))) (next_place xs i full))
  where
    found : (from : ℕ) (at : Option ℕ) → IsNext p xs from (length xs) at
        → is_some at ≡ list_any p (sents (drop from xs))
    found from None h = sym (none_behind p xs from h)
    found from (Some at) h = sym (one_behind p xs from at h.low h.there)

-- ---- what becomes of all
-- so many of them changed, and no other
pub record AreChanged (f : Sent → Sent) (xs ys : List (Option Sent)) (from : ℕ) : Type 0 where
  pub low : from ≤ length xs
  pub many : length ys ≡ length xs
  pub cells : ys ≡ map (option_map f) (take from xs) ++ drop from xs

-- up to the next one that is sought, and that one: those between aren't changed
pub changed_next : (f : Sent → Sent) (p : Sent → Bool) → ((s : Sent) → p s ≡ false → f s ≡ s)
    → (xs ys zs : List (Option Sent)) (from at : ℕ) → AreChanged f xs ys from → IsFound p ys from (length xs) at
    → zs ≡ set ys at (option_map f (cell ys at)) → AreChanged f xs zs (at + 1)
changed_next f p h xs ys zs from at k found put = record {
  low = omega (arith, found.high);
  many = ap length put ∙ (length-set ys at _ ∙ k.many);
  cells =
      over_more (option_map f) xs ys zs at found.high k.many
      (passed f p h xs ys from at found.low (omega (arith, found.high)) k.many k.cells found.none) put;
}

-- and all, if none is behind
pub changed_all : (f : Sent → Sent) (p : Sent → Bool) → ((s : Sent) → p s ≡ false → f s ≡ s)
    → (xs ys : List (Option Sent)) (from : ℕ) → AreChanged f xs ys from → NoneIn p ys from (length xs)
    → sents ys ≡ map f (sents xs)
changed_all f p h xs ys from k none =
    ap sents (passed f p h xs ys from (length xs) k.low (omega arith) k.many k.cells none
    ∙ over_all (option_map f) xs (length xs) (omega arith)) ∙ sents_map f xs

-- ---- what is kept beside them
-- the command in a cell becomes another
pub kept_put : {A : Type 0} (old new : Tallies A) (xs ys : List (Option Sent)) (at : ℕ) (s t u : Sent)
    → cell xs at ≡ Some s → t ≡ u → ys ≡ set xs at (Some t)
    → ((zs : List Sent) (i : ℕ) → i < length zs → s ≡ command_at zs i → IsKept zs old → IsKept (set zs i u) new)
    → IsKept (sents xs) old → IsKept (sents ys) new
kept_put old new xs ys at s t u there is put step k =
    let full : IsSome (cell xs at) = subst IsSome (sym there) refl in
    subst (λ zs. IsKept zs new)
    (sym (ap sents put ∙ (sents_put xs at t full ∙ ap (set (sents xs) (place xs at)) is)))
    (step (sents xs) (place xs at) (place_less xs at full) (command_of xs at s there) k)
