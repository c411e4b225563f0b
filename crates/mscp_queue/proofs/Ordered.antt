-- Who came earlier was passed at least as often.
use Rattle.mscp_queue.proofs.Basics.{◌≡◌, ℕ, ◌+◌, ◌<◌, ◌≤◌, Bool, cond, List, [], ◌∷◌, ◌++◌, map, take, drop, length, arith, AllByRecursion, ArePassedInOrder, Record, advanced, passed_by, record_at, every_append, every_parts, every_weaker, cut_at}

-- ---- a step
-- what a step leaves of a record, whose command ends or not
abbrev own_left : Bool → Record → List Record
own_left ends r = cond ends [] (advanced r ∷ [])

-- and of all
abbrev all_left : ℕ → Bool → ℕ → List Record → List Record
all_left charge ends place rs = map (passed_by charge) (take place rs)
    ++ (own_left ends (record_at rs place) ++ drop (place + 1) rs)

passed_below : (n top : ℕ) (A : List Record) → AllByRecursion (λ z. z.passed ≤ top) A
    → AllByRecursion (λ z. z.passed ≤ top + n) (map (passed_by n) A)
passed_below n top [] h = tt
passed_below n top (r ∷ rs) h = (omega (arith, h.0), passed_below n top rs h.1)

left_below : (ends : Bool) (top : ℕ) (r : Record) (B : List Record) → AllByRecursion (λ z. z.passed ≤ top) (r ∷ B)
    → AllByRecursion (λ z. z.passed ≤ top) (own_left ends r ++ B)
left_below ends top r B h4 = grind arith

order_left : (n : ℕ) (ends : Bool) (A : List Record) (r : Record) (B : List Record) → ArePassedInOrder (A ++ r ∷ B)
    → ArePassedInOrder (map (passed_by n) A ++ (own_left ends r ++ B))
order_left n ends (q ∷ qs) r B h =
    let low : Record → Type 0 = λ z. z.passed ≤ q.passed in
    let high : Record → Type 0 = λ z. z.passed ≤ q.passed + n in
    let parts = every_parts low qs (r ∷ B) h.0 in
    let behind = every_weaker low high (λ z l. omega (arith, l)) (own_left ends r ++ B)
    (left_below ends q.passed r B parts.1) in (
      every_append high (map (passed_by n) qs) (own_left ends r ++ B) (passed_below n q.passed qs parts.0) behind,
      order_left n ends qs r B h.1,
    )
order_left n ends A r B h5 = grind arith

pub passed_left : (rs new : List Record) (place charge : ℕ) (ends : Bool) → place < length rs
    → new ≡ all_left charge ends place rs → ArePassedInOrder rs → ArePassedInOrder new
passed_left rs new place charge ends l is h = grind (arith, order_left, cut_at)
