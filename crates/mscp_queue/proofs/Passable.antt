-- Where the oldest may still be passed by each, each may pass those in front of it.
use Rattle.mscp_queue.proofs.Basics.{◌≡◌, ℕ, ◌+◌, ◌≤◌, true, List, [], ◌∷◌, take, refl, arith, All, AllByRecursion, le-leb, All-from_recursion, All-take, recursion_from_All, ArePassedInOrder, Record, no_record, record_at, is_affordable, every_weaker}
use Rattle.mscp_queue.proofs.Common.{MayAllPass}

module _ (budget most : ℕ) where
  -- so many blocks may still pass it
  abbrev P : Record → Type 0
  P z = z.passed + most ≤ budget

  all_affordable : (r : Record) (front : List Record) → r.weight ≤ most → AllByRecursion P front
      → is_affordable budget r front ≡ true
  all_affordable r [] l h = refl
  all_affordable r (z ∷ zs) l h = search (arith, all_affordable r zs l h.1, le-leb)

  -- who came earlier was passed at least as often: where the oldest may still be passed, each may
  passable : (rs : List Record) → ArePassedInOrder rs → (record_at rs 0).passed + most ≤ budget → AllByRecursion P rs
  passable [] order fits = tt
  passable (q ∷ qs) order fits = grind (arith, every_weaker)

  pub may_all_pass : (rs : List Record) → ArePassedInOrder rs → All (λ r. r.weight ≤ most) rs
      → (record_at rs 0).passed + most ≤ budget → MayAllPass budget rs
  may_all_pass rs order light fits place l = all_affordable (record_at rs place) (take place rs)
      (light place no_record l) (recursion_from_All P (take place rs)
      (All-take P place rs (All-from_recursion P rs (passable rs order fits))))
