-- What is true of the waiting commands of every run.
use Rattle.mscp_controller.proofs.Common.{◌≡◌, ℕ, suc, ◌+◌, ◌-◌, ◌<◌, ◌≤◌, true, not, List, [], ◌∷◌, ◌++◌, length, ap, ◌∙◌, arith, append-nil, filter, AllByRecursion, range_with_len, length-take, get_or_past, filter-append, le-ltb, lt-ltb, ltb-true, ltb-false, true≢false, Trace, Moment, moment, positions, is_waiting, waiting, earlier, later, passed_at, passed, Pairs, filter_all, filter_none, pairs_middle, sum_none, every_weaker, every_kept, every_filter, range_below, pairs_range, pairs_filter}
use Rattle.mscp_controller.proofs.Promise.Grows.{passed_more}

pub waiting_below : (t : Trace) → AllByRecursion (λ x. x < length t) (waiting t)
unfolding waiting
waiting_below t = search (arith, range_below 0 (length t), every_kept, every_weaker)

pub waiting_waits : (t : Trace) → AllByRecursion (λ x. is_waiting t x ≡ true) (waiting t)
unfolding waiting
waiting_waits t = search (arith, range_below 0 (length t), every_weaker, every_filter)

pub waiting_rises : (t : Trace) → Pairs ◌<◌ (waiting t)
unfolding waiting
waiting_rises t = pairs_filter ◌<◌ (is_waiting t) (positions t) (pairs_range 0 (length t))

passed_at_past : (t : Trace) (m : Moment) (x : ℕ) → length t ≤ x → passed_at t m x ≡ 0
unfolding passed_at
passed_at_past t m x h = search (arith, le-ltb x (length t) h)

pub passed_last : (t : Trace) (m : Moment) → passed (t ++ m ∷ []) (length t) ≡ 0
unfolding passed
passed_last t m = search (arith, passed_more, passed_at_past, range_below, sum_none, every_weaker, length-take)

-- a waiting command cuts the list of those that wait
pub record Cut (t : Trace) (y : ℕ) (front back : List ℕ) : Type 0 where
  pub is : waiting t ≡ front ++ y ∷ back
  pub before : AllByRecursion (λ x. x < y) front
  pub behind : AllByRecursion (λ x. y < x) back

pub cut_of : (t : Trace) (A : List ℕ) (x : ℕ) (B : List ℕ) → waiting t ≡ A ++ x ∷ B → Cut t x A B
cut_of t A x B e = search (arith, waiting_rises t, pairs_middle)

-- The front is what is earlier, and the back what is later.
pub earlier_is : (t : Trace) (x : ℕ) (A B : List ℕ) → Cut t x A B → earlier t x ≡ A
earlier_is t x A B k =
    search (arith, le-ltb x x (omega arith), append-nil A, filter-append, filter_all, every_weaker, lt-ltb, filter_none)

pub later_is : (t : Trace) (x : ℕ) (A B : List ℕ) → Cut t x A B → later t x ≡ B
later_is t x o w k = grind (arith, le-ltb, filter-append, filter_none, every_weaker, filter_all, lt-ltb)

range_cut : (a n k : ℕ) → k < n → range_with_len a n ≡ range_with_len a k ++ (a + k)
    ∷ range_with_len (a + k + 1) (n - (k + 1))
range_cut a (suc n) (suc k) h = search (arith, range_cut (a + 1) n k (omega arith))
range_cut a o k h = grind arith

pub cut : (t : Trace) (y : ℕ)
    → y < length t → is_waiting t y ≡ true → (front : List ℕ) × (back : List ℕ) × Cut t y front back
unfolding waiting
cut t y l w =
    let n = length t - (y + 1) in
    let r : positions t ≡ range_with_len 0 y ++ y ∷ range_with_len (y + 1) n = range_cut 0 (length t) y l
    ∙ ap (λ b. range_with_len 0 y ++ b ∷ range_with_len (b + 1) n) (omega arith) in
    let front = filter (is_waiting t) (range_with_len 0 y) in
    let back = filter (is_waiting t) (range_with_len (y + 1) n) in (
      front,
      back,
      record {
        is = grind (arith, filter-append, n, r, front, back);
        before = grind (arith, every_kept, every_weaker, range_below);
        behind = grind (arith, every_kept, every_weaker, range_below, n);
      },
    )

-- nothing past the end of a run waits
pub waits_below : (t : Trace) (y : ℕ) → is_waiting t y ≡ true → y < length t
unfolding is_waiting moment
waits_below t y w = search (arith, ltb-true, true≢false, not, get_or_past, ltb-false)
