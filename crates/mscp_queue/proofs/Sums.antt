-- What is left of records, and that no figure is over the bound.
use Rattle.mscp_queue.proofs.Common.{◌≡◌, ℕ, ◌+◌, ◌*◌, ◌^◌, ◌<◌, ◌≤◌, Bool, true, false, cond, List, [], ◌∷◌, ◌++◌, take, drop, length, arith, filter, sum_by, All, Option, AllByRecursion, range_with_len, mul-le-mul_right, recursion_from_All, map-range_with_len_more, sum_by-append, sum_by-cons, Drive, Connection, Name, IsHeld, figure_at, figures_from, looked_at, Record, is_in_service, left_of, no_record, record_at}
use Rattle.mscp_queue.proofs.Placed.{cut_at}

-- no more is left than the longest
abbrev pub IsShort : ℕ → Record → Type 0
IsShort longest r = left_of r ≤ longest

-- no more is left of the records than the longest for each
sum_small : (longest : ℕ) (rs : List Record) → AllByRecursion (IsShort longest) rs
    → sum_by left_of rs ≤ length rs * longest
sum_small longest [] h = omega arith
sum_small longest (r ∷ rs) h = omega (arith, sum_by-cons left_of r rs, h.0, sum_small longest rs h.1)

-- so little that it fits 32 bits, with the budget
pub all_small : (room longest budget : ℕ) (rs : List Record) → All (IsShort longest) rs → length rs ≤ room
    → room * longest + budget < 2 ^ 32 → sum_by left_of rs + budget < 2 ^ 32
all_small room longest budget rs h few small =
    omega (arith, sum_small longest rs (recursion_from_All (IsShort longest) rs h), mul-le-mul_right longest few)

-- none of a queue's commands weighs more than the longest
pub held_short : {room budget longest : ℕ} {rs : List Record} {ds : List Drive} {begun : Option Name} {serving : Bool}
    → IsHeld room budget longest rs ds begun serving → All (λ r. r.weight ≤ longest) rs
held_short h = λ i other l. let k = h.each i other l in let short = k.waitable.short in omega (arith, k.weight, short)

-- and what is left of them fits, too
pub held_small : {room budget longest : ℕ} {rs : List Record} {ds : List Drive} {begun : Option Name} {serving : Bool}
    → IsHeld room budget longest rs ds begun serving → sum_by left_of rs + budget < 2 ^ 32
held_small {room} {budget} {longest} {rs} h = all_small room longest budget rs
    (λ i other l. let short = held_short h i other l in omega (arith, short)) h.fits h.small

serving_when : (r : Record) (rs : List Record) → sum_by left_of (filter is_in_service rs) ≤ sum_by left_of rs
    → (b : Bool)
    → sum_by left_of (cond b (r ∷ filter is_in_service rs) (filter is_in_service rs)) ≤ sum_by left_of (r ∷ rs)
serving_when r rs h true = omega (arith, sum_by-cons left_of r (filter is_in_service rs), sum_by-cons left_of r rs, h)
serving_when r rs h false = omega (arith, sum_by-cons left_of r rs, h)

-- no more is left of those in service than of all
serving_less : (rs : List Record) → sum_by left_of (filter is_in_service rs) ≤ sum_by left_of rs
serving_less [] = omega arith
serving_less (r ∷ rs) = serving_when r rs (serving_less rs) (is_in_service r)

-- the figure of a command that isn't in service is at most what is left of all, and the budget
sum_bounded : (rs : List Record) (place : ℕ) → place < length rs → sum_by left_of (take place rs) + sum_by
    left_of (filter is_in_service (drop (place + 1) rs)) + left_of (record_at rs place) ≤ sum_by left_of rs
sum_bounded rs place l = search (
  arith,
  cut_at no_record rs place l,
  sum_by-append left_of (take place rs) (record_at rs place ∷ drop (place + 1) rs),
  sum_by-cons left_of (record_at rs place) (drop (place + 1) rs),
  serving_less (drop (place + 1) rs),
)

-- whether it is in service or not
pub figure_small : (budget : ℕ) (rs : List Record) (place : ℕ) → sum_by left_of rs + budget < 2 ^ 32 → place < length rs
    → figure_at budget rs place < 2 ^ 32
figure_small budget rs place small l = search (arith, sum_bounded rs place l)

-- ---- a look
entry_at : ℕ → List Record → ℕ → (Connection × ℕ × ℕ)
entry_at budget rs place = looked_at (record_at rs place) (figure_at budget rs place)

-- the figures of one more place
pub figures_more : (budget : ℕ) (rs : List Record) (n : ℕ) → figures_from budget rs (range_with_len 0 (n + 1))
    ≡ figures_from budget rs (range_with_len 0 n) ++ looked_at (record_at rs n) (figure_at budget rs n) ∷ []
unfolding entry_at
figures_more budget rs n = map-range_with_len_more {X = Connection × ℕ × ℕ} (entry_at budget rs) 0 n n (omega arith)
