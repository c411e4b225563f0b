-- How many commands of each connection wait.
use Rattle.mscp_controller.proofs.Basics.{◌≡◌, ℕ, ◌+◌, ◌<◌, false, List, [], ◌∷◌, ◌++◌, map, length, take, drop, ap, refl, arith, if◌then◌else◌, option_to_list, Option, and-false, true≢false, length-append, filter-append, End, Block, Connection, First, Second, Report, Choice, Line, Serves, name_on, same_connection, Record, no_record, passed_by, record_at, remains, without, every_from, filter_filter, filter_on, one_side, other_side, cut_at, ends_reported, waiting_on, sides_length}

-- ---- a step
passed_count : (n : ℕ) (via : Connection) (rs : List Record)
    → length (waiting_on via (map (passed_by n) rs)) ≡ length (waiting_on via rs)
passed_count n via [] = refl
passed_count n via (r ∷ rs) = search (arith, passed_count n via rs)

remains_count : (via : Connection) (r : Record) (e : Option End) → length (waiting_on via (remains r e)) + length
    (if same_connection r.connection via then option_to_list e else []) ≡ length (waiting_on via (r ∷ []))
remains_count via r e = grind arith

parts_count : (via : Connection) (A B C : List Record) → length (waiting_on via (A ++ (B ++ C)))
    ≡ length (waiting_on via A) + (length (waiting_on via B) + length (waiting_on via C))
parts_count via A B C = search (arith, length-append, filter-append)

-- where a command ends, one less waits of its connection
count_after : (via : Connection) (n place : ℕ) (rs : List Record) (e : Option End) → place < length rs → let r =
    record_at rs place in length (waiting_on via (map (passed_by n) (take place rs) ++ (remains r e ++ drop (place + 1)
    rs))) + length (if same_connection r.connection via then option_to_list e else []) ≡ length (waiting_on via rs)
count_after via n place rs e l =
    let A = take place rs in
    let B = drop (place + 1) rs in
    let r = record_at rs place in
    omega (
      arith,
      parts_count via (map (passed_by n) A) (remains r e) B,
      passed_count n via A,
      remains_count via r e,
      ap (λ xs. length (waiting_on via xs)) (cut_at no_record rs place l),
      parts_count via A (r ∷ []) B,
    )

-- the waiting commands of a connection and the ends that a step brings for it are as many as waited
pub count_stepped : {K : Type 0} (via : Connection) (picks : List Choice → ℕ → Type 0) (k : Block) (old : Line K)
    (report : Report) (new : Line K) → Serves picks k old report new
    → length (waiting_on via new.waiting) + length (ends_reported via report) ≡ length (waiting_on via old.waiting)
count_stepped {K} via picks k old Report.Idle new h = search arith
count_stepped {K} via picks k old (Report.Served connection reference unit lbn started seek ended) new h =
    search (arith, count_after)

-- ---- a command is aborted
-- the others keep their commands
pub other_count : (via other : Connection) (n : ℕ) (ws : List Record) → same_connection via other ≡ false
    → length (waiting_on other (without (name_on via n) ws)) ≡ length (waiting_on other ws)
other_count via other n ws d =
    grind (arith, other_side, filter_filter, filter_on, every_from, one_side, true≢false, and-false)

-- and its own connection one less
pub own_count : (via : Connection) (n : ℕ) (ws : List Record) → length (without (name_on via n) ws) + 1 ≡ length ws
    → length (waiting_on via (without (name_on via n) ws)) + 1 ≡ length (waiting_on via ws)
own_count First n ws e = omega (
  arith,
  other_count First Second n ws refl,
  sides_length (λ (r : Record). r.connection) ws,
  sides_length (λ (r : Record). r.connection) (without (name_on First n) ws),
)
own_count Second n ws e = omega (
  arith,
  other_count Second First n ws refl,
  sides_length (λ (r : Record). r.connection) ws,
  sides_length (λ (r : Record). r.connection) (without (name_on Second n) ws),
)
