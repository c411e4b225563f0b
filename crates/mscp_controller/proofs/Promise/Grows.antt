-- What the definitions say when one more moment comes.
use Rattle.mscp_controller.proofs.Common.{◌≡◌, ℕ, ◌+◌, ◌<◌, ◌≤◌, false, cond, not, ◌&&◌, List, [], ◌∷◌, ◌++◌, drop, length, refl, ap, ◌∙◌, arith, append-nil, filter, count_by, None, range_with_len, get_or_append_left, get_or_at, drop-append-le, drop_all, length_push, take_at, take-append-le, sum_by_push, list_any-append, filter-append, flat_map-append, command_of, Settings, Trace, Moment, moment, positions, collect, connection_of, last_or, queues, sent_bytes, is_good, is_step, takes, command, connection, name, is_waiting, waiting, done, good, steps_after, serves_in, ends_in, passed_at, passed, ends_at, ends, untaken, Connection, First, name_on, filter_on, filter_filter, sum_on, flat_on, every_weaker, range_more, range_below, Event, Entry}

pub moment_before : (t : Trace) (m : Moment) (x : ℕ) → x < length t → moment (t ++ m ∷ []) x ≡ moment t x
unfolding moment
moment_before t m x h = get_or_append_left t (m ∷ []) (Event.Take First, Entry.Taken First None) x h

pub moment_last : (t : Trace) (m : Moment) → moment (t ++ m ∷ []) (length t) ≡ m
unfolding moment
moment_last t m = get_or_at t m [] (Event.Take First, Entry.Taken First None) (length t) refl

pub positions_more : (t : Trace) (m : Moment) → positions (t ++ m ∷ []) ≡ positions t ++ length t ∷ []
positions_more t m = ap (range_with_len 0) (length_push t m) ∙ range_more (length t)

-- What is collected after one more moment: what was, and what is seen in it.
pub collect_more : {X : Type 0} (seen : Trace → Moment → List X) (t : Trace) (m : Moment)
    → collect seen (t ++ m ∷ []) ≡ collect seen t ++ seen t m
unfolding collect
collect_more seen t m =
    grind (
      arith,
      range_below,
      take_at,
      moment_last,
      positions_more,
      append-nil,
      flat_on,
      every_weaker,
      take-append-le,
      moment_before,
      flat_map-append,
    )

pub last_or-append : {X : Type 0} (xs ys : List X) (d : X) → last_or (xs ++ ys) d ≡ last_or ys (last_or xs d)
last_or-append [] ys d = refl
last_or-append (x ∷ xs) ys d = last_or-append xs ys x

-- ---- commands
pub command_before : (t : Trace) (m : Moment) (x : ℕ) → x < length t → command (t ++ m ∷ []) x ≡ command t x
unfolding command
command_before t m x h = ap (λ (n : Moment). command_of (sent_bytes n.0)) (moment_before t m x h)

pub command_last : (t : Trace) (m : Moment) → command (t ++ m ∷ []) (length t) ≡ command_of (sent_bytes m.0)
unfolding command
command_last t m = ap (λ (n : Moment). command_of (sent_bytes n.0)) (moment_last t m)

pub connection_before : (t : Trace) (m : Moment) (x : ℕ) → x < length t → connection (t ++ m ∷ []) x ≡ connection t x
connection_before t m x h = ap (λ (n : Moment). connection_of n.0) (moment_before t m x h)

pub connection_last : (t : Trace) (m : Moment) → connection (t ++ m ∷ []) (length t) ≡ connection_of m.0
connection_last t m = ap (λ (n : Moment). connection_of n.0) (moment_last t m)

pub name_before : (t : Trace) (m : Moment) (x : ℕ) → x < length t → name (t ++ m ∷ []) x ≡ name t x
name_before t m x h = λ i. name_on (connection_before t m x h i) (command_before t m x h i).reference

pub drop_before : (t : Trace) (m : Moment) (x : ℕ) → x < length t
    → drop (x + 1) (t ++ m ∷ []) ≡ drop (x + 1) t ++ m ∷ []
drop_before t m x h = drop-append-le (x + 1) t (m ∷ []) (omega arith)

pub drop_last : (t : Trace) (m : Moment) → drop (length t + 1) (t ++ m ∷ []) ≡ []
drop_last t m = drop_all (length t + 1) (t ++ m ∷ []) (omega (arith, length_push t m))

pub is_waiting_before : (t : Trace) (m : Moment) (x : ℕ) → x < length t
    → is_waiting (t ++ m ∷ []) x ≡ (is_waiting t x && not (ends_in (name t x) m.1))
unfolding is_waiting
is_waiting_before t m x h = grind (arith, moment_before, name_before, drop_before, list_any-append)

pub is_waiting_last : (t : Trace) (m : Moment) → is_waiting (t ++ m ∷ []) (length t) ≡ queues m.1
unfolding is_waiting
is_waiting_last t m = grind (arith, moment_last, drop_last)

-- What waits after one more moment: what waited and isn't ended by it, and what it queues.
pub waiting_more : (t : Trace) (m : Moment) → waiting (t ++ m ∷ [])
    ≡ filter (λ x. not (ends_in (name t x) m.1)) (waiting t) ++ cond (queues m.1) (length t ∷ []) []
unfolding waiting
waiting_more t m =
    let before = filter_on (is_waiting (t ++ m ∷ [])) (λ x. is_waiting t x && not (ends_in (name t x) m.1))
    (positions t) (every_weaker (λ x. (0 ≤ x) × (x < 0 + length t))
    (λ x. is_waiting (t ++ m ∷ []) x ≡ (is_waiting t x && not (ends_in (name t x) m.1)))
    (λ x h. is_waiting_before t m x (omega arith)) (positions t) (range_below 0 (length t))) in
    search (arith, before, positions_more, filter-append, filter_filter, is_waiting_last)

module _ (t : Trace) (m : Moment) (x : ℕ) (h : x < length t) where
  -- How often a command was served after one more moment, and how often well.
  pub done_before : done (t ++ m ∷ []) x ≡ done t x + cond (serves_in (name t x) m.1) 1 0
  unfolding done
  done_before = search (arith, name_before, drop_before, sum_by_push)

  pub good_before : good (t ++ m ∷ []) x ≡ good t x + cond (serves_in (name t x) m.1 && is_good m.0) 1 0
  unfolding good
  good_before = search (arith, name_before, drop_before, sum_by_push)

pub done_last : (t : Trace) (m : Moment) → done (t ++ m ∷ []) (length t) ≡ 0
unfolding done
done_last t m = ap (count_by (λ (n : Moment). serves_in (name (t ++ m ∷ []) (length t)) n.1)) (drop_last t m)

-- How often a command was passed after one more moment.
pub passed_more : (t : Trace) (m : Moment) (x : ℕ) → passed (t ++ m ∷ []) x ≡ passed t x + passed_at t m x
unfolding passed
passed_more t m x = grind (
  arith,
  range_below,
  take_at,
  moment_last,
  positions_more,
  sum_on,
  every_weaker,
  take-append-le,
  moment_before,
  sum_by_push,
)

-- ---- ends
-- The ends after one more moment: those before, and those that it makes.
pub ends_more : (c : Settings) (via : Connection) (t : Trace) (m : Moment)
    → ends c via (t ++ m ∷ []) ≡ ends c via t ++ ends_at c via t m
unfolding ends
ends_more c via t m = collect_more (ends_at c via) t m

pub taken_more : (via : Connection) (t : Trace) (m : Moment) → count_by (λ n. takes via n.1) (t ++ m ∷ [])
    ≡ count_by (λ n. takes via n.1) t + cond (takes via m.1) 1 0
taken_more via t m = sum_by_push (λ (n : Moment). cond (takes via n.1) 1 0) t m

-- Where nothing is taken, the ends that it makes come behind the untaken ones.
pub untaken_more : (c : Settings) (via : Connection) (t : Trace) (m : Moment) → takes via m.1 ≡ false → count_by (λ n.
    takes via n.1) t ≤ length (ends c via t) → untaken c via (t ++ m ∷ []) ≡ untaken c via t ++ ends_at c via t m
unfolding untaken
untaken_more c via t m e h = search (arith, taken_more via t m, ends_more c via t m, drop-append-le)

-- ---- steps
-- How many steps there were after a command, after one more moment.
pub steps_more : (t : Trace) (m : Moment) (x : ℕ) → x < length t
    → steps_after (t ++ m ∷ []) x ≡ steps_after t x + cond (is_step m.0) 1 0
steps_more t m x h = search (arith, drop_before t m x h, sum_by_push)

pub steps_last : (t : Trace) (m : Moment) → steps_after (t ++ m ∷ []) (length t) ≡ 0
steps_last t m = ap (count_by (λ (n : Moment). is_step n.0)) (drop_last t m)
