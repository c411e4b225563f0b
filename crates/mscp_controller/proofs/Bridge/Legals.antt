-- A run with one more right moment is legal, and what a step says where it serves a command.
use Rattle.mscp_controller.proofs.Common.{◌≡◌, ℕ, ◌<◌, true, ◌||◌, ◌&&◌, List, [], ◌∷◌, ◌++◌, map, take, drop, length, arith, if◌then◌else◌, nat_eq, option_map, slice_get, slice_index_or, None, Option, Some, command_of, end_bytes, Block, First, Settings, Trace, Moment, moment, collect, Service, service_in, WhenStarted, balance, ends, outstanding, untaken, command, connection, reference, service_name, unit, is_waiting, waiting, done, good, in_service, arrival, answer, outcome, figure, figure_of, is_free, is_startable, passed, passed_at, startable, head_cylinder, head_up, is_online, Choice, IsPick, IsPicked, IsRight, IsLegal, IsServed, block_of, seek_to, end_of, shown, Event, Entry, each_push, Report}

-- What holds at each moment, with one more.
each_more : (R : Trace → Moment → Type 0) (t : Trace) (m : Moment) → ((i : ℕ) → i < length t → R (take i t)
    (moment t i)) → R t m → (i : ℕ) → i < length (t ++ m ∷ []) → R (take i (t ++ m ∷ [])) (moment (t ++ m ∷ []) i)
unfolding moment
each_more R t m l r = each_push (Event.Take First, Entry.Taken First None) R t m l r

-- One more right moment.
pub legal_more : (c : Settings) (t : Trace) (m : Moment) → IsLegal c t → IsRight c t m.0 m.1 → IsLegal c (t ++ m ∷ [])
legal_more c t m l r = each_more (λ u n. IsRight c u n.0 n.1) t m l r

-- One more picked moment.
pub picked_more : (c : Settings) (picks : List Choice → ℕ → Type 0) (t : Trace) (m : Moment) → IsPicked c picks t
    → WhenStarted (λ s. IsPick c picks t (service_name s)) (service_in m.1) → IsPicked c picks (t ++ m ∷ [])
picked_more c picks t m l r = each_more (λ u n. WhenStarted (λ s. IsPick c picks u (service_name s)) (service_in n.1)) t
    m l r

-- all that a step says where it serves y
abbrev pub service_by : Settings → Trace → Block → ℕ → Service
service_by c t k y = record {
  connection = connection t y;
  reference = reference t y;
  unit = unit t y;
  lbn = block_of t y;
  started = nat_eq (done t y) 0;
  seek = seek_to c t (unit t y) (block_of t y);
  ended = end_of c t k y;
}

-- A step is right by the command that it serves.
pub by_serving : {c : Settings} {t : Trace} {k : Block} {s : Service} (y : ℕ) → is_waiting t y ≡ true
    → (in_service t y || is_startable c t y) ≡ true → s ≡ service_by c t k y → (y : ℕ) × IsServed c t k s y
by_serving y w n e = search arith

-- ---- by computation
-- a step after t with this block serves y, if something waits: none where y may not be served
abbrev pub step_by : Settings → Trace → Block → ℕ → List ℕ → Option Entry
step_by c t k y [] = Some (Entry.Stepped Report.Idle)
step_by c t k y (x ∷ xs) = if is_waiting t y &&
    (in_service t y || is_startable c t y) then Some (Entry.Stepped (Report.Served (connection t y) (reference t y)
    (unit t y) (block_of t y) (nat_eq (done t y) 0) (seek_to c t (unit t y) (block_of t y)) (end_of c t k y))) else None

-- what is answered to an event after t, if a step serves y
abbrev pub answer_by : Settings → Trace → Event → ℕ → Option Entry
answer_by c t (Event.Send via b) y = Some (Entry.Sent via (arrival c via t b.items))
answer_by c t (Event.Take via) y =
    Some (Entry.Taken via (option_map (λ e. record { items = end_bytes e }) (slice_get (untaken c via t) 0)))
answer_by c t (Event.Step k) y = step_by c t k y (waiting t)
answer_by c t Event.Look y = Some (Entry.Looked (record { items = map (shown c t) (waiting t) }))

-- the commands that are left to be served after an event, which serves the first of them if it is a step and something
-- waits
abbrev pub still_served : Trace → Event → List ℕ → List ℕ
still_served t (Event.Step k) ys = if nat_eq (length (waiting t)) 0 then ys else drop 1 ys
still_served t event ys = ys

-- what is answered to the events of ms after t, if the steps serve these commands, one after the other
unfoldable pub answers_by : Settings → Trace → Trace → List ℕ → List (Option Entry)
unfolding moment collect command_of command is_waiting waiting done good passed_at passed is_free is_startable startable
    figure figure_of is_online head_cylinder head_up answer outcome ends untaken balance outstanding arrival block_of
answers_by c t [] ys = []
answers_by c t (m ∷ ms) ys =
    answer_by c t m.0 (slice_index_or ys 0 0) ∷ answers_by c (t ++ m ∷ []) ms (still_served t m.0 ys)
