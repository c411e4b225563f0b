-- Which commands may start, and by how many blocks one was passed.
use Rattle.std.specs.Prelude.{ℕ, ◌+◌, cond, Bool, not, ◌&&◌, ◌||◌, nat_eq, nat_lt, nat_le, List, length, take, filter, sum_by}
use Rattle.std.specs.List.{list_all}
use Rattle.mscp_drive.specs.Settings.{Settings}
use Rattle.mscp_queue.specs.Orders.{is_sequential}
use Rattle.mscp_controller.specs.History.{Moment, Trace, moment, positions}
use Rattle.mscp_controller.specs.Commands.{unit, order, name, is_waiting, waiting, weight, done, is_idle, earlier, later, starts_in}

-- what the start of y costs each earlier command that waits: all the steps that y takes (profile)
abbrev pub charge : Trace → ℕ → ℕ
charge t y = weight t y

-- x waits after t and was never served (profile)
abbrev pub is_unstarted : Trace → ℕ → Bool
is_unstarted t x = nat_lt x (length t) && is_waiting t x && nat_eq (done t x) 0

-- by how many blocks x is passed at the moment m, which comes after t: the charge of the later command that starts
-- (profile)
unfoldable pub passed_at : Trace → Moment → ℕ → ℕ
passed_at t m x = cond (is_unstarted t x) (sum_by (charge t) (filter (λ y. starts_in (name t y) m.1) (later t x))) 0

-- by how many blocks x was passed (profile)
unfoldable pub passed : Trace → ℕ → ℕ
passed t x = sum_by (λ i. passed_at (take i t) (moment t i) x) (positions t)

-- y has to stay behind z: both are of one unit, and one of them is sequential (manual, "Command Categories and
-- Execution Order")
abbrev pub fences : Trace → ℕ → ℕ → Bool
fences t y z = nat_eq (unit t z) (unit t y) && (is_sequential (order t z) || is_sequential (order t y))

-- y stays behind no command that came before it (manual, "Command Categories and Execution Order")
unfoldable pub is_free : Trace → ℕ → Bool
is_free t y = list_all (λ z. not (fences t y z)) (earlier t y)

-- each command that came before y keeps within the budget if y starts (profile)
abbrev pub is_affordable : Settings → Trace → ℕ → Bool
is_affordable c t y = list_all (λ x. nat_le (passed t x + charge t y) c.budget) (earlier t y)

-- y, which waits, may start (manual, "Command Categories and Execution Order", the budget is the profile's)
unfoldable pub is_startable : Settings → Trace → ℕ → Bool
is_startable c t y = is_idle t && is_free t y && is_affordable c t y

-- the commands that may start, in the order in which they came (profile)
unfoldable pub startable : Settings → Trace → List ℕ
startable c t = filter (is_startable c t) (waiting t)
