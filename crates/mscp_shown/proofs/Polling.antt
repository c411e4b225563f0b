-- Which ends are those of polls, and what they tell.
use Rattle.mscp_shown.proofs.Common.{Answer, Block, Bool, Command, End, EndBody, None, Option, Order, Sent, Settings, Some, aborted_end, arith, endcode, false, if◌then◌else◌, is_queued, nat_eq, outcome_of, own_end, polled_by, true, ℕ, ◌%◌, ◌≡◌}
use Rattle.mscp_packet.specs.declared.command.Order.TheVariants as orders
use Rattle.mscp_packet.specs.declared.end.EndBody.TheVariants as bodies
use Rattle.mscp_shown.proofs.Suited.{Suits}
use Rattle.mscp_shown.proofs.Saying.{Says}

-- the command that the end of a poll is about
abbrev pub poll_by : ℕ → EndBody → Option ℕ
poll_by status (bodies.Status other figure) = if nat_eq (status % 32) 0 then Some other else None
poll_by status body = None

abbrev pub poll_of : End → Option ℕ
poll_of e = poll_by e.status e.body

-- and the figure that it tells
abbrev pub figure_by : EndBody → ℕ
figure_by (bodies.Status other figure) = figure
figure_by body = 0

abbrev pub figure_told : End → ℕ
figure_told e = figure_by e.body

-- the command that an order asks about as a poll
abbrev pub asked_by : Order → Option ℕ
asked_by (orders.Status other) = Some other
asked_by order = None

-- ---- what the wire says
-- the end of an order says what it asks about as a poll
pub polled_says : (o : Order) (s : Sent) (a : Answer) (status : ℕ) (body : EndBody) → Says o s → Suits o status body
    → a.status ≡ status → a.code ≡ endcode o → polled_by s a ≡ asked_by o
polled_says o s a status body says suits st c = grind arith

-- ---- what the ends of a controller say
pub own_polls : (c : Settings) (online : Bool) (figure : ℕ) (k : Command) (s : Sent) → is_queued c k ≡ false
    → Says k.order s → poll_of (own_end c online figure k) ≡ asked_by k.order
own_polls c online figure k s q says = grind arith

pub aborted_polls : (c : Settings) (k : Command) (good : ℕ) → is_queued c k ≡ true
    → (poll_of (aborted_end k good) ≡ asked_by k.order) × (asked_by k.order ≡ None)
aborted_polls c k good q = grind arith

pub served_polls : (c : Settings) (online : Bool) (k : Command) (good : ℕ) (block : Block) → is_queued c k ≡ true
    → (poll_of (outcome_of c online k good block) ≡ asked_by k.order) × (asked_by k.order ≡ None)
served_polls c online k good block q = grind arith
