-- An end counts no more bytes than its command asks for.
use Rattle.mscp_ported.proofs.Common.{Block, Drive, End, Order, Record, Shape, Some, arith, end_given, moved_body, none-some, outcome_body, same_Some, ℕ, ◌≡◌, ◌≤◌}
use Rattle.mscp_packet.specs.declared.command.Order.TheVariants as orders
use Rattle.mscp_ported.proofs.Numbered.{asked_by, counted_in}

pub moved_few : (order : Order) (good n : ℕ) → asked_by order ≤ n → counted_in (moved_body order good) ≤ n
moved_few (orders.Move kind count block) good n h = search (arith, h)
moved_few order good n h = grind arith

outcome_few : (shape : Shape) (status : ℕ) (order : Order) (good n : ℕ) → asked_by order ≤ n
    → counted_in (outcome_body shape status order good) ≤ n
outcome_few shape status order good n h = grind (arith, moved_few)

pub given_few : (k : Block) (d : Drive) (r : Record) (e : End) (n : ℕ) → end_given k d r ≡ Some e
    → asked_by r.command.order ≤ n → counted_in e.body ≤ n
given_few k d r e n h few = grind (arith, counted_in, none-some, same_Some, outcome_few)
