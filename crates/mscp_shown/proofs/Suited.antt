-- What an end owes to its command alone: the rules that look at no other command, and the statuses and bodies that suit
-- an order.
use Rattle.mscp_shown.proofs.Common.{Answer, EndBody, Order, Sent, count_of, endcode, has_count, has_endcode, has_status, is_about, is_plain, is_whole, may_have_status, move_byte, names_unit, opcode_byte, other_of, points_into, refused_body, succeeds, true, ℕ, ◌%◌, ◌/◌, ◌<◌, ◌≡◌, ◌≢◌, ◌≤◌}
use Rattle.mscp_packet.specs.declared.command.Order.TheVariants as orders
use Rattle.mscp_packet.specs.declared.end.EndBody.TheVariants as bodies

-- the rules that look at the end and its command alone
pub record Keeps (s : Sent) (a : Answer) : Type 0 where
  pub unit : names_unit s a ≡ true
  pub endcode : has_endcode s a ≡ true
  pub status : has_status s a ≡ true
  pub success : succeeds a (other_of s a) ≡ true
  pub about : is_about a (other_of s a) ≡ true
  pub count : has_count a (count_of s a) ≡ true

-- the rules of a status beside its code
pub record IsApt (s : Sent) (a : Answer) : Type 0 where
  pub whole : is_whole s a ≡ true
  pub plain : is_plain s a ≡ true
  pub points : points_into s a ≡ true

-- a status and a body suit an order
abbrev pub Suits : Order → ℕ → EndBody → Type 0
Suits (orders.Abort other) status body = (status % 32 ≡ 0) × (body ≡ bodies.Abort other)
Suits (orders.Status other) status body = (status % 32 ≡ 0) × (figure : ℕ) × (body ≡ bodies.Status other figure)
Suits (orders.Move kind count block) status body =
    (may_have_status (move_byte kind) (status % 32) ≡ true)
    × (moved : ℕ) × (body ≡ bodies.Moved moved) × (moved ≤ count) × (status % 32 ≡ 0 → moved ≡ count)
Suits (orders.Invalid byte fault) status body =
    (status ≡ fault) × (body ≡ refused_body (endcode (orders.Invalid byte fault)))
Suits order status body = may_have_status (opcode_byte order) (status % 32) ≡ true

-- its sub-code suits the order: that of Success is 0, but for an ONLINE's, and that of Invalid Command is the offset of
-- a byte that its message has
abbrev pub IsFine : Order → ℕ → Type 0
IsFine orders.Online status = status % 32 ≢ 1
IsFine (orders.Move kind count block) status =
    (status % 32 ≡ 0 → status ≡ 0) × (status % 32 ≡ 1 → status / 256 < 32)
IsFine (orders.SetController version) status =
    (status % 32 ≡ 0 → status ≡ 0) × (status % 32 ≡ 1 → status / 256 < 14)
IsFine (orders.Invalid byte fault) status = Unit {0}
IsFine order status = (status % 32 ≡ 0 → status ≡ 0) × (status % 32 ≢ 1)
