-- The status with which an end is told suits its command, as that does with which the controller made it.
use Rattle.mscp_logged.proofs.Common.{Block, Bool, EndBody, IsFine, Order, Says, Sent, Suits, Verdict, Volume, arith, cond, endcode, false, is_immediate, is_move, status_after, true, unit_state, ℕ, ◌<◌, ◌==◌, ◌^◌, ◌||◌, ◌≡◌, ◌≢◌}
use Rattle.mscp_packet.specs.declared.command.MoveKind.TheVariants as kinds
use Rattle.mscp_packet.specs.declared.command.Order.TheVariants as orders
use Rattle.mscp_port.specs.declared.verdict.Verdict.TheVariants as verdicts

-- a status of 16 bits suits an order
pub record IsApt (o : Order) (status : ℕ) (body : EndBody) : Type 0 where
  pub suits : Suits o status body
  pub fine : IsFine o status
  pub small : status < 2 ^ 16

-- ---- what a step says of its own block

module _ (s : Sent) (block : Block) (v : Volume) (status : ℕ) (body : EndBody) where
  abbrev told : ℕ → ℕ
  told code = status_after (verdicts.Served block) code status v

  served_apt : (o : Order) → Says o s → IsApt o status body → IsApt o (told (endcode o)) body
  served_apt orders.UnitStatus says h = by (status == 0 || status == 4)
    where
      by : (b : Bool) → IsApt orders.UnitStatus (cond b (unit_state v) status) body
      by b = grind arith
  served_apt orders.Online says h = grind arith
  served_apt (orders.Invalid byte fault) says h = grind arith
  served_apt (orders.Move kinds.Access count first) says h = h
  served_apt order says h = h

-- ---- what it says of its unit

-- however its step went
pub told_apt : (s : Sent) (o : Order) (verdict : Verdict) (status : ℕ) (v : Volume) (body : EndBody) → Says o s
    → is_immediate o ≡ false → ((byte fault : ℕ) → o ≢ orders.Invalid byte fault)
    → (verdict ≡ verdicts.NotOnline → is_move o ≡ true) → IsApt o status body
    → IsApt o (status_after verdict (endcode o) status v) body
told_apt s o (verdicts.Served block) status v body says waits valid move h =
    served_apt s block v status body o says h
told_apt s o verdict status v body says waits valid move h = grind arith

-- and that of an answer
pub answer_apt : (s : Sent) (o : Order) (block : Block) (status : ℕ) (v : Volume) (body : EndBody) → Says o s
    → IsApt o status body → IsApt o (status_after (verdicts.Served block) (endcode o) status v) body
answer_apt s o block status v body says h = served_apt s block v status body o says h
