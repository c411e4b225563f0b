-- What each connection has one of.
use Rattle.mscp_sim.proofs.Common.{◌≡◌, false, arith, Connection, same_connection, one_side, true≢false, Both, of, put}

-- a connection has what was put there
pub of_put : {X : Type 0} (via : Connection) (x : X) (both : Both X) → of via (put via x both) ≡ x
of_put via x both = grind arith

-- and the other has what it had
pub of_other : {X : Type 0} (via other : Connection) (x : X) (both : Both X) → same_connection via other ≡ false
    → of other (put via x both) ≡ of other both
of_other via other x both h4 = grind (arith, true≢false)

-- nothing changes where a connection gets what it has
pub put_own : {X : Type 0} (via : Connection) (both : Both X) → put via (of via both) both ≡ both
put_own via both = grind arith

-- what holds of a connection and of each other one holds of each
pub each_side : (P : Connection → Type 0) (via : Connection) → P via
    → ((other : Connection) → same_connection via other ≡ false → P other) → (other : Connection) → P other
each_side P via own rest other = search (arith, one_side)
