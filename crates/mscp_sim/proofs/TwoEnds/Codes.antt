-- The endcodes of commands are those of their opcode bytes.
use Rattle.mscp_sim.proofs.Common.{ℕ, List, arith, eqb-true, command_of, found_is, HasOwnEndcode}

-- a message that is too short has the endcode of its opcode
pub coded : (b : List ℕ) → HasOwnEndcode (command_of b).order
unfolding command_of
coded b = grind (arith, eqb-true, found_is)
