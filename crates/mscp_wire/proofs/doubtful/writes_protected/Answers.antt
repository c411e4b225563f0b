use Rattle.mscp_wire.proofs.Common.{arith, nat_tests}
use Rattle.mscp_wire.proofs.doubtful.writes_protected.Goals as goal

pub returns-then-is_single : goal.returns-then-is_single
returns-then-is_single c = grind (arith, nat_tests)

pub returns-else-is_single : goal.returns-else-is_single
returns-else-is_single c = grind (arith, nat_tests)
