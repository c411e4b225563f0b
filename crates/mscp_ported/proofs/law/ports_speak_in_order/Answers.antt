use Rattle.mscp_ported.proofs.Common.{arith}
use Rattle.mscp_ported.proofs.Credited.{all_but_one, sums, tells_its_credits}
use Rattle.mscp_ported.proofs.Departing.{fills_its_slot, speaks_in_order}
use Rattle.mscp_ported.proofs.law.ports_speak_in_order.Goals as goal

pub returns-clause-order : goal.returns-clause-order
returns-clause-order g c = search (arith, speaks_in_order)

pub returns-clause-slots : goal.returns-clause-slots
returns-clause-slots g c = search (arith, fills_its_slot)

pub returns-clause-credits : goal.returns-clause-credits
returns-clause-credits g c = search (arith, sums, tells_its_credits, all_but_one)
