use Rattle.mscp_ported.proofs.Common.{arith}
use Rattle.mscp_ported.proofs.Loads.{moves_on_volumes}
use Rattle.mscp_ported.proofs.Mounts.{moves_as_mounted}
use Rattle.mscp_ported.proofs.Heeded.{keeps_what_was_said}
use Rattle.mscp_ported.proofs.law.ports_move_on_volumes.Goals as goal

pub returns-clause-volumes : goal.returns-clause-volumes
returns-clause-volumes g c = search (arith, moves_on_volumes)

pub returns-clause-mounts : goal.returns-clause-mounts
returns-clause-mounts g c = search (arith, moves_as_mounted)

pub returns-clause-kept : goal.returns-clause-kept
returns-clause-kept g c = search (arith, keeps_what_was_said)
