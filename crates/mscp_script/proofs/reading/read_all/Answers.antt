use Rattle.mscp_script.proofs.Common.{arith, length-take}
use Rattle.mscp_script.proofs.Fronts.{front_full, front_end, rest_full, rest_end}
use Rattle.mscp_script.proofs.reading.read_all.Goals as goal

pub returns-clause-bytes : goal.returns-clause-bytes
returns-clause-bytes g c = search (arith, front_full, front_end, length-take)

pub returns-clause-rest : goal.returns-clause-rest
returns-clause-rest g c = search (arith, rest_full, rest_end, length-take)
