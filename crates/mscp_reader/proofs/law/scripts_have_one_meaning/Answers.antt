use Rattle.mscp_reader.proofs.Whole.{outcome_of_fault, fault_of_outcome}
use Rattle.mscp_reader.proofs.law.scripts_have_one_meaning.Goals as goal

pub returns-clause-fault : goal.returns-clause-fault
returns-clause-fault c = λ bytes fault. (outcome_of_fault bytes fault, fault_of_outcome bytes fault)
