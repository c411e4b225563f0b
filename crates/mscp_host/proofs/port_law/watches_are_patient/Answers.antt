use Rattle.mscp_host.proofs.Patient.{are_patient}
use Rattle.mscp_host.proofs.port_law.watches_are_patient.Goals as goal

pub returns : goal.returns
returns c = are_patient
