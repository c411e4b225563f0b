use Rattle.mscp_packet.proofs.Tables.{sound}
use Rattle.mscp_packet.proofs.law.tables_agree.Goals as goal

pub returns : goal.returns
returns c = sound
