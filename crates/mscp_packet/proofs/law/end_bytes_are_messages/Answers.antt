use Rattle.mscp_packet.proofs.Ends as laws
use Rattle.mscp_packet.proofs.law.end_bytes_are_messages.Goals as goal

pub returns : goal.returns
returns c = laws.end_bytes_are_messages
