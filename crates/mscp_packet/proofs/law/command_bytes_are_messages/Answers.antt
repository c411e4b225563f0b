use Rattle.mscp_packet.proofs.Commands as laws
use Rattle.mscp_packet.proofs.law.command_bytes_are_messages.Goals as goal

pub returns : goal.returns
returns c = laws.command_bytes_are_messages
