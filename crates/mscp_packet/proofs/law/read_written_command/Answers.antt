use Rattle.mscp_packet.proofs.Common.{arith}
use Rattle.mscp_packet.proofs.Commands.{command_read}
use Rattle.mscp_packet.proofs.law.read_written_command.Goals as goal

pub returns-clause-read : goal.returns-clause-read
returns-clause-read c = search (arith, command_read)
