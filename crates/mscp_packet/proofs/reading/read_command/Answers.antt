use Rattle.mscp_packet.proofs.Kept.{opcode_kept}
use Rattle.mscp_packet.proofs.reading.read_command.Goals as goal

pub returns-clause-opcode : goal.returns-clause-opcode
returns-clause-opcode c = opcode_kept c.args.b.now c.order_in.result c.order_in.ensures
