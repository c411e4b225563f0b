use Rattle.mscp_packet.specs.Commands.{command_of}
use Rattle.mscp_text.proofs.Packets.{command_is, command_said}
use Rattle.mscp_text.proofs.packet.packet_in.Goals as goal

pub returns-in_ok-read_command : goal.returns-in_ok-read_command
returns-in_ok-read_command c =
    let b = c.args.message.now in
    let read = c.read_command.ensures.only (command_of b) (command_said b c.requires.least c.requires.most) in
    command_is b c.read_command.result c.in_ok-read_command.field-0 c.if-message-lt-UNKNOWN.true read
    c.in_ok-read_command.was
