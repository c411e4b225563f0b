use Rattle.mscp_c.proofs.Reading.{read_is}
use Rattle.mscp_c.proofs.hosting.message_in.Goals as goal

pub returns : goal.returns
returns c =
    read_is c.args.message.now c.read_command.result c.read_command.ensures.short c.read_command.ensures.long
    c.read_command.ensures.command
