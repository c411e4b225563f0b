use Rattle.mscp_saved.proofs.Common.{command_is}
use Rattle.mscp_saved.proofs.reading.command_in.Goals as goal

pub returns : goal.returns
returns c = command_is c.args.b.now c.in-Ok.command c.in-Ok.ensures.command
