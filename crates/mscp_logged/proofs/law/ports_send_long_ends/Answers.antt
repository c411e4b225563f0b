use Rattle.mscp_logged.proofs.Begun.{begun}
use Rattle.mscp_logged.proofs.Long.{keeps_length}
use Rattle.mscp_logged.proofs.law.ports_send_long_ends.Goals as goal

pub returns : goal.returns
returns g c = λ s before controller hardware credits start p calls valid was quiet made asks reads a limit.
    keeps_length (begun g.K.Picker.picks s c.args.picker.now valid before hardware credits controller start was made
    quiet) c.ports_end_what_they_took.ensures c.ports_tell_in_order.ensures p calls limit asks reads a
