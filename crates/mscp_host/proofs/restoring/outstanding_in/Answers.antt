use Rattle.mscp_host.proofs.Common.{arith, from_place}
use Rattle.mscp_host.proofs.restoring.outstanding_in.Goals as goal

pub returns-clause-value : goal.returns-clause-value
returns-clause-value c =
    search (arith, from_place, c.args.b.now, c.submissions_in.ensures.value, c.from.result, c.from.ensures)
