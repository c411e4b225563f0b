use Rattle.mscp_wire.proofs.Common.{ap, sents}
use Rattle.mscp_wire.proofs.Alone.{left_none}
use Rattle.mscp_wire.proofs.commands.Commands.leave.Goals as goal

pub returns-then-at-eq0 : goal.returns-then-at-eq0
returns-then-at-eq0 g c =
    left_none c.args.ended.now c.self.inside.tallies.asked.counts.items (sents c.args.self.now) _ c.slot_of.result
    c.at.result (ap sents c.self.view_is) c.slot_of.ensures c.self.invariant.asked c.at.ensures c.if-at-eq0.true
