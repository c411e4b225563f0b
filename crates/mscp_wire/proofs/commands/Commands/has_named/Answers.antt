use Rattle.mscp_wire.proofs.Common.{ap, sents, sym}
use Rattle.mscp_wire.proofs.Alone.{named_none}
use Rattle.mscp_wire.proofs.commands.Commands.has_named.Goals as goal

pub returns-then-at-eq0 : goal.returns-then-at-eq0
returns-then-at-eq0 g c =
    sym (named_none c.args.connection c.args.reference c.self.inside.tallies.names.counts.items
    (sents c.args.self.now) _
    c.slot_of.result
    c.at.result (ap sents c.self.view_is) c.slot_of.ensures c.self.invariant.names c.at.ensures
    c.if-at-eq0.true)
