use Rattle.mscp_wire.proofs.Common.{ap, sents, slot_of, sym, ◌∙◌}
use Rattle.mscp_wire.proofs.Marking.{none_turning}
use Rattle.mscp_wire.proofs.commands.Commands.has_turning.Goals as goal

pub returns-then-at-eq0 : goal.returns-then-at-eq0
returns-then-at-eq0 g c =
    sym (none_turning c.args.connection c.args.unit c.self.inside.tallies.fences.counts.items (sents c.args.self.now) _
    c.slot_of.result c.at.result (ap sents c.self.view_is)
    (c.slot_of.ensures ∙ ap (slot_of c.args.connection) c.from.ensures)
    c.self.invariant.fences c.at.ensures c.if-at-eq0.true)
