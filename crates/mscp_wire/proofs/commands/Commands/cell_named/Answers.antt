use Rattle.mscp_wire.proofs.Common.{ap, is_named, place, sents, sym}
use Rattle.mscp_wire.proofs.Alone.{named_alone, named_none}
use Rattle.mscp_wire.proofs.Placed.{place_less}
use Rattle.mscp_wire.proofs.Names.{place_none}
use Rattle.mscp_wire.proofs.commands.Commands.cell_named.Goals as goal

pub returns-then-count-eq0-clause-place : goal.returns-then-count-eq0-clause-place
returns-then-count-eq0-clause-place g c =
    sym (place_none (is_named c.args.connection c.args.reference) (sents c.args.self.now)
    (named_none c.args.connection c.args.reference c.self.inside.tallies.names.counts.items (sents c.args.self.now) _
    c.slot_of-slot.result c.at-count.result (ap sents c.self.view_is) c.slot_of-slot.ensures
    c.self.invariant.names c.at-count.ensures c.if-count-eq0.true))

pub returns-in-Some-clause-place : goal.returns-in-Some-clause-place
returns-in-Some-clause-place g c =
    named_alone c.args.connection c.args.reference c.self.inside.tallies.names.counts.items (sents c.args.self.now) _
    c.slot_of-slot.result c.at-count.result (place c.args.self.now c.in-Some.at) (ap sents c.self.view_is)
    c.slot_of-slot.ensures
    c.self.invariant.names c.at-count.ensures c.if-count-eq1.true
    (place_less c.args.self.now c.in-Some.at c.in-Some.ensures.there) c.in-Some.ensures.sought
