use Rattle.mscp_wire.proofs.Common.{ap, eqb-true, place, sents, slot_of, sym, ◌∙◌}
use Rattle.mscp_wire.proofs.Placed.{place_less}
use Rattle.mscp_wire.proofs.Alone.{alone_in_line, never_kept_back, none_in_line}
use Rattle.mscp_wire.proofs.commands.Commands.stands_free.Goals as goal

pub returns-then-is_sequential : goal.returns-then-is_sequential
returns-then-is_sequential g c = λ one.
    alone_in_line c.args.command.now c.self.inside.tallies.lines.counts.items (sents c.args.self.now) _
    c.slot_of-slot.result
    c.at.result (place c.args.self.now c.args.at) (ap sents c.self.view_is) (c.slot_of-slot.ensures
    ∙ ap (slot_of c.args.command.now.connection) c.from.ensures)
    c.self.invariant.lines c.at.ensures (sym c.is_sequential.ensures ∙ c.if-is_sequential.true)
    (place_less c.args.self.now c.args.at c.requires.full)
    c.requires.there (eqb-true c.at.result 1 one)

pub returns-then-not-is_ordered : goal.returns-then-not-is_ordered
returns-then-not-is_ordered g c = λ one.
    never_kept_back c.args.command.now _ (sym c.is_sequential.ensures ∙ c.if-is_sequential.false)
    (sym c.is_ordered.ensures ∙ c.if-not-is_ordered.true)

pub returns-else-not-is_ordered : goal.returns-else-not-is_ordered
returns-else-not-is_ordered g c = λ none.
    none_in_line c.args.command.now c.self.inside.tallies.fences.counts.items (sents c.args.self.now) _
    c.slot_of-slot.result
    c.at-else-not-is_ordered.result (place c.args.self.now c.args.at) (ap sents c.self.view_is) (c.slot_of-slot.ensures
    ∙ ap (slot_of c.args.command.now.connection) c.from.ensures) c.self.invariant.fences
    c.at-else-not-is_ordered.ensures
    (sym c.is_sequential.ensures ∙ c.if-is_sequential.false) (eqb-true c.at-else-not-is_ordered.result 0 none)
