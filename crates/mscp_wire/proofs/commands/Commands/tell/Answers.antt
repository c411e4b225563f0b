use Rattle.mscp_wire.proofs.Common.{IsKept, IsSome, ap, cell, map, place, sents, set, subst, sym, tells, ◌∙◌}
use Rattle.mscp_wire.proofs.Alone.{told_alone, told_none}
use Rattle.mscp_wire.proofs.Placed.{place_less, sents_put}
use Rattle.mscp_wire.proofs.Names.{kept_tells}
use Rattle.mscp_wire.proofs.commands.Commands.tell.Goals as goal

pub returns-then-count-eq0 : goal.returns-then-count-eq0
returns-then-count-eq0 g c =
    told_none c.args.name.0 c.args.name.1 c.args.figure c.args.time c.self.inside.tallies.names.counts.items
    (sents c.args.self.now) _
    c.slot_of-slot.result c.at-count.result (ap sents c.self.view_is) c.slot_of-slot.ensures
    c.self.invariant.names c.at-count.ensures c.if-count-eq0.true

pub returns-in-Some : goal.returns-in-Some
returns-in-Some g c =
    told_alone c.args.name.0 c.args.name.1 c.args.figure c.args.time c.self.inside.tallies.names.counts.items
    (sents c.args.self.now) _ _ c.slot_of-slot.result c.at-count.result (place c.args.self.now c.in-Some.at)
    c.at-command.result c.tells.result
    (ap sents c.self.view_is) c.slot_of-slot.ensures c.self.invariant.names c.at-count.ensures
    c.if-count-eq1.true (place_less c.args.self.now c.in-Some.at c.in-Some.ensures.there)
    c.in-Some.ensures.sought c.at-command.ensures c.tells.ensures
    (ap sents c.put.ensures
    ∙ (sents_put c.self.inside.cells c.in-Some.at c.tells.result
    (subst (λ xs. IsSome (cell xs c.in-Some.at)) (sym c.self.view_is) c.in-Some.ensures.there)
    ∙ ap (λ xs. set (sents c.self.inside.cells) (place xs c.in-Some.at) c.tells.result) c.self.view_is))

pub invariant_of-self-2 : goal.invariant_of-self-2
invariant_of-self-2 g c =
    subst (λ xs. IsKept xs c.self.inside.tallies) (sym c.tell_all.ensures)
    (kept_tells c.args.name.0 c.args.name.1 c.args.figure c.args.time _ _ c.self.invariant)

pub invariant_of-self : goal.invariant_of-self
invariant_of-self g c =
    subst (λ xs. IsKept xs c.self.inside.tallies)
    (ap (λ xs. map (tells c.args.name.0 c.args.name.1 c.args.figure c.args.time) (sents xs)) c.self.view_is
    ∙ sym (returns-in-Some g c))
    (kept_tells c.args.name.0 c.args.name.1 c.args.figure c.args.time _ _ c.self.invariant)
