use Rattle.mscp_wire.proofs.Common.{IsKept, ap, sents, subst, sym, ◌∙◌}
use Rattle.mscp_wire.proofs.Placed.{sents_filter}
use Rattle.mscp_wire.proofs.commands.Commands.close_up.Goals as goal

pub invariant_of-self : goal.invariant_of-self
invariant_of-self g c =
    subst (λ ys. IsKept ys c.self.inside.tallies)
    (sym (ap sents c.close_up.ensures ∙ sents_filter c.self.inside.cells))
    c.self.invariant

pub returns : goal.returns
returns g c =
    ap sents c.close_up.ensures ∙ (sents_filter c.self.inside.cells ∙ ap sents c.self.view_is)
