use Rattle.mscp_wire.proofs.Common.{IsKept, ap, arith, cell, length, sents, subst, sym, ◌-◌, ◌∙◌}
use Rattle.mscp_wire.proofs.Placed.{none_taken}
use Rattle.mscp_wire.proofs.commands.Commands.pop.Goals as goal

pub invariant_of-self : goal.invariant_of-self
invariant_of-self g c =
    let xs = c.self-2.inside.cells in
    let last = c.len-last.result - 1 in
    subst (λ ys. IsKept ys c.self-2.inside.tallies)
    (sym (ap sents c.truncate.ensures ∙ none_taken xs last
    (omega (
      arith,
      c.len-last.ensures,
      ap length c.self.view_is,
      ap length c.self-2.view_is,
      c.empty.ensures.cells,
      c.requires,
    ))
    (ap (λ ys. cell ys last) c.self-2.view_is ∙ c.empty.ensures.empty)))
    c.self-2.invariant
