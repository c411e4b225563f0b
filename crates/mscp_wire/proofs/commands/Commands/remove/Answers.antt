use Rattle.mscp_wire.proofs.Common.{IsKept, IsSome, ap, cell, command_at, place, remove, sents, subst, sym, ◌∙◌}
use Rattle.mscp_wire.proofs.Placed.{cell_less, place_less, sents_remove}
use Rattle.mscp_wire.proofs.Names.{kept_counted}
use Rattle.mscp_wire.proofs.commands.Commands.remove.Goals as goal

pub subtract-requires : goal.subtract-requires
subtract-requires g c =
    let xs = c.self.inside.cells in
    let h : IsSome (cell xs c.args.at) = subst (λ ys. IsSome (cell ys c.args.at)) (sym c.self.view_is) c.requires in
    kept_counted (sents xs) c.self.inside.tallies (place xs c.args.at) c.at-sent.result c.self.invariant
    (place_less xs c.args.at h)
    (c.at-sent.ensures ∙ ap (λ ys. command_at (sents ys) (place ys c.args.at)) (sym c.self.view_is))

pub invariant_of-self : goal.invariant_of-self
invariant_of-self g c =
    let xs = c.self.inside.cells in
    let h : IsSome (cell xs c.args.at) = subst (λ ys. IsSome (cell ys c.args.at)) (sym c.self.view_is) c.requires in
    subst (λ ys. IsKept ys c.subtract.new.self) (sym (ap sents c.put.ensures ∙ sents_remove xs c.args.at h))
    (c.subtract.ensures (sents xs) (place xs c.args.at) (place_less xs c.args.at h)
    (c.at-sent.ensures ∙ ap (λ ys. command_at (sents ys) (place ys c.args.at)) (sym c.self.view_is))
    c.self.invariant)

pub returns-clause-others : goal.returns-clause-others
returns-clause-others g c =
    let xs = c.self.inside.cells in
    let h : IsSome (cell xs c.args.at) = subst (λ ys. IsSome (cell ys c.args.at)) (sym c.self.view_is) c.requires in
    ap sents c.put.ensures
    ∙ sents_remove xs c.args.at h
    ∙ ap (λ ys. remove (sents ys) (place ys c.args.at)) c.self.view_is

pub put-requires : goal.put-requires
put-requires g c = cell_less c.self.inside.cells c.args.at
    (subst (λ ys. IsSome (cell ys c.args.at)) (sym c.self.view_is) c.requires)
