use Rattle.mscp_wire.proofs.Common.{IsKept, [], ap, arith, filter_map-append, sents, subst, sym, ◌++◌, ◌∙◌, ◌∷◌}
use Rattle.std.specs.Prelude.{Some}
use Rattle.mscp_wire.proofs.Placed.{both_few}
use Rattle.mscp_wire.proofs.commands.Commands.push.Goals as goal

pub add-requires : goal.add-requires
add-requires g c =
    let few = both_few c.self.inside.cells c.self.inside.tallies c.self.invariant in
    record {
      first = grind (arith, few.0, few.1, c.len-at.ensures.count, c.len-at.ensures.bound);
      second = grind (arith, few.0, few.1, c.len-at.ensures.count, c.len-at.ensures.bound);
    }

pub invariant_of-self-2 : goal.invariant_of-self-2
invariant_of-self-2 g c =
    let xs = c.self.inside.cells in
    subst (λ ys. IsKept ys c.add.new.self)
    (sym (ap sents c.in_ok-push.ensures.pushed ∙ filter_map-append (λ o. o) xs (Some c.args.command ∷ [])))
    (c.add.ensures (sents xs) c.self.invariant)

pub returns : goal.returns
returns g c =
    ap sents c.in_ok-push.ensures.pushed
    ∙ (filter_map-append (λ o. o) c.self.inside.cells (Some c.args.command ∷ [])
    ∙ ap (λ ys. ys ++ c.args.command ∷ []) (ap sents c.self.view_is ∙ (c.make_room.ensures ∙ ap sents c.begin.ensures)))
