use Rattle.mscp_wire.proofs.Common.{IfOk-from_err, [], ap, arith, sents, sym, take, take_all, ◌++◌, ◌∙◌, ◌∷◌}
use Rattle.mscp_wire.proofs.Placed.{one_taken}
use Rattle.mscp_wire.proofs.held.list_of.Goals as goal

pub loop-at-preserved : goal.loop-at-preserved
loop-at-preserved g c =
    let xs = c.args.cells.now in
    c.in_ok-push_if.ensures
    ∙ ap (λ ys. ys ++ sents (c.command_in.result ∷ [])) c.loop-at.invariant
    ∙ ap (λ o. sents (take c.loop-at.at xs) ++ sents (o ∷ [])) c.command_in.ensures
    ∙ sym (one_taken xs c.loop-at.at)

pub returns-in_err-push_if : goal.returns-in_err-push_if
returns-in_err-push_if g c = IfOk-from_err c.from_residual.result _ c.from_residual.ensures.0

pub returns : goal.returns
returns g c =
    c.loop-at.invariant ∙ ap sents (take_all c.loop-at.at c.args.cells.now (omega (arith, c.loop-at-test.false)))
