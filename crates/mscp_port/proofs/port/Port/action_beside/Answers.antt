use Rattle.mscp_port.proofs.Common.{IfSome, IsMovedFor, block_begun, subst, sym, ◌∙◌}
use Rattle.mscp_port.proofs.Chosen.{no_rest}
use Rattle.mscp_port.proofs.port.Port.action_beside.Goals as goal

pub returns-in-Some-clause-rests : goal.returns-in-Some-clause-rests
returns-in-Some-clause-rests g c = λ rest.
    let p = c.args.self.now in
    let moved = subst (λ o. IfSome o (IsMovedFor p p.task)) c.in-Some.is c.requires in
    absurd (no_rest p (block_begun p) (sym moved.wanted ∙ rest))
