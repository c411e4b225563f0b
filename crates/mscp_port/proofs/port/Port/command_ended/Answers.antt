use Rattle.mscp_port.proofs.Common.{ap, subst, Contains, List, Buffer}
use Rattle.mscp_port.proofs.port.Port.command_ended.Goals as goal

pub returns-clause-among : goal.returns-clause-among
returns-clause-among g c = λ b there.
    subst (λ (bs : List Buffer). Contains bs b) (ap (λ p. p.buffers.items) c.heed_end.ensures)
    (c.forget.ensures.left b
    (subst (λ (bs : List Buffer). Contains bs b) (ap (λ p. p.buffers.items) c.decide_step.ensures.frame) there))
