use Rattle.mscp_c.proofs.Common.{◌≡◌, subst, OnErr, port_init_fault}
use Rattle.mscp_c.proofs.Configured.{refused_answer}
use Rattle.mscp_c.proofs.port_making.mscp_port_init_at.Goals as goal

pub returns-clause-refused : goal.returns-clause-refused
returns-clause-refused c = λ some.
    refused_answer (port_init_fault c.args.handle.now c.args.limits.now c.args.units.now c.args.picker
    c.args.hardware.now c.args.credits) (c.init.new.handle ≡ c.args.handle.now) some
    (subst (λ r. OnErr r (c.init.new.handle ≡ c.args.handle.now)) c.init.ensures.answer c.init.ensures.refused)
