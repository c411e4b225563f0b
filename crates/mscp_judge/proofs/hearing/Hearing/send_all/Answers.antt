use Rattle.mscp_judge.proofs.Common.{◌∙◌, subst, arith, IsHeard, sends_on}
use Rattle.mscp_judge.proofs.Listening.{steps_send}
use Rattle.mscp_judge.proofs.hearing.Hearing.send_all.Goals as goal

pub returns-in-Send-clause-heard : goal.returns-in-Send-clause-heard
returns-in-Send-clause-heard g c = λ h s.
    rw c.in-Send.is (subst (λ b. IsHeard (record h { hosts = sends_on h.hosts c.in-Send.connection b }) c.send.new.self)
    (c.as_slice.ensures.value ∙ c.write_command.ensures.bytes) (c.send.ensures.heard h s))

pub returns-in-Steps-clause-heard : goal.returns-in-Steps-clause-heard
returns-in-Steps-clause-heard g c = search (arith, steps_send)
