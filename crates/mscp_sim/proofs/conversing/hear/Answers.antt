use Rattle.mscp_sim.proofs.conversing.hear.Goals as goal

pub returns-in-Step : goal.returns-in-Step
returns-in-Step g c = rw c.in-Step.is (c.step.ensures c.args.hosts.now c.requires)
