use Rattle.mscp_port.proofs.Common.{◌∙◌, Err, sym}
use Rattle.mscp_port.proofs.Chosen.{chosen}
use Rattle.mscp_port.proofs.port.Port.step_chosen.Goals as goal

pub returns-in-Err-clause-task : goal.returns-in-Err-clause-task
returns-in-Err-clause-task g c =
    chosen c.args.self.now c.args.upcoming.now c.in-Some.kind c.in-Some.block (Err c.in-Err.verdict)
    (sym c.move_of.ensures.value ∙ c.in-Some.is) (sym c.in-Err.is ∙ c.part.ensures.value)
