use Rattle.mscp_port.proofs.Common.{ap, ◌∙◌, number_or_zero}
use Rattle.mscp_port.proofs.message.next_unit.Goals as goal

pub returns-in-Some : goal.returns-in-Some
returns-in-Some c = c.number.ensures ∙ ap number_or_zero c.in-Some.ensures

pub returns-in-None : goal.returns-in-None
returns-in-None c = ap number_or_zero c.in-None.ensures
