use Rattle.std.specs.Prelude.{replicate}
use Rattle.mscp_queue.proofs.Basics.{◌∙◌, get_or-set_other}
use Rattle.mscp_queue.proofs.Ranging.{zeros}
use Rattle.mscp_queue.proofs.ranges.all_first.Goals as goal

pub returns-clause-others : goal.returns-clause-others
returns-clause-others c = λ range d. get_or-set_other (replicate 64 0) 0 range 18446744073709551615 0 d ∙ zeros 64 range
