use Rattle.mscp_judge.proofs.Common.{arith, true≢false, bytes_eq-Decides}
use Rattle.mscp_judge.proofs.Feeds.{begins_line, line_begins}
use Rattle.mscp_judge.proofs.judge.telling.begins_with.Goals as goal

pub returns-clause-yes : goal.returns-clause-yes
returns-clause-yes c = search (arith, line_begins, bytes_eq-Decides)

pub returns-clause-no : goal.returns-clause-no
returns-clause-no c = search (arith, true≢false, bytes_eq-Decides, begins_line)
