use Rattle.mscp_judge.proofs.Common.{arith, err_from_is_err_and}
use Rattle.mscp_judge.proofs.Listening.{lines_more, lines_none, lines_wrong}
use Rattle.mscp_judge.proofs.hearing.hear_lines.Goals as goal

pub loop-bytes-preserved : goal.loop-bytes-preserved
loop-bytes-preserved g c = search (arith, lines_more)

pub returns-in_err-line : goal.returns-in_err-line
returns-in_err-line g c = search (arith, err_from_is_err_and, lines_wrong)

pub returns : goal.returns
returns g c = search (arith, lines_none)
