use Rattle.mscpjudge.proofs.Common.{arith, err_from_is_err_and}
use Rattle.mscpjudge.proofs.Shown.{shown_fails, shown_more, shown_none}
use Rattle.mscpjudge.proofs.showing.show_lines.Goals as goal

pub returns-in_err-put_line : goal.returns-in_err-put_line
returns-in_err-put_line c = search (arith, err_from_is_err_and, shown_fails)

pub loop-line-preserved : goal.loop-line-preserved
loop-line-preserved c = search (arith, shown_more)

pub returns : goal.returns
returns c = search (arith, shown_none)
