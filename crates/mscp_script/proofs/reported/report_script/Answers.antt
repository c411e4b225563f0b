use Rattle.mscp_script.proofs.Told.{told_report}
use Rattle.mscp_script.proofs.reported.report_script.Goals as goal

pub returns-clause-report : goal.returns-clause-report
returns-clause-report g c = told_report _ c.args.bytes.now c.report_lines.result c.in_ok-lines_of.ensures.small
    (rw (c.in_ok-lines_of.ensures.lines.0, c.in_ok-lines_of.ensures.lines.1) at c.report_lines.ensures.told)
