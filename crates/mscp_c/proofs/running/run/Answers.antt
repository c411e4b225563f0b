use Rattle.std.proofs.Common.{rules}
use Rattle.mscp_c.specs.Common.{IsReport}
use Rattle.mscp_c.proofs.Rooms.{has_text}
use Rattle.mscp_c.proofs.running.run.Goals as goal

pub returns-in_err-text-clause-short : goal.returns-in_err-text-clause-short
returns-in_err-text-clause-short g c = λ e. record {
  text = c.in_ok-out.out.past.text;
  is = c.in_ok-out.ensures.report;
  short = search rules;
}

pub returns-clause-report : goal.returns-clause-report
returns-clause-report g c =
    has_text (IsReport c.args.script.now) c.ok_or-2.result c.put_front.result c.put_front.new.front _
    c.in_ok-text.text.now (search rules) c.put_front.ensures.text (search rules) (search rules)

pub returns-clause-short : goal.returns-clause-short
returns-clause-short g c = λ e. record {
  text = c.in_ok-out.out.past.text;
  is = c.in_ok-out.ensures.report;
  short = search rules;
}
