use Rattle.mscp_judge.proofs.Common.{ap, arith, Ok}
use Rattle.mscp_judge.proofs.Passing.{passed_more, passed_none}
use Rattle.mscp_judge.proofs.judging.pass_lines.Goals as goal

pub loop-judge-init : goal.loop-judge-init
loop-judge-init g c = search (arith, passed_none)

pub returns-then-not-branch-clause-wrong : goal.returns-then-not-branch-clause-wrong
returns-then-not-branch-clause-wrong g c = λ is d log s.
    let p = c.loop-judge.invariant.passed d log s in
    let q = c.in_ok-pass_request.ensures.passed d p.next p.stands in
    c.in_ok-pass_steps.ensures.wrong (ap Ok c.if-not-branch.true) d q.next q.stands

pub loop-judge-preserved : goal.loop-judge-preserved
loop-judge-preserved g c = record {
  passed = λ d log s.
      let p = c.loop-judge.invariant.passed d log s in
      let q = passed_more d log c.args.lines.now.number _ _ c.args.lines.now.rest.now _ _ c.loop-judge.judge
      c.pass_request.new.judge p (c.in_ok-pass_request.ensures.passed d p.next p.stands) in
      let r = passed_more d log c.args.lines.now.number _ _ c.args.lines.now.rest.now _ _ c.pass_request.new.judge
      c.pass_steps.new.judge q (c.in_ok-pass_steps.ensures.passed (ap Ok c.if-not-branch.false) d q.next q.stands) in
      passed_more d log c.args.lines.now.number _ _ c.args.lines.now.rest.now _ _ c.pass_steps.new.judge
      c.pass_idle.new.judge r (c.in_ok-pass_idle.ensures.passed d r.next r.stands);
  few = c.in_ok-pass_idle.ensures.count;
  left = omega (
    arith,
    c.loop-judge.invariant.left,
    c.in_ok-pass_request.ensures.left,
    c.in_ok-pass_steps.ensures.left,
    c.in_ok-pass_idle.ensures.left,
  );
}

pub returns-clause-passed : goal.returns-clause-passed
returns-clause-passed g c = λ is d log s.
    let p = c.loop-judge.invariant.passed d log s in
    passed_more d log c.args.lines.now.number _ _ c.args.lines.now.rest.now _ _ c.loop-judge.judge
    c.pass_request.new.judge p (c.in_ok-pass_request.ensures.passed d p.next p.stands)
