use Rattle.mscp_judge.proofs.Common.{length, refl, ap, arith, length-append, codes}
use Rattle.mscp_judge.proofs.Passing.{passed_idle, passed_more, passed_none}
use Rattle.mscp_judge.proofs.judging.pass_idle.Goals as goal

pub loop-rest-init : goal.loop-rest-init
loop-rest-init g c = search (arith, passed_none)

pub loop-rest-preserved : goal.loop-rest-preserved
loop-rest-preserved g c = record {
  passed = λ d log s.
      let p = c.loop-rest.invariant.passed d log s in
      passed_more d log c.args.lines.now.number _ _ c.args.lines.now.rest.now _ _ c.loop-rest.judge c.idle.new.self p
      (passed_idle d p.next c.loop-rest.lines.number _ c.loop-rest.lines.rest.now _ c.idle.new.self
      c.in-Some.ensures refl (omega (arith, c.if-lines-lt-MOST_LINES.true)) (c.in_ok-idle.ensures.told d p.next
      p.stands));
  few = omega (arith, c.loop-rest.invariant.few, c.in_ok-idle.ensures.count);
  left = omega (
    arith,
    c.loop-rest.invariant.left,
    ap length c.in-Some.ensures,
    length-append (codes "idle\n") c.in-Some.rest.now,
  );
}
