use Rattle.mscp_wire.proofs.Common.{arith, is_sought}
use Rattle.mscp_wire.proofs.Tagged.{found_further, none_further}
use Rattle.mscp_wire.proofs.cells.Cells.next.Goals as goal

pub returns-in-Some : goal.returns-in-Some
returns-in-Some g c =
    found_further (is_sought c.args.sought.now) c.args.self.now c.args.from c.loop-at.at c.min-to.result c.args.end
    c.in-Some.found c.loop-at.invariant.1 c.loop-at.invariant.0 (omega arith) c.in-Some.ensures

pub loop-at-preserved-in_default : goal.loop-at-preserved-in_default
loop-at-preserved-in_default g c = (
  omega arith,
  none_further (is_sought c.args.sought.now) c.args.self.now c.args.from c.loop-at.at c.min-to.result
      c.loop-at.invariant.1 c.in_default.ensures,
)

pub loop-at-preserved : goal.loop-at-preserved
loop-at-preserved g c = (
  omega arith,
  none_further (is_sought c.args.sought.now) c.args.self.now c.args.from c.loop-at.at c.min-to.result
      c.loop-at.invariant.1 (c.may_stand.ensures c.if-may_stand.false),
)

pub returns : goal.returns
returns g c = λ i low high. c.loop-at.invariant.1 i low (omega (arith, high, c.loop-at-test.false))
