use Rattle.mscp_wire.proofs.Common.{ap, arith, is_sought, length, sym, ◌∙◌}
use Rattle.mscp_wire.proofs.Tagged.{none_further, none_one, read_in}
use Rattle.mscp_wire.proofs.cells.Cells.next_of_few.Goals as goal

pub returns-then-stands : goal.returns-then-stands
returns-then-stands g c = record {
  low = c.loop-at.invariant.0;
  high = c.loop-at-test.true;
  there =
      sym (read_in (is_sought c.args.sought.now) c.self.inside.cells.items c.args.self.now c.loop-at.at
      c.index.result.now _ (omega (arith, c.loop-at-test.true, c.requires.few, ap length c.self.view_is))
      c.self.view_is c.index.ensures c.stands.ensures) ∙ c.if-stands.true;
  none = c.loop-at.invariant.1;
}

pub loop-at-preserved : goal.loop-at-preserved
loop-at-preserved g c = (
  omega (arith, c.loop-at.invariant.0),
  none_further (is_sought c.args.sought.now) c.args.self.now c.args.from c.loop-at.at _ c.loop-at.invariant.1
      (none_one (is_sought c.args.sought.now) c.args.self.now c.loop-at.at
      (sym (read_in (is_sought c.args.sought.now) c.self.inside.cells.items c.args.self.now c.loop-at.at
      c.index.result.now _ (omega (arith, c.loop-at-test.true, c.requires.few, ap length c.self.view_is))
      c.self.view_is c.index.ensures c.stands.ensures) ∙ c.if-stands.false)),
)
