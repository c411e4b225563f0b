use Rattle.mscp_wire.proofs.Common.{First, Second, by_asked, by_fence, by_line, by_name, by_next, by_status, is_on}
use Rattle.mscp_wire.proofs.Names.{counted_less, tally_remove}
use Rattle.mscp_wire.proofs.tallies.Tallies.subtract.Goals as goal

pub returns : goal.returns
returns g c = λ xs i l is k. record {
  names = tally_remove by_name _ _ xs i c.args.command.now c.by_name.result c.by_name.ensures
      k.names l is c.subtract.ensures;
  fences = tally_remove by_fence _ _ xs i c.args.command.now c.by_fence.result
      c.by_fence.ensures k.fences l is c.subtract-2.ensures;
  lines = tally_remove by_line _ _ xs i c.args.command.now c.by_line.result c.by_line.ensures
      k.lines l is c.subtract-3.ensures;
  asked = tally_remove by_asked _ _ xs i c.args.command.now c.by_asked.result c.by_asked.ensures k.asked l is
      c.subtract-4.ensures;
  statuses = tally_remove by_status _ _ xs i c.args.command.now c.by_status.result c.by_status.ensures k.statuses l is
      c.subtract-5.ensures;
  nexts = tally_remove by_next _ _ xs i c.args.command.now c.by_next.result c.by_next.ensures k.nexts l is
      c.subtract-6.ensures;
  first = counted_less (is_on First) xs i c.args.command.now _ _ c.is_on.result c.is_on.ensures k.first l is
      c.one_less-self.ensures;
  second = counted_less (is_on Second) xs i c.args.command.now _ _ c.is_on-2.result c.is_on-2.ensures k.second l is
      c.one_less-self-2.ensures;
}
