use Rattle.mscp_wire.proofs.Common.{First, Second, by_asked, by_fence, by_line, by_name, by_next, by_status, is_on}
use Rattle.mscp_wire.proofs.Names.{counted_more, tally_push}
use Rattle.mscp_wire.proofs.tallies.Tallies.add.Goals as goal

pub returns : goal.returns
returns g c = λ xs k. record {
  names = tally_push by_name _ _ xs c.args.command.now c.by_name.result c.by_name.ensures k.names c.add.ensures;
  fences = tally_push by_fence _ _ xs c.args.command.now c.by_fence.result c.by_fence.ensures k.fences
      c.add-2.ensures;
  lines = tally_push by_line _ _ xs c.args.command.now c.by_line.result c.by_line.ensures k.lines c.add-3.ensures;
  asked = tally_push by_asked _ _ xs c.args.command.now c.by_asked.result c.by_asked.ensures k.asked
      c.add-4.ensures;
  statuses = tally_push by_status _ _ xs c.args.command.now c.by_status.result c.by_status.ensures k.statuses
      c.add-5.ensures;
  nexts = tally_push by_next _ _ xs c.args.command.now c.by_next.result c.by_next.ensures k.nexts c.add-6.ensures;
  first = counted_more (is_on First) xs c.args.command.now _ _ c.is_on.result c.is_on.ensures k.first
      c.one_more-self.ensures;
  second = counted_more (is_on Second) xs c.args.command.now _ _ c.is_on-2.result c.is_on-2.ensures k.second
      c.one_more-self-2.ensures;
}
