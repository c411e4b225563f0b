use Rattle.mscp_reader.proofs.Common.{◌≡◌, length, IsUnitList, Begins, HasUnits, rest_headed, settled}
use Rattle.mscp_reader.proofs.header.read_header.Given as goal

abbrev pub invariant-loop-config : goal.invariant-loop-config
invariant-loop-config l = record {
  list : IsUnitList l.units.items;
  same : rest_headed l.fn.lines.number Begins l.fn.lines.rest.now
      ≡ rest_headed l.lines.number (HasUnits (settled l.limits l.units.items)) l.lines.rest.now;
}

abbrev pub decreases-loop-config : goal.decreases-loop-config
decreases-loop-config l = length l.lines.rest.now
