use Rattle.mscp_reader.proofs.Common.{◌≡◌, ◌≤◌, length, IsInHeader, Place, rest_headed}
use Rattle.mscp_reader.proofs.lines.Lines.header_line.Given as goal

abbrev pub invariant-loop-bytes : goal.invariant-loop-bytes
invariant-loop-bytes l = record {
  shorter : length l.self.rest.now ≤ length l.initial.self.rest.now;
  same : (p : Place) → IsInHeader p → rest_headed l.initial.self.number p l.initial.self.rest.now
      ≡ rest_headed l.self.number p l.self.rest.now;
}

abbrev pub decreases-loop-bytes : goal.decreases-loop-bytes
decreases-loop-bytes l = length l.self.rest.now
