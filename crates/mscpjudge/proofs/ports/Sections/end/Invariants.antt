use Rattle.mscpjudge.proofs.Common.{codes, length, part_at, with_line, ℕ, ◌<◌, ◌≡◌, ◌≤◌}
use Rattle.mscpjudge.proofs.ports.Sections.end.Given as goal

abbrev pub invariant-loop-place : goal.invariant-loop-place
invariant-loop-place l = record {
  long : length l.self.ports.items ≡ length l.fn.self.ports.items;
  fault : l.self.fault ≡ l.fn.self.fault;
  done : (port : ℕ) → port < l.place → part_at l.self.ports.items port
      ≡ with_line 1000001 (codes "?") (part_at l.fn.self.ports.items port);
  left : (port : ℕ) → l.place ≤ port → part_at l.self.ports.items port ≡ part_at l.fn.self.ports.items port;
}
