use Rattle.mscp_judge.proofs.Common.{◌≡◌, ◌≢◌, ◌<◌, ℕ, get_or, take}
use Rattle.mscp_judge.proofs.judge.telling.first_line.Given as goal

abbrev pub invariant-loop-byte : goal.invariant-loop-byte
invariant-loop-byte l = record {
  same : l.line.items ≡ take l.byte-index l.bytes;
  none : (k : ℕ) → k < l.byte-index → get_or l.bytes k 0 ≢ 10;
}
