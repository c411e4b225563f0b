use Rattle.mscp_script.proofs.Common.{◌≡◌, ◌+◌, ◌-◌, ◌++◌, drop, length}
use Rattle.mscp_script.proofs.reporting.tail.Tail.words.Given as goal

abbrev pub invariant-loop-i : goal.invariant-loop-i
invariant-loop-i l = record {
  end : l.end + length l.fn.self ≡ 108;
  long : length l.self-inside.room ≡ 108;
  written : drop (l.end - l.i) l.self-inside.room ≡ drop (length l.bytes - l.i) l.bytes ++ l.fn.self;
}
