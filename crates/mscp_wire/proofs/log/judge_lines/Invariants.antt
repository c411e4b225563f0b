use Rattle.mscp_wire.proofs.Common.{AreRightLines, HasFew, IsAfter, List, Log, Ok, length, lines, nothing, with_lines, ℕ, ◌++◌, ◌+◌, ◌≡◌}
use Rattle.mscp_wire.proofs.log.judge_lines.Given as goal

abbrev pub invariant-loop-bytes : goal.invariant-loop-bytes
invariant-loop-bytes g l = record {
  before : List (List ℕ);
  log : Log;
  whole : lines l.fn.lines.rest.now ≡ before ++ lines l.lines.rest.now;
  counted : l.lines.number ≡ length before;
  told : with_lines 0 nothing before ≡ Ok log;
  right : AreRightLines 0 nothing before;
  after : IsAfter log l.reading;
  few : HasFew l.reading (l.lines.number + 1);
}

abbrev pub decreases-loop-bytes : goal.decreases-loop-bytes
decreases-loop-bytes g l = length l.lines.rest.now
