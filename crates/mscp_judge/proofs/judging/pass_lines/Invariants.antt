use Rattle.mscp_judge.proofs.Common.{◌+◌, ◌≤◌, length, Settings, Passed, Log, Stands}
use Rattle.mscp_judge.proofs.judging.pass_lines.Given as goal

abbrev pub invariant-loop-judge : goal.invariant-loop-judge
invariant-loop-judge g l = record {
  passed : (c : Settings) (log : Log) → Stands c log l.fn.judge
      → Passed c l.fn.lines.number log l.fn.lines.rest.now l.lines.number l.lines.rest.now l.judge;
  few : l.judge.reporter.count + l.judge.owed ≤ 1000000;
  left : length l.lines.rest.now ≤ length l.fn.lines.rest.now;
}

abbrev pub decreases-loop-judge : goal.decreases-loop-judge
decreases-loop-judge g l = length l.lines.rest.now
