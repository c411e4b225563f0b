use Rattle.mscp_judge.proofs.Common.{◌+◌, ◌≤◌, length, Settings, Passed, Log, Stands}
use Rattle.mscp_judge.proofs.judging.pass_steps.Given as goal

abbrev pub invariant-loop-named : goal.invariant-loop-named
invariant-loop-named g l = record {
  passed : (c : Settings) (log : Log) → Stands c log l.fn.judge
      → Passed c l.fn.lines.number log l.fn.lines.rest.now l.lines.number l.lines.rest.now l.judge;
  few : l.judge.reporter.count + l.judge.owed ≤ 1000000;
  left : length l.lines.rest.now ≤ length l.fn.lines.rest.now;
}

abbrev pub decreases-loop-named : goal.decreases-loop-named
decreases-loop-named g l = length l.lines.rest.now
