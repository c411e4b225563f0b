use Rattle.mscp_judge.proofs.Common.{◌+◌, ◌≤◌, length, Settings, Passed, Log, Stands}
use Rattle.mscp_judge.proofs.judging.pass_idle.Given as goal

abbrev pub invariant-loop-rest : goal.invariant-loop-rest
invariant-loop-rest g l = record {
  passed : (c : Settings) (log : Log) → Stands c log l.fn.judge
      → Passed c l.fn.lines.number log l.fn.lines.rest.now l.lines.number l.lines.rest.now l.judge;
  few : l.judge.reporter.count + l.judge.owed ≤ 1000000;
  left : length l.lines.rest.now ≤ length l.fn.lines.rest.now;
}

abbrev pub decreases-loop-rest : goal.decreases-loop-rest
decreases-loop-rest g l = length l.lines.rest.now
