use Rattle.mscp_judge.proofs.Common.{◌+◌, ◌≤◌, length, Settings, Passed, nothing, Stands}
use Rattle.mscp_judge.proofs.judging.find.Given as goal

abbrev pub invariant-loop-bytes : goal.invariant-loop-bytes
invariant-loop-bytes g l = record {
  passed : (d : Settings) → Stands d nothing l.fn.judge
      → Passed d l.fn.lines.number nothing l.fn.lines.rest.now l.lines.number l.lines.rest.now l.judge;
  few : l.judge.reporter.count + l.judge.owed ≤ 1000000;
}

abbrev pub decreases-loop-bytes : goal.decreases-loop-bytes
decreases-loop-bytes g l = length l.lines.rest.now
