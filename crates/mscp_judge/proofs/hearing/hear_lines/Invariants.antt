use Rattle.mscp_judge.proofs.Common.{◌≡◌, ◌≤◌, length, lines, Heard, IsHeard, silence}
use Rattle.mscp_judge.specs.Heard.{after_lines}
use Rattle.mscp_judge.proofs.hearing.hear_lines.Given as goal

abbrev pub invariant-loop-bytes : goal.invariant-loop-bytes
invariant-loop-bytes g l = record {
  h : Heard;
  same : after_lines l.fn.lines.number (silence l.fn.config) (lines l.fn.lines.rest.now)
      ≡ after_lines l.lines.number h (lines l.lines.rest.now);
  heard : IsHeard h l.hearing;
  few : l.hearing.count ≤ 1000000;
  ends : l.hearing.ends ≤ l.lines.number;
  resets : l.hearing.resets ≤ l.hearing.ends;
}

abbrev pub decreases-loop-bytes : goal.decreases-loop-bytes
decreases-loop-bytes g l = length l.lines.rest.now
