use Rattle.mscp_sim.proofs.Common.{◌≡◌, ◌≤◌, [], length, vec_len, Settings, HasGone, rest_outcome}
use Rattle.mscp_sim.proofs.reading.events.read_events.Given as goal

abbrev pub invariant-loop-request : goal.invariant-loop-request
invariant-loop-request g l = record {
  few : vec_len l.events ≤ 1000000;
  same : (s : Settings) → rest_outcome l.initial.lines.number (HasGone s []) l.initial.lines.rest.now
      ≡ rest_outcome l.lines.number (HasGone s l.events.items) l.lines.rest.now;
}

abbrev pub decreases-loop-request : goal.decreases-loop-request
decreases-loop-request g l = length l.lines.rest.now
