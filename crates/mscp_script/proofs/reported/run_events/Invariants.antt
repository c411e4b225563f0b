use Rattle.mscp_script.proofs.Common.{◌≡◌, ◌≤◌, List, length, [], Settings, Event, HasGone, rest_outcome, Runs}
use Rattle.mscp_script.proofs.reported.run_events.Given as goal

abbrev pub invariant-loop-request : goal.invariant-loop-request
invariant-loop-request g l = record {
  going : (c : Settings) → Runs c [] l.fn.run → (events : List Event) × Runs c events l.run
      × (rest_outcome l.fn.lines.number (HasGone c []) l.fn.lines.rest.now
      ≡ rest_outcome l.lines.number (HasGone c events) l.lines.rest.now);
  few : l.run.reporter.count ≤ 1000000;
}

abbrev pub decreases-loop-request : goal.decreases-loop-request
decreases-loop-request g l = length l.lines.rest.now
