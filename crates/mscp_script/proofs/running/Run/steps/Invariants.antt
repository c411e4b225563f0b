use Rattle.mscp_script.proofs.Common.{◌≡◌, ◌+◌, replicate, Meets}
use Rattle.mscp_drive.specs.declared.event.Event.TheVariants as events
use Rattle.mscp_script.proofs.running.Run.steps.Given as goal

abbrev pub invariant-loop-step : goal.invariant-loop-step
invariant-loop-step g l = record {
  met : Meets l.initial.self l.self (replicate l.step (events.Step l.block));
  count : l.self.reporter.count ≡ l.initial.self.reporter.count + l.step;
}
