use Rattle.mscp_sim.proofs.Common.{◌≡◌, ◌++◌, replicate}
use Rattle.mscp_drive.specs.declared.event.Event.TheVariants as events
use Rattle.mscp_sim.proofs.reading.events.add_steps.Given as goal

abbrev pub invariant-loop-step : goal.invariant-loop-step
invariant-loop-step g l = l.events.items ≡ l.initial.events.items ++ replicate l._step (events.Step l.block)
