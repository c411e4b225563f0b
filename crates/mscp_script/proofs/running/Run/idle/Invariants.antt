use Rattle.mscp_script.proofs.Common.{◌≡◌, ◌+◌, replicate, IsSweep, Meets}
use Rattle.mscp_controller.specs.Holdings.{Steps}
use Rattle.mscp_drive.specs.declared.block.Block.{Block}
use Rattle.mscp_drive.specs.declared.event.Event.TheVariants as events
use Rattle.mscp_queue.specs.declared.report.Report.TheVariants.{Idle}
use Rattle.mscp_script.proofs.running.Run.idle.Given as goal

abbrev pub invariant-loop-step : goal.invariant-loop-step
invariant-loop-step g l = record {
  met : (k : Block) → Meets l.initial.self l.self (replicate l._step (events.Step k));
  idle : (k : Block) → Steps IsSweep k l.self.controller Idle l.self.controller;
  count : l.self.reporter.count ≡ l.initial.self.reporter.count + l._step;
}
