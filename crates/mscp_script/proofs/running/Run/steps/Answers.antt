use Rattle.mscp_script.proofs.Common.{◌≡◌, ◌+◌, ◌-◌, arith, IsSweep, Ran}
use Rattle.mscp_controller.specs.declared.entry.Entry.TheVariants as entries
use Rattle.mscp_drive.specs.declared.event.Event.TheVariants as events
use Rattle.mscp_script.specs.declared.running.Run.{Run}
use Rattle.mscp_script.proofs.Growing.{idle_same, meets_idle, meets_more}
use Rattle.mscp_script.proofs.running.Run.steps.Goals as goal

pub returns-in-Idle-clause-met : goal.returns-in-Idle-clause-met
returns-in-Idle-clause-met g c =
    let old : Run g.row.O.Denot = c.loop-step.self in
    let same = idle_same IsSweep c.args.block.now old.controller c.step-report.new.self c.in-Idle.ensures.step in
    let all : c.loop-step.step + (c.args.count - c.loop-step.step) ≡ c.args.count =
    omega (arith, c.loop-step-test.true) in
    meets_idle c.idle.result c.args.self.now old c.idle.new.self c.step-report.new.self c.args.block.now
    c.loop-step.step (c.args.count - c.loop-step.step) c.args.count c.loop-step.invariant.met same c.idle.ensures.met
    all

pub loop-step-preserved : goal.loop-step-preserved
loop-step-preserved g c =
    let old : Run g.row.O.Denot = c.loop-step.self in
    let new : Run g.row.O.Denot = record { controller = c.step-report.new.self; reporter = c.stepped.new.self } in
    let ran : Ran old new (events.Step c.args.block.now) =
    record {
      entry = entries.Stepped c.step-report.result;
      answers = c.step-report.ensures.step;
      report_is = c.in_ok-stepped.ensures.value;
    } in
    record {
      met = meets_more c.args.self.now old new c.loop-step.step (events.Step c.args.block.now)
          c.loop-step.invariant.met ran;
      count = search (arith, c.in_ok-stepped.ensures.value);
    }
