use Rattle.mscp_script.proofs.Common.{◌≡◌, arith, subst, replicate, Meets, Ran}
use Rattle.mscp_controller.specs.declared.entry.Entry.TheVariants as entries
use Rattle.mscp_drive.specs.declared.block.Block.{Block}
use Rattle.mscp_drive.specs.declared.event.Event.TheVariants as events
use Rattle.mscp_queue.specs.declared.report.Report.TheVariants.{Idle}
use Rattle.mscp_script.specs.declared.running.Run.{Run}
use Rattle.mscp_script.proofs.Growing.{meets_more}
use Rattle.mscp_script.proofs.running.Run.idle.Goals as goal

pub loop-step-preserved : goal.loop-step-preserved
loop-step-preserved g c =
    let old : Run g.row.O.Denot = c.loop-step.self in
    let new : Run g.row.O.Denot = record { controller = old.controller; reporter = c.idled.new.self } in
    let ran : (k : Block) → Ran old new (events.Step k) =
    λ k. record {
      entry = entries.Stepped Idle;
      answers = c.loop-step.invariant.idle k;
      report_is = c.in_ok-idled.ensures.value;
    } in
    record {
      met = λ k. meets_more c.args.self.now old new c.loop-step._step (events.Step k) (c.loop-step.invariant.met k)
          (ran k);
      idle = c.loop-step.invariant.idle;
      count = search (arith, c.in_ok-idled.ensures.value);
    }

pub returns-clause-met : goal.returns-clause-met
returns-clause-met g c = λ k.
    let all : c.loop-step._step ≡ c.args.count = omega (arith, c.loop-step-test.false, c.loop-step.auto._step-end) in
    subst (λ n. Meets c.args.self.now c.loop-step.self (replicate n (events.Step k))) all (c.loop-step.invariant.met k)
