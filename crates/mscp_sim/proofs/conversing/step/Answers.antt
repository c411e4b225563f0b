use Rattle.mscp_sim.proofs.Common.{refl, Some, Said}
use Rattle.mscp_drive.specs.declared.event.Event.TheVariants as events
use Rattle.mscp_controller.specs.declared.entry.Entry.TheVariants as entries
use Rattle.mscp_sim.specs.declared.conversing.Turn.TheVariants as turns
use Rattle.mscp_sim.specs.declared.conversing.Heard.TheVariants as hears
use Rattle.mscp_sim.proofs.TwoEnds.Turned.{with_match}
use Rattle.mscp_sim.proofs.conversing.step.Goals as goal

pub returns : goal.returns
returns g c hosts m =
    let report = c.step-report.result in
    let s : Said = record {
      turn = turns.Step c.args.block;
      heard = hears.Stepped report;
      moment = Some (events.Step c.args.block, entries.Stepped report);
    } in
    rw c.told_of_step.ensures (with_match (g.K.Picker.picks c.args.controller.now.picker) hosts hosts
    c.args.controller.now c.step-report.new.self s ((report, refl, refl, refl), c.step-report.ensures.step, tt) m)
