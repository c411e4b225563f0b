use Rattle.mscp_controller.proofs.Bridge.Controllers.{new_runs}
use Rattle.mscp_controller.proofs.running.run_into.Goals as goal

pub returns-clause-headline : goal.returns-clause-headline
returns-clause-headline g c =
    let new = c.new-controller in (new_runs c.args.config g.K.Picker.picks c.args.picker new.result c.args.events.now _
    _ new.ensures.valid new.ensures.fresh c.answer_each.ensures.answered).headline

pub returns-clause-picked : goal.returns-clause-picked
returns-clause-picked g c =
    let new = c.new-controller in (new_runs c.args.config g.K.Picker.picks c.args.picker new.result c.args.events.now _
    _ new.ensures.valid new.ensures.fresh c.answer_each.ensures.answered).picked

pub returns-clause-swept : goal.returns-clause-swept
returns-clause-swept g c =
    let new = c.new-controller in (new_runs c.args.config g.K.Picker.picks c.args.picker new.result c.args.events.now _
    _ new.ensures.valid new.ensures.fresh c.answer_each.ensures.answered).swept
