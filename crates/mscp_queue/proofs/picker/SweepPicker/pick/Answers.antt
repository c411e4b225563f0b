use Rattle.mscp_queue.proofs.Common.{◌^◌, ◌-◌, ◌∙◌, List, length, ap, subst, sym, Choice, IsRow, IsSweep}
use Rattle.mscp_queue.proofs.Row.{swept_there}
use Rattle.mscp_queue.proofs.picker.SweepPicker.pick.Goals as goal

pub returns-else-choices-lt-MANY-clause-sweep : goal.returns-else-choices-lt-MANY-clause-sweep
returns-else-choices-lt-MANY-clause-sweep c = λ some.
    let is = c.choices-choices.ensures.value in
    subst (IsSweep c.args.view.now) (sym c.unwrap_or.ensures)
    (swept_there c.fill_row.new.row c.args.view.now c.bits_of.result c.least.result
    (subst (IsRow c.fill_row.new.row) is c.fill_row.ensures)
    (c.bits_of.ensures ∙ ap (λ (xs : List Choice). 2 ^ length xs - 1) is)
    c.least.ensures.some c.least.ensures.none some)
