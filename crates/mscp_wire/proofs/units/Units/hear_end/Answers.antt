use Rattle.std.proofs.Common.{ap, if◌then◌else◌, ◌∙◌}
use Rattle.mscp_wire.specs.Wire.{after_other, after_own, kept}
use Rattle.mscp_wire.proofs.Keys.{heard_end}
use Rattle.mscp_wire.proofs.units.Units.hear_end.Goals as goal

pub returns-clause-told : goal.returns-clause-told
returns-clause-told g c = λ via unit.
    let e = c.args.answer.now in
    c.hear_call.ensures.told via unit
    ∙ heard_end (kept c.args.self.now) (kept c.put.new.self) e c.args.settled c.after_end-own.result
    c.after_other-others.result c.other_side-other.result
    (c.after_end-own.ensures ∙ ap (λ t. if c.args.settled then after_own t e else after_other t e) c.told.ensures)
    c.other_side-other.ensures
    (c.after_other-others.ensures ∙ ap (λ t. after_other t e) c.told-2.ensures) c.in_ok-put.ensures.told via unit
