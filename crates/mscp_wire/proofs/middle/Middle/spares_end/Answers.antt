use Rattle.mscp_wire.proofs.Common.{ap, not, spares_end, sym, ◌∙◌}
use Rattle.mscp_wire.proofs.Middles.{unnamed_by}
use Rattle.mscp_wire.proofs.middle.Middle.spares_end.Goals as goal

pub returns-in-Outstanding : goal.returns-in-Outstanding
returns-in-Outstanding g c = λ h strangers s.
    unnamed_by h strangers c.args.self.now c.args.answer.now c.name.result c.is_none.result s c.name.ensures
    c.is_none.ensures ∙ sym (ap (spares_end h strangers c.args.answer.now) c.in-Outstanding.is)

pub returns-in-Identity : goal.returns-in-Identity
returns-in-Identity g c = λ h strangers s.
    ap not (c.is_sure.ensures h strangers s) ∙ sym (ap (spares_end h strangers c.args.answer.now) c.in-Identity.is)

pub returns-in-State : goal.returns-in-State
returns-in-State g c = λ h strangers s.
    ap not (c.is_sure-in-State.ensures h strangers s)
    ∙ sym (ap (spares_end h strangers c.args.answer.now) c.in-State.is)
