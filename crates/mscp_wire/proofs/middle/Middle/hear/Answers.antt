use Rattle.mscp_wire.proofs.Common.{IfOk-from_err, answer_by, ap, sym, ◌∙◌}
use Rattle.mscp_wire.proofs.Middles.{ended_shows, sent_shows}
use Rattle.mscp_wire.proofs.middle.Middle.hear.Goals as goal

pub returns-in_ok-turn-in-End : goal.returns-in_ok-turn-in-End
returns-in_ok-turn-in-End g c = λ h strangers s rest.
    let put = c.in_ok-put-in-End.ensures in
    let met = c.meet-in-End.ensures in
    let turned = c.in_ok-turn-in-End.ensures in
    let via = c.in-End.connection in
    ended_shows h strangers via c.in-End.message c.as_slice-in-End-2.result.now c.four_at-in-End.result c.args.self.now
    c.put-in-End.new.self c.meet-in-End.new.self s c.as_slice-in-End-2.ensures.value c.four_at-in-End.ensures put.units
    put.first put.second met.names met.units met.first met.second c.args.moment.now c.of-answer.result c.turn.new.self
    c.in-End.is
    (c.of-answer.ensures
    ∙ ap (answer_by via) (c.as_slice-in-End.ensures.value ∙ sym c.as_slice-in-End-2.ensures.value))
    put.names turned.names turned.units turned.first turned.second

pub returns-in_ok-put-in-Message : goal.returns-in_ok-put-in-Message
returns-in_ok-put-in-Message g c = λ h strangers s rest.
    let put = c.in_ok-put-in-Message.ensures in
    let met = c.meet.ensures in
    sent_shows h strangers c.in-Message.connection c.in-Message.message c.as_slice.result.now c.four_at.result
    c.args.self.now c.put.new.self c.meet.new.self s c.as_slice.ensures.value c.four_at.ensures put.units put.first
    put.second met.names met.units met.first met.second c.in-Message.field-2 c.args.moment.now c.in-Message.is
    put.names

pub returns-in_err-put-in-Message : goal.returns-in_err-put-in-Message
returns-in_err-put-in-Message g c = IfOk-from_err c.from_residual.result _ c.from_residual.ensures.0

pub returns-in_err-put-in-End : goal.returns-in_err-put-in-End
returns-in_err-put-in-End g c =
    IfOk-from_err c.from_residual-in_err-put-in-End.result _ c.from_residual-in_err-put-in-End.ensures.0

pub returns-in_err-turn-in-End : goal.returns-in_err-turn-in-End
returns-in_err-turn-in-End g c =
    IfOk-from_err c.from_residual-in_err-turn-in-End.result _ c.from_residual-in_err-turn-in-End.ensures.0
