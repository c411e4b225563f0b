use Rattle.mscp_sim.proofs.Common.{arith, ◌≡◌, ◌<◌, ◌^◌, ap, sym, ◌∙◌, refl, rules, None, Some, Ok, false≢true, of, after_message, answer_to_message, submits}
use Rattle.mscp_drive.specs.declared.event.Event.TheVariants as events
use Rattle.mscp_controller.specs.declared.entry.Entry.TheVariants as entries
use Rattle.mscp_sim.specs.declared.conversing.Turn.TheVariants as turns
use Rattle.mscp_sim.specs.declared.conversing.Heard.TheVariants as hears
use Rattle.mscp_sim.proofs.TwoEnds.Submitting.{not_refused, submits_match}
use Rattle.mscp_sim.proofs.TwoEnds.Turned.{with_match}
use Rattle.mscp_sim.proofs.conversing.submit.Goals as goal

pub unreachable-requires : goal.unreachable-requires
unreachable-requires g c =
    let number : c.args.command.reference < 2 ^ 32 = search rules in
    let unit : c.args.command.unit < 2 ^ 16 = search rules in
    let via = c.args.connection in
    let a = of via c.args.hosts.now in
    let kept = (submits a c.args.command).1 in
    let ok : (submits a c.args.command).0 ≡ Ok c.in-Ok.message = sym c.submit.ensures.answer ∙ c.in-Ok.is in
    let e : submits a c.args.command ≡ (Ok c.in-Ok.message, kept) = λ i. (ok i, kept) in
    let told = c.requires via in
    let x = submits_match via a c.args.controller.now told.0 c.args.command c.in-Ok.message kept number unit told.1 e in
    search (arith, false≢true, not_refused)

pub returns-in-Err : goal.returns-in-Err
returns-in-Err g c =
    let number : c.args.command.reference < 2 ^ 32 = search rules in
    let unit : c.args.command.unit < 2 ^ 16 = search rules in
    let answer = sym c.submit.ensures.answer ∙ c.in-Err.is in
    with_match (g.K.Picker.picks c.args.controller.now.picker) c.args.hosts.now c.submit.new.self c.args.controller.now
    c.args.controller.now
    (record {
      turn = turns.Submit c.args.connection c.args.command;
      heard = hears.Refused c.in-Err.fault;
      moment = None;
    }) ((rw answer (refl, refl), c.submit.ensures.after), refl, (number, unit)) c.requires

pub returns-in-Ok-send : goal.returns-in-Ok-send
returns-in-Ok-send g c =
    let number : c.args.command.reference < 2 ^ 32 = search rules in
    let unit : c.args.command.unit < 2 ^ 16 = search rules in
    let via = c.args.connection in
    let answer = sym c.submit.ensures.answer ∙ c.in-Ok.is in
    let event = c.event_of.ensures ∙ ap (λ b. events.Send via (record { items = b })) c.deref-in-Ok-send.ensures.0 in
    let sent = sym c.in-Ok-send.is
    ∙ (c.send.ensures.answer ∙ ap (answer_to_message via c.args.controller.now) c.deref.ensures.0) in
    let after = c.send.ensures.after ∙ ap (after_message via c.args.controller.now) c.deref.ensures.0 in
    rw event (with_match (g.K.Picker.picks c.args.controller.now.picker) c.args.hosts.now c.submit.new.self
    c.args.controller.now c.send.new.self
    (record {
      turn = turns.Submit via c.args.command;
      heard = hears.Submitted c.in-Ok-send.sent;
      moment = Some
          (events.Send via (record { items = c.in-Ok.message.items }), entries.Sent via (Ok c.in-Ok-send.sent));
    }) (
      (rw answer (c.in-Ok-send.sent, refl, refl), c.submit.ensures.after),
      (refl, sent, after),
      (number, unit),
    ) c.requires)
