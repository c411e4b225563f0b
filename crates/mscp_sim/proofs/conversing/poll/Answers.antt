use Rattle.mscp_sim.proofs.Common.{arith, ◌≡◌, ◌<◌, ◌^◌, ap, sym, ◌∙◌, refl, rules, None, Some, Ok, false≢true, of, after_message, answer_to_message, polls_oldest}
use Rattle.mscp_drive.specs.declared.event.Event.TheVariants as events
use Rattle.mscp_controller.specs.declared.entry.Entry.TheVariants as entries
use Rattle.mscp_sim.specs.declared.conversing.Turn.TheVariants as turns
use Rattle.mscp_sim.specs.declared.conversing.Heard.TheVariants as hears
use Rattle.mscp_host.specs.declared.news.Poll.TheVariants as polls
use Rattle.mscp_sim.proofs.TwoEnds.Submitting.{asks_match, not_refused}
use Rattle.mscp_sim.proofs.TwoEnds.Turned.{with_match}
use Rattle.mscp_sim.proofs.conversing.poll.Goals as goal

pub unreachable-requires : goal.unreachable-requires
unreachable-requires g c =
    let small : c.args.reference < 2 ^ 32 = search rules in
    let via = c.args.connection in
    let a = of via c.args.hosts.now in
    let kept = (polls_oldest a c.args.reference).1 in
    let ask : (polls_oldest a c.args.reference).0 ≡ Ok (polls.Ask c.in-Ok-Ask.message) =
    sym c.poll.ensures.answer ∙ (c.in-Ok-Ask.is ∙ ap Ok c.in-Ok-Ask.field-0-is) in
    let x = asks_match via a c.args.controller.now c.args.reference c.in-Ok-Ask.message kept small
    (c.requires via) (λ i. (ask i, kept)) in
    search (arith, false≢true, not_refused)

pub returns-in-Err : goal.returns-in-Err
returns-in-Err g c =
    let small : c.args.reference < 2 ^ 32 = search rules in
    let answer = sym c.poll.ensures.answer ∙ c.in-Err.is in
    with_match (g.K.Picker.picks c.args.controller.now.picker) c.args.hosts.now c.poll.new.self c.args.controller.now
    c.args.controller.now
    (record {
      turn = turns.Poll c.args.connection c.args.reference;
      heard = hears.Refused c.in-Err.fault;
      moment = None;
    }) ((rw answer (refl, refl), c.poll.ensures.after), refl, small) c.requires

pub returns-in-Ok-Nothing : goal.returns-in-Ok-Nothing
returns-in-Ok-Nothing g c =
    let small : c.args.reference < 2 ^ 32 = search rules in
    let answer = sym c.poll.ensures.answer ∙ (c.in-Ok-Nothing.is ∙ ap Ok c.in-Ok-Nothing.field-0-is) in
    with_match (g.K.Picker.picks c.args.controller.now.picker) c.args.hosts.now c.poll.new.self c.args.controller.now
    c.args.controller.now
    (record { turn = turns.Poll c.args.connection c.args.reference; heard = hears.Nothing; moment = None })
    ((rw answer (refl, refl), c.poll.ensures.after), refl, small) c.requires

pub returns-in-Ok-Busy : goal.returns-in-Ok-Busy
returns-in-Ok-Busy g c =
    let small : c.args.reference < 2 ^ 32 = search rules in
    let answer = sym c.poll.ensures.answer ∙ (c.in-Ok-Busy.is ∙ ap Ok c.in-Ok-Busy.field-0-is) in
    with_match (g.K.Picker.picks c.args.controller.now.picker) c.args.hosts.now c.poll.new.self c.args.controller.now
    c.args.controller.now
    (record { turn = turns.Poll c.args.connection c.args.reference; heard = hears.Busy; moment = None })
    ((rw answer (refl, refl), c.poll.ensures.after), refl, small) c.requires

pub returns-in-Ok : goal.returns-in-Ok
returns-in-Ok g c =
    let small : c.args.reference < 2 ^ 32 = search rules in
    let via = c.args.connection in
    let answer = sym c.poll.ensures.answer ∙ (c.in-Ok-Ask.is ∙ ap Ok c.in-Ok-Ask.field-0-is) in
    let event = c.event_of.ensures ∙ ap (λ b. events.Send via (record { items = b })) c.deref-in-Ok.ensures.0 in
    let sent = sym c.in-Ok.is
    ∙ (c.send.ensures.answer ∙ ap (answer_to_message via c.args.controller.now) c.deref.ensures.0) in
    let after = c.send.ensures.after ∙ ap (after_message via c.args.controller.now) c.deref.ensures.0 in
    rw event (with_match (g.K.Picker.picks c.args.controller.now.picker) c.args.hosts.now c.poll.new.self
    c.args.controller.now c.send.new.self
    (record {
      turn = turns.Poll via c.args.reference;
      heard = hears.Asked;
      moment = Some
          (events.Send via (record { items = c.in-Ok-Ask.message.items }), entries.Sent via (Ok c.in-Ok.sent));
    })
    ((rw answer (c.in-Ok.sent, refl, refl), c.poll.ensures.after), (refl, sent, after), small) c.requires)
