use Rattle.mscp_tracked.proofs.Common.{◌≡◌, ◌∙◌, ap, subst, sym, Command, IfSome, IsCommand, command_of, after_message_with, cookies_sent, remove, sent, unaborted, IsTracked, Tracking, place_aborted}
use Rattle.mscp_tracked.proofs.Keeping.{message_comes, was_command}
use Rattle.mscp_tracked.proofs.tracked.Tracked.send_with.Goals as goal

pub send-requires-2 : goal.send-requires-2
send-requires-2 g c =
    let K = g.row.K.Denot in
    let via = c.args.connection in
    let b = c.args.b.now in
    let place = c.place_aborted-place.result in
    let known = (message_comes c.self.inside.controller c.send.new.self c.self.inside.cookies
    via b c.in_ok-sent.sent place c.args.cookie
    (sym c.in_ok-sent.ensures.answer) c.in_ok-sent.ensures.after c.in_ok-sent.ensures.account
    (subst (λ (t : Tracking K). (command : Command) → IsCommand b command
    → place ≡ place_aborted via t.controller.waiting command.order)
    (sym c.self.view_is) c.place_aborted-place.ensures.place)
    (subst (λ (t : Tracking K). (command : Command) → IsCommand b command → IfSome place (λ p.
    remove t.controller.waiting p ≡ unaborted via t.controller.waiting command.order))
    (sym c.self.view_is) c.place_aborted-place.ensures.others) c.self.invariant) in
    known.room

pub invariant_of-self-2 : goal.invariant_of-self-2
invariant_of-self-2 g c =
    let K = g.row.K.Denot in
    let via = c.args.connection in
    let b = c.args.b.now in
    let place = c.place_aborted-place.result in
    let known = (message_comes c.self.inside.controller c.send.new.self c.self.inside.cookies
    via b c.in_ok-sent.sent place c.args.cookie
    (sym c.in_ok-sent.ensures.answer) c.in_ok-sent.ensures.after c.in_ok-sent.ensures.account
    (subst (λ (t : Tracking K). (command : Command) → IsCommand b command
    → place ≡ place_aborted via t.controller.waiting command.order)
    (sym c.self.view_is) c.place_aborted-place.ensures.place)
    (subst (λ (t : Tracking K). (command : Command) → IsCommand b command → IfSome place (λ p.
    remove t.controller.waiting p ≡ unaborted via t.controller.waiting command.order))
    (sym c.self.view_is) c.place_aborted-place.ensures.others) c.self.invariant) in
    subst (λ k. IsTracked {K = K} c.send.new.self k) (sym c.send-2.ensures) known.tracked

pub returns-clause-after : goal.returns-clause-after
returns-clause-after g c =
    let K = g.row.K.Denot in
    let h = c.self.inside.controller in
    let k = c.self.inside.cookies in
    let t : Tracking K = record { controller = h; cookies = k; beginnings = c.self.inside.beginnings } in
    let via = c.args.connection in
    let b = c.args.b.now in
    let became = c.in_ok-sent.sent in
    let place = c.place_aborted-place.result in
    let at = subst (λ (t : Tracking K). (command : Command) → IsCommand b command
    → place ≡ place_aborted via t.controller.waiting command.order)
    (sym c.self.view_is) c.place_aborted-place.ensures.place (command_of b)
    (was_command h k via b became (sym c.in_ok-sent.ensures.answer)) in
    (λ i. record {
      controller = c.in_ok-sent.ensures.after i;
      cookies = (c.send-2.ensures ∙ (ap (λ p. sent via became p c.args.cookie k) at
          ∙ ap (cookies_sent via t b c.args.cookie) c.in_ok-sent.ensures.answer)) i;
      beginnings = t.beginnings;
    }) ∙ ap (λ (s : Tracking K). after_message_with via s b c.args.cookie) c.self.view_is
