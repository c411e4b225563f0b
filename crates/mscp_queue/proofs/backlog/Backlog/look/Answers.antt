use Rattle.mscp_queue.proofs.Basics.{◌≡◌, ◌+◌, ap, ◌∙◌, Command, Record, record_at, figures_more}
use Rattle.mscp_queue.proofs.backlog.Backlog.look.Goals as goal

pub loop-place-preserved : goal.loop-place-preserved
loop-place-preserved c =
    let rs = c.args.self.now.waiting in
    let place = c.loop-place.place in
    let connection : c.connection.result ≡ (record_at rs place).connection = c.connection.ensures
    ∙ ap (λ (r : Record). r.connection) c.record-record.ensures in
    let reference : c.command.result.reference ≡ (record_at rs place).command.reference = ap (λ (k : Command).
    k.reference) c.command.ensures ∙ ap (λ (r : Record). r.command.reference) c.record-record.ensures in
    let figure = c.figure.ensures in
    let more = figures_more c.args.self.now.budget rs place in
    let items = c.push.ensures.items in
    let figures = c.loop-place.invariant.figures in
    record { figures = cc; same = c.push.ensures.len ∙ ap (λ n. n + 1) c.loop-place.invariant.same }
