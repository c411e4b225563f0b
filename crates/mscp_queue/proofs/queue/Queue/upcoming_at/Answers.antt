use Rattle.mscp_queue.proofs.Common.{◌≡◌, ◌<◌, length, get_or, ap, subst, sym, ◌∙◌, Target, Line, drive_at, record_at, upcoming_of}
use Rattle.mscp_queue.proofs.Ready.{drive_found}
use Rattle.mscp_queue.proofs.queue.Queue.upcoming_at.Goals as goal

pub bounds-deref-drive : goal.bounds-deref-drive
bounds-deref-drive g c =
    let K = g.row.K.Denot in
    let inside = subst (λ (l : Line K). c.args.place < length l.waiting) (sym c.self.view_is) c.requires in
    let at = drive_found c.self.inside.backlog.targets c.args.place _ c.self.invariant.ready.held
    c.self.invariant.ready.targeted inside (c.from-drive.ensures ∙ ap (λ (a : Target). a.drive) c.target.ensures) in
    subst (λ l. c.from-drive.result < length l) (sym c.deref.ensures.0) at.inside

pub returns : goal.returns
returns g c =
    let K = g.row.K.Denot in
    let rs = c.self.inside.backlog.waiting in
    let ds = c.self.inside.drives.items in
    let place = c.args.place in
    let inside = subst (λ (l : Line K). place < length l.waiting) (sym c.self.view_is) c.requires in
    let at = drive_found c.self.inside.backlog.targets place _ c.self.invariant.ready.held
    c.self.invariant.ready.targeted inside (c.from-drive.ensures ∙ ap (λ (a : Target). a.drive) c.target.ensures) in
    let d = c.index-deref-drive.result in
    let drive : d ≡ drive_at ds rs place = c.index-deref-drive.is
    ∙ ap (λ l. get_or l c.from-drive.result d) c.deref.ensures.0 ∙ at.is d in
    c.of.ensures ∙ (λ i. upcoming_of (drive i) (c.record-record.ensures i))
    ∙ ap (λ (l : Line K). upcoming_of (drive_at l.drives l.waiting place) (record_at l.waiting place)) c.self.view_is
