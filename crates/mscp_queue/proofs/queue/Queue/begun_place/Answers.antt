use Rattle.mscp_queue.proofs.Basics.{ap, subst, ◌∙◌, IfSome, IsAlone, Line, place_begun}
use Rattle.mscp_queue.proofs.Nexts.{known_alone, known_place}
use Rattle.mscp_queue.proofs.queue.Queue.begun_place.Goals as goal

pub returns-clause-place : goal.returns-clause-place
returns-clause-place g c =
    let K = g.row.K.Denot in
    known_place c.self.inside.backlog.waiting c.self.inside.begun
    c.self.invariant.ready.held.apart c.self.invariant.ready.waits
    ∙ ap (λ (l : Line K). place_begun l.waiting l.begun) c.self.view_is

pub returns-clause-alone : goal.returns-clause-alone
returns-clause-alone g c =
    let K = g.row.K.Denot in
    subst (λ (l : Line K). IfSome c.self.inside.begun (IsAlone l.waiting)) c.self.view_is
    (known_alone c.self.inside.backlog.waiting c.self.inside.begun
    c.self.invariant.ready.held.apart c.self.invariant.ready.waits)
