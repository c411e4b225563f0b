use Rattle.mscp_queue.proofs.Basics.{◌≡◌, subst, remove, IfSome, Line, name_on, without}
use Rattle.mscp_queue.proofs.Aborts.{others_left}
use Rattle.mscp_queue.proofs.queue.Queue.place_of.Goals as goal

pub returns-clause-others : goal.returns-clause-others
returns-clause-others g c =
    let K = g.row.K.Denot in
    let name = name_on c.args.connection c.args.reference in
    subst (λ (l : Line K). IfSome c.place_of.result (λ place. remove l.waiting place ≡ without name l.waiting))
    c.self.view_is (others_left name c.self.inside.backlog.waiting c.place_of.result c.self.invariant.ready.held.apart
    c.place_of.ensures)
