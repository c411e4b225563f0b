use Rattle.mscp_queue.proofs.Basics.{ap, sym, subst, ◌≡◌, ◌∙◌, false, Waiters, list_any}
use Rattle.mscp_queue.proofs.Common.{IfNone, has_name}
use Rattle.mscp_queue.proofs.Backlogs.{any_is, some_is}
use Rattle.mscp_queue.proofs.Bucketed.{found_place}
use Rattle.mscp_queue.proofs.backlog.Backlog.place_of.Goals as goal

pub returns : goal.returns
returns c =
    let b = c.self.inside in
    let w = ap (λ (w : Waiters). w.waiting) c.self.view_is in
    let any = sym (any_is c.args.name b.budget b.clock b.slots) ∙ ap (list_any (has_name c.args.name)) w in
    found_place c.args.name c.args.self.now.waiting c.place_of.result c.requires.apart
    (some_is c.args.name c.place_of.result c.self.invariant w c.place_of.ensures.some)
    (subst (λ x. IfNone c.place_of.result (x ≡ false)) any c.place_of.ensures.none)
