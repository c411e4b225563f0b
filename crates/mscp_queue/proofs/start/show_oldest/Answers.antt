use Rattle.mscp_queue.proofs.Common.{[], true, inl, refl, sym, arith}
use Rattle.mscp_queue.proofs.Starting.{found_all, looks_more, looks_none, shut_is}
use Rattle.mscp_queue.proofs.start.show_oldest.Goals as goal

pub returns-clause-places : goal.returns-clause-places
returns-clause-places c =
    let b = c.args.backlog.now in
    sym (found_all (looks_more {choices = []} true refl refl refl (looks_none b.budget
    c.args.drives.now b.waiting [] [] refl refl)) c.requires.some (shut_is b.budget 0 c.args.drives.now b.waiting
    b.targets 0 c.requires.waiting c.requires.order (omega (arith, c.requires.spent)) c.requires.some (inl refl)))

pub returns-clause-view : goal.returns-clause-view
returns-clause-view c = search (arith, returns-clause-places)
