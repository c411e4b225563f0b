use Rattle.mscp_queue.proofs.Common.{◌≡◌, ◌+◌, ◌<◌, length, ap, ◌∙◌, arith, record_at, choices_at}
use Rattle.mscp_queue.proofs.Starting.{found_all, looks_more, shut_is}
use Rattle.mscp_queue.proofs.start.show_each.Goals as goal

pub returns-then-is_shut-clause-places : goal.returns-then-is_shut-clause-places
returns-then-is_shut-clause-places c =
    let b = c.args.backlog.now in
    let l : c.loop-place.place < length b.waiting =
    omega (arith, c.loop-place-test.true, c.len-place-end.ensures.waiting, c.loop-place.auto.place-end) in
    let rest : c.unspent-unspent.result + (record_at b.waiting 0).passed ≡ b.budget =
    omega (arith, c.unspent-unspent.ensures, c.requires.passed) in
    found_all (looks_more c.may_start-starts.result c.may_start-starts.ensures c.show_if.ensures.kept
    c.show_if.ensures.shown c.loop-place.invariant) l
    (shut_is b.budget c.unspent-unspent.result c.args.drives.now b.waiting b.targets c.loop-place.place
    c.requires.waiting c.requires.order rest l (c.is_shut.ensures c.if-is_shut.true))

pub returns-then-is_shut-clause-view : goal.returns-then-is_shut-clause-view
returns-then-is_shut-clause-view c = (looks_more c.may_start-starts.result
    c.may_start-starts.ensures c.show_if.ensures.kept c.show_if.ensures.shown c.loop-place.invariant).shown
    ∙ ap (choices_at c.args.drives.now c.args.backlog.now.waiting) (returns-then-is_shut-clause-places c)

pub loop-place-preserved : goal.loop-place-preserved
loop-place-preserved c = search (arith, looks_more)
