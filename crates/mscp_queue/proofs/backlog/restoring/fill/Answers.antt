use Rattle.mscp_queue.proofs.Basics.{ap, ◌∙◌, arith, sum_by, take_all, recursion_from_All, units_of, left_of, place_inside, range_low}
use Rattle.mscp_queue.proofs.Restored.{contents, contents_all, targets_are, timed, told_are}
use Rattle.mscp_queue.proofs.backlog.restoring.fill.Goals as goal

pub push-requires : goal.push-requires
push-requires c = search (arith, place_inside, range_low)

pub returns-clause-timed : goal.returns-clause-timed
returns-clause-timed c =
    let us = units_of c.args.drives.now in
    timed c.args.budget us c.loop-place.slots c.loop-place.before c.args.records.now (omega arith)
    (contents_all c.args.budget us (contents c.loop-place.slots) c.loop-place.before c.loop-place.place
    c.args.records.now c.loop-place-test.false c.loop-place.invariant.slots) (c.loop-place.invariant.before ∙ ap
    (sum_by left_of) (take_all c.loop-place.place c.args.records.now c.loop-place-test.false))

pub returns-clause-told : goal.returns-clause-told
returns-clause-told c = search (arith, told_are, contents_all, recursion_from_All)

pub returns-clause-targets : goal.returns-clause-targets
returns-clause-targets c = search (arith, targets_are, contents_all)
