use Rattle.mscp_queue.proofs.Common.{◌+◌, ◌*◌, ◌-◌, arith}
use Rattle.mscp_queue.proofs.LaneParts.{next_at, none_on, at_mid, bit_from}
use Rattle.mscp_queue.proofs.lanes.lower.Goals as goal

pub lower_part-requires-clause-enough : goal.lower_part-requires-clause-enough
lower_part-requires-clause-enough c = search (arith, at_mid, bit_from)

pub loop-block-preserved : goal.loop-block-preserved
loop-block-preserved c =
    let b = c.loop-block.block in
    let long = c.loop-block.invariant.long in
    next_at c.args.mask c.args.by (8 * b) (8 * b + 8 - 8 * b) _ c.args.dues.now c.loop-block.dues
    c.lower_part.new.part (omega arith) (omega arith) (omega arith) c.loop-block.invariant c.lower_part.ensures

pub returns-then-bits-eq0 : goal.returns-then-bits-eq0
returns-then-bits-eq0 c = search (arith, none_on)
