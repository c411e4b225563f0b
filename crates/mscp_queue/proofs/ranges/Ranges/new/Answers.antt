use Rattle.std.specs.Prelude.{replicate}
use Rattle.mscp_queue.proofs.Basics.{arith, ap, ◌∙◌, bit_at}
use Rattle.mscp_queue.proofs.Common.{bit_at_ones}
use Rattle.mscp_queue.proofs.Ranging.{ranged_none, zeros}
use Rattle.mscp_queue.proofs.ranges.Ranges.new.Goals as goal

pub returns-clause-first : goal.returns-clause-first
returns-clause-first c = λ k. zeros 64 k

pub invariant_of-result : goal.invariant_of-result
invariant_of-result c = ranged_none (replicate 64 0) c.all_first-slots.result (λ k. zeros 64 k) (λ k l. ap
    (λ m. bit_at m k) c.all_first-slots.ensures.first ∙ bit_at_ones 64 k l) (λ r l. c.all_first-slots.ensures.others
    r (λ e. omega (arith, e, l)))
