use Rattle.std.specs.Prelude.{replicate}
use Rattle.mscp_queue.proofs.Basics.{◌≡◌, get_or, arith, ap, sym, ◌∙◌, Target, no_target}
use Rattle.mscp_queue.proofs.Ranging.{alike}
use Rattle.mscp_queue.proofs.Common.{bit_at-zero}
use Rattle.mscp_queue.proofs.slots.Slots.new.Goals as goal

pub invariant_of-result : goal.invariant_of-result
invariant_of-result c =
    let d = c.default-2.ensures in
    let is : c.default-2.result ≡ no_target = λ i. record { drive = d.0 i; cylinder = d.1.0 i; range = d.1.1 i } in
    record {
      kept = search arith;
      bucketed = search (arith, bit_at-zero, c.new-4.ensures);
      ranges_64 = c.new-3.ensures.long;
      ranged = λ k l. c.new-3.ensures.first k ∙ sym (ap (λ (a : Target). a.range)
          (ap (λ x. get_or (replicate 64 x) k no_target) is ∙ alike 64 k no_target));
    }
