use Rattle.mscp_queue.proofs.Common.{subst, ◌∙◌, inl, inr, ⊎_elim, IsSooner, range_at}
use Rattle.mscp_queue.proofs.slots.near_of.Goals as goal

pub returns : goal.returns
returns c =
    let h = c.nearest.ensures in
    let range = c.from.ensures ∙ c.range_of-range.ensures.value in
    record {
      to = h.to;
      from = λ k x. ⊎_elim (λ y. inl y) (λ y. inr (
        c.if-front-masks-ne0.false,
        (
          y.0,
          y.1,
          subst (λ r. IsSooner c.args.drive.now.head.up r (range_at c.args.ranges.now y.0)
              (range_at c.args.ranges.now k))
              range y.2,
        ),
      )) (h.from k x);
    }
