use Rattle.mscp_script.proofs.Common.{◌++◌, ◌∙◌, arith, refl, [], events_of, ends, goes_on, goes_wrong}
use Rattle.mscp_script.proofs.reported.run_events.Goals as goal

pub loop-request-init : goal.loop-request-init
loop-request-init g c = record { going = λ d begun. ([], begun, refl); few = omega (arith, c.requires) }

pub loop-request-preserved : goal.loop-request-preserved
loop-request-preserved g c =
    let asks = rw c.in-Ok-Some.field-0-is at (c.in-Ok-Some.ensures.asks) in
    let few = rw c.in-Ok-Some.field-0-is at (c.in-Ok-Some.ensures.few) in
    let number = rw c.in-Ok-Some.field-0-is at (c.in-Ok-Some.ensures.number) in
    record {
      going = λ d begun.
          let so_far = c.loop-request.invariant.going d begun in (
            so_far.0 ++ events_of c.in-Ok-Some.request,
            c.in_ok-meet-in-Ok-Some.ensures.met d so_far.0 so_far.1,
            so_far.2 ∙ goes_on _ c.count.result _ d so_far.0 _ _ _ (omega (arith, so_far.1.count, c.count.ensures))
                (omega (arith, c.loop-request.invariant.few, c.count.ensures)) asks c.in-Ok-Some.ensures.rest number,
          );
      few = omega (arith, c.in_ok-meet-in-Ok-Some.ensures.count, few, c.count.ensures);
    }

pub returns-in-Err-clause-ran : goal.returns-in-Err-clause-ran
returns-in-Err-clause-ran g c = λ d begun.
    let so_far = c.loop-request.invariant.going d begun in
    search (arith, goes_wrong)

pub returns-in-Ok-None-clause-ran : goal.returns-in-Ok-None-clause-ran
returns-in-Ok-None-clause-ran g c = λ d begun.
    let so_far = c.loop-request.invariant.going d begun in (
      so_far.0,
      so_far.1,
      so_far.2 ∙ ends _ c.count.result d so_far.0 _ (omega (arith, so_far.1.count, c.count.ensures))
          (omega (arith, c.loop-request.invariant.few, c.count.ensures))
          (rw c.in-Ok-None.field-0-is at (c.in-Ok-None.ensures.asks)),
    )
