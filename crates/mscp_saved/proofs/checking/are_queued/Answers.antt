use Rattle.mscp_saved.proofs.Common.{◌∙◌, ap, sym, subst, and_from, list_all_more, IsWaitable, Record, is_queued, each_more}
use Rattle.mscp_saved.proofs.checking.are_queued.Goals as goal

pub loop-place-preserved : goal.loop-place-preserved
loop-place-preserved c =
    let inv = c.loop-place.invariant in
    let s = c.args.config.now in
    let rs = c.args.waiting.now in
    let i = c.loop-place.place in
    let r = c.index-waiting-place.result in
    let is = sym c.index-waiting-place.is in
    let queued = c.if-not-is_queued.false in
    let one = ap (is_queued s) (sym c.command.ensures) ∙ (sym c.is_queued.ensures.value ∙ queued) in
    record {
      value = list_all_more (λ (r : Record). is_queued s r.command) rs i r c.loop-place-test.true
          ∙ and_from _ _ inv.value (ap (λ (r : Record). is_queued s r.command) is ∙ one);
      waitable = each_more (λ (r : Record). IsWaitable s.longest s.units r.command) rs i r r c.loop-place-test.true is
          inv.waitable (subst (IsWaitable s.longest s.units) c.command.ensures (c.is_queued.ensures.waitable queued));
    }
