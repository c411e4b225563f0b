use Rattle.mscp_sim.proofs.Common.{◌≡◌, ℕ, ap, sym, ◌∙◌, arith, refl, subst, slice_get, Some, None, false≢true, ArrayVec, End, IsEnd, of, put, heard}
use Rattle.mscp_sim.specs.declared.conversing.Turn.TheVariants as turns
use Rattle.mscp_sim.specs.declared.conversing.Heard.TheVariants as hears
use Rattle.mscp_sim.proofs.TwoEnds.Turned.{with_match}
use Rattle.mscp_sim.proofs.TwoEnds.Sides.{put_own}
use Rattle.mscp_sim.proofs.TwoEnds.Taking.{handing, no_bytes, same_bytes, taken_some}
use Rattle.mscp_sim.proofs.conversing.hand_over.Goals as goal

pub receive-requires : goal.receive-requires
receive-requires g c =
    let via = c.args.connection in
    let h = c.args.controller.now in
    let told = c.requires via in
    search (arith, taken_some)

pub unreachable-requires : goal.unreachable-requires
unreachable-requires g c =
    let via = c.args.connection in
    let h = c.args.controller.now in
    let a = of via c.args.hosts.now in
    let told = c.requires via in
    let back : (e : End) → slice_get (of via h.untaken) 0 ≡ Some e → IsEnd c.in-Some.bytes.items e =
    λ e s. rw c.in-Some.is at (c.take.ensures.reads_back e s) in
    let taken = taken_some via a h told.0 c.in-Some.bytes (sym c.take.ensures.answer ∙ c.in-Some.is) back told.1 in
    search (arith, false≢true)

pub returns-in-None : goal.returns-in-None
returns-in-None g c =
    let via = c.args.connection in
    let none = sym c.in-None.is ∙ c.take.ensures.answer in
    with_match (g.K.Picker.picks c.args.controller.now.picker) c.args.hosts.now c.args.hosts.now c.args.controller.now
    c.take.new.self (record { turn = turns.Take via; heard = hears.Quiet; moment = handing via None }) (
      (None, of via c.args.hosts.now, refl, (refl, refl), sym (put_own via c.args.hosts.now)),
      (refl, none, c.take.ensures.after),
      (λ b end e s. absurd (no_bytes via b e)),
    ) c.requires

pub returns-in-Ok : goal.returns-in-Ok
returns-in-Ok g c =
    let via = c.args.connection in
    let a = of via c.args.hosts.now in
    let h = c.args.controller.now in
    let back : (e : End) → slice_get (of via h.untaken) 0 ≡ Some e → IsEnd c.in-Some.bytes.items e =
    λ e s. rw c.in-Some.is at (c.take.ensures.reads_back e s) in
    let some = sym c.in-Some.is ∙ c.take.ensures.answer in
    let kept = (heard a c.in-Some.bytes.items).1 in
    let answer = sym (c.receive.ensures.answer ∙ ap (λ b. (heard a b).0) c.deref.ensures.0) ∙ c.in-Ok.is in
    let left = c.receive.ensures.after ∙ ap (λ b. put via (heard a b).1 c.args.hosts.now) c.deref.ensures.0 in
    with_match (g.K.Picker.picks c.args.controller.now.picker) c.args.hosts.now c.receive.new.self
    c.args.controller.now c.take.new.self
    (record { turn = turns.Take via; heard = hears.News c.in-Ok.news; moment = handing via (Some c.in-Some.bytes) }) (
      (Some c.in-Some.bytes, kept, refl, (c.in-Ok.news, refl, λ i. (answer i, kept)), left),
      (refl, some, c.take.ensures.after),
      (λ b end e s. subst (λ (x : ArrayVec ℕ). IsEnd x.items end) (same_bytes via c.in-Some.bytes b e) (back end s)),
    ) c.requires
