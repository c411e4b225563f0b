use Rattle.mscp_wire.proofs.Common.{IsFound, NoneIn, Sent, ap, false, if◌then◌else◌, leaves, left, length, polls, subst, ◌∙◌, ◌≡◌}
use Rattle.mscp_wire.proofs.Placed.{changed_all, changed_next}
use Rattle.mscp_wire.proofs.commands.Commands.leave_all.Goals as goal

-- one that is no poll of it stays as it is
stays : (y s : Sent) → polls y s ≡ false → leaves y s ≡ s
stays y s h = ap (λ b. if b then record s { asked = left s.asked } else s) h

pub loop-at-preserved : goal.loop-at-preserved
loop-at-preserved g c =
    let y = c.args.ended.now in
    let k = c.loop-at.invariant in
    let l = c.loop-at.self in
    let at = c.in-Some.at in
    changed_next (leaves y) (polls y) (stays y) c.args.self.now l _ c.loop-at.from at k
    (subst (λ l. IsFound (polls y) l c.loop-at.from (length c.args.self.now) at) c.self.view_is
    (subst (λ n. IsFound (polls y) c.self.inside.cells c.loop-at.from n at)
    (c.len.ensures.count ∙ (ap length c.self.view_is ∙ k.many)) c.in-Some.ensures)) c.leave_in.ensures

pub returns : goal.returns
returns g c =
    let y = c.args.ended.now in
    let k = c.loop-at.invariant in
    changed_all (leaves y) (polls y) (stays y) c.args.self.now c.loop-at.self c.loop-at.from k
    (subst (λ l. NoneIn (polls y) l c.loop-at.from (length c.args.self.now)) c.self.view_is
    (subst (NoneIn (polls y) c.self.inside.cells c.loop-at.from)
    (c.len.ensures.count ∙ (ap length c.self.view_is ∙ k.many)) c.in_default.ensures))
