use Rattle.mscp_wire.proofs.Common.{IsFound, NoneIn, Sent, ap, besides, false, if◌then◌else◌, length, subst, true, turns_beside, ◌∙◌, ◌≡◌}
use Rattle.mscp_wire.proofs.Placed.{changed_all, changed_next}
use Rattle.mscp_wire.proofs.commands.Commands.mark_all.Goals as goal

-- one beside which its unit wasn't changed stays as it is
stays : (y s : Sent) → turns_beside y s ≡ false → besides y s ≡ s
stays y s h = ap (λ b. if b then record s { beside = true } else s) h

pub loop-at-preserved : goal.loop-at-preserved
loop-at-preserved g c =
    let y = c.args.ended.now in
    let k = c.loop-at.invariant in
    let l = c.loop-at.self in
    let at = c.in-Some.at in
    changed_next (besides y) (turns_beside y) (stays y) c.args.self.now l _ c.loop-at.from at k
    (subst (λ l. IsFound (turns_beside y) l c.loop-at.from (length c.args.self.now) at) c.self.view_is
    (subst (λ n. IsFound (turns_beside y) c.self.inside.cells c.loop-at.from n at)
    (c.len.ensures.count ∙ (ap length c.self.view_is ∙ k.many)) c.in-Some.ensures)) c.mark_in.ensures

pub returns : goal.returns
returns g c =
    let y = c.args.ended.now in
    let k = c.loop-at.invariant in
    changed_all (besides y) (turns_beside y) (stays y) c.args.self.now c.loop-at.self c.loop-at.from k
    (subst (λ l. NoneIn (turns_beside y) l c.loop-at.from (length c.args.self.now)) c.self.view_is
    (subst (NoneIn (turns_beside y) c.self.inside.cells c.loop-at.from)
    (c.len.ensures.count ∙ (ap length c.self.view_is ∙ k.many)) c.in_default.ensures))
