use Rattle.mscp_port.proofs.Common.{◌≢◌, ◌∙◌, ◌<◌, ◌≤◌, ℕ, length, ap, arith, get_or-set_other, get_or-set_same, below_more, volume_reset}
use Rattle.mscp_port.proofs.volumes.reset_all.Goals as goal

pub loop-volume-preserved : goal.loop-volume-preserved
loop-volume-preserved c =
    let at : ℕ = c.loop-volume.volume-index in
    let here : at < length c.loop-volume.volumes = omega arith in
    let from : at ≤ at = omega arith in (
      below_more _ _
          (λ k h. let ne : k ≢ at = omega arith in rw get_or-set_other (c.loop-volume.invariant.0 k h))
          (rw get_or-set_same (c.reset.ensures ∙ ap volume_reset (c.loop-volume.invariant.1 at from))),
      λ k h. let ne : k ≢ at = omega arith in let le : at ≤ k = omega arith in
          rw get_or-set_other (c.loop-volume.invariant.1 k le),
    )
