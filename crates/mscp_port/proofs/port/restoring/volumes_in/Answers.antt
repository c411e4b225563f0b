use Rattle.mscp_port.proofs.Common.{◌≡◌, ap, ◌∙◌, arith, refl, parts_in, part_more, volume_in, false≢true, IsOk, Result, Ok, Err}
use Rattle.mscp_port.proofs.port.restoring.volumes_in.Goals as goal

pub loop-place-preserved : goal.loop-place-preserved
loop-place-preserved c = search (arith, part_more)

pub returns : goal.returns
returns c =
    let all : c.loop-place.place ≡ 16 = omega arith in
    c.in-Ok.ensures.ok ∙ (c.loop-place.invariant.items ∙ ap (λ n. parts_in volume_in 18 n c.args.b.now) all)

no_other : {X Y : Type 0} (r : Result X Y) → IsOk r → ((x : X) → r ≡ Ok x → ⊥) → ⊥
no_other (Ok x) ok other = other x refl
no_other (Err y) ok other = false≢true ok

pub unreachable-requires : goal.unreachable-requires
unreachable-requires c =
    let all : c.loop-place.place ≡ 16 = omega arith in
    no_other c.into_inner.result (c.into_inner.ensures.variant.1 (c.loop-place.invariant.len ∙ all)) c.in_default.not-Ok
