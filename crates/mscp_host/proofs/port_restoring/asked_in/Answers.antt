use Rattle.mscp_host.proofs.Common.{◌∙◌, ℕ, ◌*◌, List, None, num, ap, arith, from_place, Submission}
use Rattle.mscp_host.proofs.PortHeads.{one_more_pushed}
use Rattle.mscp_host.proofs.port_restoring.asked_in.Goals as goal

pub loop-place-preserved : goal.loop-place-preserved
loop-place-preserved c =
    let inv = c.loop-place.invariant in
    let b = c.args.b.now in
    let n = c.loop-place.place in
    let read = c.four_at.ensures ∙ ap (λ (xs : List ℕ). num xs 0 4) (from_place (4 * n) b) in
    let blank : Submission = record { reference = 0; unit = 0; opcode = 0; told = None } in
    record {
      items = one_more_pushed b c.args.outstanding.now n blank _ _ _ _
          c.loop-place-test.true read c.asked_with.ensures inv.items c.push.ensures.items;
      len = omega (arith, inv.len, c.push.ensures.len);
    }
