use Rattle.mscp_queue.proofs.Common.{eqb, sym, ap, ◌∙◌, arith, w64, bit_at, bitmask_splat}
use Rattle.mscp_queue.proofs.LaneHits.{hit_inside, hit_equal, equal_hit}
use Rattle.mscp_queue.proofs.lanes.equal_eight.Goals as goal

pub returns-clause-only : goal.returns-clause-only
returns-clause-only c = λ k set.
    let is = bitmask_splat w64 eqb c.args.lanes 8 c.args.number c.requires (omega arith) in
    let low = hit_inside c.args.lanes c.args.number k (ap (λ n. bit_at n k) (sym is) ∙ set) in
    let long = c.requires in
    omega (arith, low, long)

pub returns-clause-equal : goal.returns-clause-equal
returns-clause-equal c = λ k set.
    let is = bitmask_splat w64 eqb c.args.lanes 8 c.args.number c.requires (omega arith) in
    hit_equal c.args.lanes c.args.number k (ap (λ n. bit_at n k) (sym is) ∙ set)

pub returns-clause-each : goal.returns-clause-each
returns-clause-each c = λ k l e.
    let is = bitmask_splat w64 eqb c.args.lanes 8 c.args.number c.requires (omega arith) in
    ap (λ n. bit_at n k) is ∙ equal_hit c.args.lanes c.args.number k (omega arith) e
