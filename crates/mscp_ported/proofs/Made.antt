-- What a port makes of its controller by each of its own calls.
use Rattle.mscp_ported.proofs.Common.{Becomes, Call, Err, Makes, Next, Ok, Picking, Port, WasRead, Went, WriteIp, [], inl, inr, refl}
use Rattle.mscp_port.specs.declared.stage.Stage.TheVariants as stages
use Rattle.mscp_ported.proofs.Beginning.{next}
use Rattle.mscp_ported.proofs.Making.{Follows, was_read, went}
use Rattle.mscp_ported.proofs.Staying.{IsPassive, passive_stays}

makes_none : {K : Type 0} (call : Call) (old new : Port K) → IsPassive call → Makes call old new []
makes_none WriteIp old new is = absurd is
makes_none (Next blocks action bytes) old new is = absurd is
makes_none (WasRead bytes (Ok done)) old new is = absurd is
makes_none (WasRead bytes (Err unasked)) old new is = refl
makes_none (Went outcome (Ok done)) old new is = absurd is
makes_none (Went outcome (Err unasked)) old new is = refl
makes_none call old new is = refl

passive : {K : Type 0} (picks : Picking K) (call : Call) (old new : Port K) → Becomes picks call old new
    → IsPassive call
    → Follows picks call old new
passive picks call old new r is = elim (passive_stays picks call old new r is) [
  | inl same ↦ inr ([], makes_none call old new is, same.0)
  | inr f ↦ inl (stages.Dead f.0, f.1)
]

pub follows : {K : Type 0} (picks : Picking K) (call : Call) (old new : Port K) → Becomes picks call old new
    → Follows picks call old new
follows picks WriteIp old new r = inl (stages.First, r)
follows picks (Next blocks action bytes) old new r = next picks blocks action bytes old new r.0
follows picks (WasRead bytes result) old new r = was_read picks bytes result old new r
follows picks (Went outcome result) old new r = went picks outcome result old new r
follows picks call old new r = passive picks call old new r tt
