use Rattle.mscp_wire.proofs.Doubting.{doubts_none}
use Rattle.mscp_wire.proofs.doubts.Doubts.none.Goals as goal

pub returns-clause-doubts : goal.returns-clause-doubts
returns-clause-doubts c =
    doubts_none _ c.none.ensures c.none-2.ensures c.none-3.ensures c.none-4.ensures c.none-5.ensures c.none-6.ensures
    c.none-7.ensures
