use Rattle.mscp_wire.proofs.Common.{Shared, ap, arith, kept, nat_tests}
use Rattle.mscp_wire.proofs.Keys.{heard_online, with_state}
use Rattle.mscp_wire.proofs.units.Units.hear_command.Goals as goal

pub returns-clause-told : goal.returns-clause-told
returns-clause-told g c = λ via unit.
    heard_online (kept c.args.self.now) (kept c.put.new.self) c.args.sent.now c.told-own.result _
    c.other_side-other.result (grind (arith, nat_tests, c.if-sent-ne-ONLINE.false)) c.told-own.ensures
    c.other_side-other.ensures (ap (with_state Shared) c.told.ensures) c.in_ok-put.ensures.told via unit
