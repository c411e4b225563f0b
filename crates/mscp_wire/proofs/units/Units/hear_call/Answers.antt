use Rattle.std.specs.HashMap as hashed
use Rattle.mscp_wire.proofs.Common.{nat_eq, sym, ◌∙◌}
use Rattle.mscp_wire.proofs.Keys.{put_called}
use Rattle.mscp_wire.proofs.units.Units.hear_call.Goals as goal

pub returns-in_ok-insert-clause-called : goal.returns-in_ok-insert-clause-called
returns-in_ok-insert-clause-called g c = λ q.
    put_called (hashed.get nat_eq c.args.self.now.called) (hashed.get nat_eq c.insert.new.self)
    c.in-Some.identifier c.args.answer.now.unit c.in_ok-insert.ensures.updates.0 _
    (sym c.called.ensures ∙ c.in-Some.is) q
