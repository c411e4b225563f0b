use Rattle.mscp_wire.proofs.Common.{List, Sent, [], arith, length, refl, ◌∷◌, ◌≡◌}
use Rattle.std.specs.Prelude.{Option}
use Rattle.mscp_wire.proofs.commands.Commands.clear.Goals as goal

none : (xs : List (Option Sent)) → length xs ≡ 0 → xs ≡ []
none [] e = refl
none (x ∷ xs) e = absurd (omega (arith, e))

pub returns : goal.returns
returns g c = none c.loop.self (omega (arith, c.loop-test.false, c.loop.invariant))
