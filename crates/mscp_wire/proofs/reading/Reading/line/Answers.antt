use Rattle.mscp_wire.proofs.Common.{arith, err_from_is_err_and, sym, ◌∙◌}
use Rattle.mscp_wire.proofs.Passing.{line_fails, line_goes}
use Rattle.mscp_wire.proofs.reading.Reading.line.Goals as goal

pub returns-in_err-said-clause-after : goal.returns-in_err-said-clause-after
returns-in_err-said-clause-after g c = search (arith, err_from_is_err_and, line_fails)

pub returns-clause-after : goal.returns-clause-after
returns-clause-after g c = λ log s.
    rw (line_goes _ c.args.number c.in_ok-said.said (sym c.line_says.ensures ∙ c.in_ok-said.was))
    (c.said.ensures.after log s)
