use Rattle.mscp_reader.proofs.Common.{[], words, HasTimeout, HasUnits, settled}
use Rattle.mscp_reader.proofs.Headers.{line_heads}
use Rattle.mscp_reader.proofs.Outcomes.{gives_made, next_timeout}
use Rattle.mscp_reader.proofs.header.read_unit.Goals as goal

pub returns-clause-heads : goal.returns-clause-heads
returns-clause-heads c =
    rw (c.at.ensures, c.in_ok-line.ensures.number) (line_heads _ c.header_line.new.self.number
    (HasTimeout (settled c.args.limits [])) (words c.in_ok-line.line.words.rest.now) _ _ c.first_unit.result
    (rw next_timeout (gives_made _ (λ units. HasUnits (settled c.args.limits units)) _ _ c.first_unit.ensures.units))
    (c.in_ok-line.ensures.some _ tt))
