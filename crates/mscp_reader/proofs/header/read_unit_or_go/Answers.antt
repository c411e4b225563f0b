use Rattle.mscp_reader.proofs.Common.{words}
use Rattle.mscp_reader.proofs.Headers.{line_heads}
use Rattle.mscp_reader.proofs.Outcomes.{next_units}
use Rattle.mscp_reader.proofs.header.read_unit_or_go.Goals as goal

pub returns-clause-heads : goal.returns-clause-heads
returns-clause-heads c =
    rw (c.at.ensures, c.in_ok-line.ensures.number)
    (line_heads _ c.header_line.new.self.number _ (words c.in_ok-line.line.words.rest.now) _ _ c.unit_or_go.result
    (rw next_units c.unit_or_go.ensures.place) (c.in_ok-line.ensures.some _ tt))
