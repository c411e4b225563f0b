use Rattle.mscp_reader.proofs.Common.{words, HasCredits, limited}
use Rattle.mscp_reader.proofs.Headers.{line_heads}
use Rattle.mscp_reader.proofs.Outcomes.{next_limit}
use Rattle.mscp_reader.proofs.header.read_limit.Goals as goal

pub returns-clause-heads : goal.returns-clause-heads
returns-clause-heads c = λ credits.
    rw (c.at.ensures, c.in_ok-line.ensures.number) (line_heads (limited credits) c.header_line.new.self.number
    (HasCredits credits) (words c.in_ok-line.line.words.rest.now) _ _ c.limit_of.result
    (rw next_limit (c.limit_of.ensures credits)) (c.in_ok-line.ensures.some _ tt))
