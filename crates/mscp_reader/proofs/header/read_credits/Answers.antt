use Rattle.mscp_reader.proofs.Common.{words, Begins, HasCredits, both_of}
use Rattle.mscp_reader.proofs.Headers.{line_heads}
use Rattle.mscp_reader.proofs.Outcomes.{next_credits}
use Rattle.mscp_reader.proofs.header.read_credits.Goals as goal

pub returns-clause-heads : goal.returns-clause-heads
returns-clause-heads c =
    rw (c.at.ensures, c.in_ok-line.ensures.number) (line_heads (λ all. HasCredits (both_of all))
    c.header_line.new.self.number Begins (words c.in_ok-line.line.words.rest.now) _ _ c.credits_of.result
    (rw next_credits c.credits_of.ensures) (c.in_ok-line.ensures.some _ tt))
