use Rattle.mscp_reader.proofs.Common.{words}
use Rattle.mscp_reader.proofs.Headers.{line_heads}
use Rattle.mscp_reader.proofs.Outcomes.{gives_same}
use Rattle.mscp_reader.proofs.header.read_setting.Goals as goal

pub returns-clause-heads : goal.returns-clause-heads
returns-clause-heads c = λ p made sets.
    rw (c.at.ensures, c.in_ok-line.ensures.number)
    (line_heads made c.header_line.new.self.number p (words c.in_ok-line.line.words.rest.now) _ _ c.setting.result
    (rw (sets.1 (words c.in_ok-line.line.words.rest.now)) (gives_same made _ _ c.setting.ensures.value))
    (c.in_ok-line.ensures.some p (sets.0)))
