use Rattle.mscpjudge.proofs.Common.{ap, false, have_ports, is_port, line_kind, lines, sym, true, ◌||◌, ◌∙◌, ◌≡◌}
use Rattle.mscpjudge.proofs.Ported.{have_more, have_none}
use Rattle.mscpjudge.proofs.ports.have_ports.Goals as goal

pub returns-then-is_port : goal.returns-then-is_port
returns-then-is_port c =
    let p : is_port (line_kind c.cut.new.self.number c.in-Some.line.now) ≡ true = cc in
    sym (c.loop-line.invariant ∙ ap (have_ports c.loop-line.lines.number) c.in-Some.ensures.line
    ∙ have_more c.loop-line.lines.number c.cut.new.self.number c.in-Some.line.now (lines c.cut.new.self.rest.now)
    c.in-Some.ensures.counted
    ∙ ap (λ b. b || have_ports c.cut.new.self.number (lines c.cut.new.self.rest.now)) p)

pub loop-line-preserved : goal.loop-line-preserved
loop-line-preserved c =
    let p : is_port (line_kind c.cut.new.self.number c.in-Some.line.now) ≡ false = cc in
    c.loop-line.invariant ∙ ap (have_ports c.loop-line.lines.number) c.in-Some.ensures.line
    ∙ have_more c.loop-line.lines.number c.cut.new.self.number c.in-Some.line.now (lines c.cut.new.self.rest.now)
    c.in-Some.ensures.counted
    ∙ ap (λ b. b || have_ports c.cut.new.self.number (lines c.cut.new.self.rest.now)) p

pub returns : goal.returns
returns c =
    sym (c.loop-line.invariant ∙ ap (have_ports c.loop-line.lines.number) c.in_default.ensures.line
    ∙ have_none c.loop-line.lines.number)
