use Rattle.mscpjudge.proofs.Common.{after_line, ap, breach_from, first_of, lines, sym, ◌∙◌}
use Rattle.mscpjudge.proofs.Spending.{breach_more, breach_none}
use Rattle.mscpjudge.proofs.credits.breach_from.Goals as goal

pub returns-in-Some-line : goal.returns-in-Some-line
returns-in-Some-line c =
    sym (c.loop-line.invariant ∙ ap (breach_from c.loop-line.lines.number c.loop-line.account) c.in-Some.ensures.line
    ∙ breach_more c.loop-line.lines.number c.cut.new.self.number c.loop-line.account c.in-Some.line.now
    (lines c.cut.new.self.rest.now) c.in-Some.ensures.counted
    ∙ ap (λ b. first_of b (breach_from c.cut.new.self.number
    (after_line c.cut.new.self.number c.loop-line.account c.in-Some.line.now) (lines c.cut.new.self.rest.now)))
    (sym c.line.ensures.breach ∙ c.in-Some-line.is))

pub loop-line-preserved : goal.loop-line-preserved
loop-line-preserved c =
    c.loop-line.invariant ∙ ap (breach_from c.loop-line.lines.number c.loop-line.account) c.in-Some.ensures.line
    ∙ breach_more c.loop-line.lines.number c.cut.new.self.number c.loop-line.account c.in-Some.line.now
    (lines c.cut.new.self.rest.now) c.in-Some.ensures.counted
    ∙ ap (λ b. first_of b (breach_from c.cut.new.self.number
    (after_line c.cut.new.self.number c.loop-line.account c.in-Some.line.now) (lines c.cut.new.self.rest.now)))
    (sym c.line.ensures.breach ∙ c.in_default-line.is)
    ∙ ap (λ a. breach_from c.cut.new.self.number a (lines c.cut.new.self.rest.now)) (sym c.line.ensures.after)

pub returns : goal.returns
returns c =
    sym (c.loop-line.invariant ∙ ap (breach_from c.loop-line.lines.number c.loop-line.account) c.in_default.ensures.line
    ∙ breach_none c.loop-line.lines.number c.loop-line.account)
