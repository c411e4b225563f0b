use Rattle.mscpjudge.proofs.Common.{account_in, ap, arith, lines, sym, ◌∙◌}
use Rattle.mscpjudge.proofs.Spending.{account_here, account_more, account_none}
use Rattle.mscpjudge.proofs.credits.account_of.Goals as goal

pub returns-then-number-lines : goal.returns-then-number-lines
returns-then-number-lines c =
    sym (c.loop-line.invariant
    ∙ ap (account_in c.loop-line.lines.number c.args.number c.loop-line.account) c.in-Some.ensures.line
    ∙ account_here c.loop-line.lines.number c.cut.new.self.number c.args.number c.loop-line.account
    c.in-Some.line.now (lines c.cut.new.self.rest.now) c.in-Some.ensures.counted (omega arith))

pub loop-line-preserved : goal.loop-line-preserved
loop-line-preserved c =
    c.loop-line.invariant
    ∙ ap (account_in c.loop-line.lines.number c.args.number c.loop-line.account) c.in-Some.ensures.line
    ∙ account_more c.loop-line.lines.number c.cut.new.self.number c.args.number c.loop-line.account
    c.in-Some.line.now (lines c.cut.new.self.rest.now) c.in-Some.ensures.counted (omega arith)
    ∙ ap (λ a. account_in c.cut.new.self.number c.args.number a (lines c.cut.new.self.rest.now))
    (sym c.line.ensures.after)

pub returns : goal.returns
returns c =
    sym (c.loop-line.invariant
    ∙ ap (account_in c.loop-line.lines.number c.args.number c.loop-line.account) c.in_default.ensures.line
    ∙ account_none c.loop-line.lines.number c.args.number c.loop-line.account)
