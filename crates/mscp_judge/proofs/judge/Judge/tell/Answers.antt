use Rattle.mscp_judge.proofs.Common.{refl, sym, subst, length, ◌-◌, BeginsWith}
use Rattle.mscp_judge.proofs.Coming.{ahead_held, left_due, told_not, told_so}
use Rattle.mscp_judge.proofs.judge.Judge.tell.Goals as goal

pub returns-then-not-begins_with-clause-tells : goal.returns-then-not-begins_with-clause-tells
returns-then-not-begins_with-clause-tells g c = λ d log s. (
  told_not d log c.args.line.now c.args.self.now s c.requires
      (λ b. c.begins_with.ensures.no c.if-not-begins_with.true
      (subst (λ bs. BeginsWith bs c.args.line.now) (sym c.due-due.ensures) b)),
  ahead_held d log c.args.line.now c.args.self.now s,
)

pub returns-clause-tells : goal.returns-clause-tells
returns-clause-tells g c = λ d log s.
    let begins = subst (λ bs. BeginsWith bs c.args.line.now) c.due-due.ensures
    (c.begins_with.ensures.yes c.if-not-begins_with.false) in
    let lines = c.args.self.now.reporter.lines in
    told_so d log c.args.line.now c.args.self.now _ s begins refl refl refl refl refl
    (left_due lines c.args.line.now begins.0 c.args.self.now.told _ begins.1
    (λ i. length (c.lines.ensures i) - (length (c.due-due.ensures i) - length c.args.line.now - 1)))
