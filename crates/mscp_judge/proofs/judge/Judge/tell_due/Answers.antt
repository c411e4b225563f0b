use Rattle.mscp_judge.proofs.Common.{◌++◌, [], ◌∷◌, subst, sym, arith, IsTold, telling, IsOpen}
use Rattle.mscp_judge.proofs.Coming.{ready_due}
use Rattle.mscp_judge.proofs.Righting.{stands_open_held}
use Rattle.mscp_judge.proofs.judge.Judge.tell_due.Goals as goal

pub returns-then-tell-clause-tells : goal.returns-then-tell-clause-tells
returns-then-tell-clause-tells g c = λ d log wanted s.
    subst (λ b. IsTold d log (telling log (c.args.line.now ++ 10 ∷ [])) c.tell.new.self b) c.if-tell.true
    (c.tell.ensures.tells d log (ready_due d log c.args.line.now c.args.self.now s c.requires.due))

pub returns-clause-tells : goal.returns-clause-tells
returns-clause-tells g c = λ d log wanted s.
    let told = subst (λ b. IsTold d log (telling log (c.args.line.now ++ 10 ∷ [])) c.tell.new.self b) c.if-tell.false
    (c.tell.ensures.tells d log (ready_due d log c.args.line.now c.args.self.now s c.requires.due)) in
    let kept = sym (c.tell.ensures.kept c.if-tell.false) in (
      told.0,
      subst (IsOpen d log wanted) kept
          (stands_open_held d log wanted c.args.self.now s (λ none some. absurd (c.requires.due none))),
    )

pub returns-clause-rule : goal.returns-clause-rule
returns-clause-rule g c = search (arith, c.tell.ensures.kept, c.if-tell.false, c.due_rule.ensures, c.due.ensures)
