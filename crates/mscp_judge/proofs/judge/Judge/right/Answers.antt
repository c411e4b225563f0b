use Rattle.mscp_judge.proofs.Common.{◌≡◌, ◌≢◌, [], sym, ◌∙◌, subst, arith, common_steps, IsFirstLine, due}
use Rattle.mscp_judge.proofs.Righting.{open_due, open_none, open_step}
use Rattle.mscp_judge.proofs.judge.Judge.right.Goals as goal

pub returns-then-not-is_empty : goal.returns-then-not-is_empty
returns-then-not-is_empty g c = λ d log wanted s.
    let text = c.first_line.result.items in
    let some : due c.args.self.now ≢ [] =
    λ e. let none : c.due.result.now ≡ [] = c.due.ensures ∙ e in let no : ⊥ = grind (arith, common_steps) in no in
    open_due d log wanted c.args.self.now text s some
    (subst (λ bs. IsFirstLine bs text) c.due-then-not-is_empty.ensures c.first_line.ensures)

pub returns-then-self-eq0 : goal.returns-then-self-eq0
returns-then-self-eq0 g c =
    let none : c.due.result.now ≡ [] = grind (arith, common_steps) in
    λ d log wanted s. open_none d log wanted c.args.self.now _ c.new.ensures s (record {
      told = sym c.due.ensures ∙ none;
      answered = c.if-self-eq0.true;
    })

pub returns : goal.returns
returns g c =
    let none : c.due.result.now ≡ [] = grind (arith, common_steps) in
    let text = c.first_line-2.result.items in
    let step = c.in_ok-step.ensures in
    λ d log wanted s.
    open_step d log wanted c.args.self.now c.step.new.self text s (sym c.due.ensures ∙ none)
    (omega (arith, c.if-self-eq0.false)) step.came step.owed step.block step.answers step.short
    (subst (λ bs. IsFirstLine bs text) c.due-2.ensures c.first_line-2.ensures)
