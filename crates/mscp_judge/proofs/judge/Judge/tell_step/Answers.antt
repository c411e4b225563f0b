use Rattle.mscp_judge.proofs.Common.{◌++◌, ◌<◌, [], ◌∷◌, ◌∙◌, sym, subst, ap, Option, Name, words, IsTold, telling, name_in, IsStepRule, is_service, Came, due}
use Rattle.mscp_drive.specs.declared.event.Event.TheVariants as events
use Rattle.mscp_judge.proofs.Breaking.{broken_step}
use Rattle.mscp_judge.proofs.Coming.{ready_step, stands_with}
use Rattle.mscp_judge.proofs.Righting.{owed_some, stepped_open}
use Rattle.mscp_judge.proofs.judge.Judge.tell_step.Goals as goal

pub returns-then-tell-clause-tells : goal.returns-then-tell-clause-tells
returns-then-tell-clause-tells g c =
    let mid = c.rule_ahead-rule.new.self in
    let kept = c.rule_ahead-rule.ensures.kept in
    let came = subst (λ (n : Option Name). Came n mid c.step.new.self (events.Step mid.block)) c.name_in-wanted.ensures
    c.in_ok-step.ensures.came in
    λ d log s. subst (λ b. IsTold d log (telling log (c.args.line.now ++ 10 ∷ [])) c.tell.new.self b) c.if-tell.true
    (c.tell.ensures.tells d log
    (ready_step d log c.args.line.now _ mid c.step.new.self c.requires.words
    (stands_with d log c.args.self.now mid kept s) (ap due kept ∙ c.requires.due)
    (subst (λ n. 0 < n) (sym c.rule_ahead-rule.ensures.owed) c.requires.owed) came c.in_ok-step.ensures.owed
    c.in_ok-step.ensures.block))

pub returns-clause-tells : goal.returns-clause-tells
returns-clause-tells g c =
    let mid = c.rule_ahead-rule.new.self in
    let kept = c.rule_ahead-rule.ensures.kept in
    let came = subst (λ (n : Option Name). Came n mid c.step.new.self (events.Step mid.block)) c.name_in-wanted.ensures
    c.in_ok-step.ensures.came in
    let same = c.tell.ensures.kept c.if-tell.false in
    λ d log s.
    let told = subst (λ b. IsTold d log (telling log (c.args.line.now ++ 10 ∷ [])) c.tell.new.self b) c.if-tell.false
    (c.tell.ensures.tells d log
    (ready_step d log c.args.line.now _ mid c.step.new.self c.requires.words
    (stands_with d log c.args.self.now mid kept s) (ap due kept ∙ c.requires.due)
    (subst (λ n. 0 < n) (sym c.rule_ahead-rule.ensures.owed) c.requires.owed) came c.in_ok-step.ensures.owed
    c.in_ok-step.ensures.block)) in (
      told.0,
      stepped_open d log (name_in (words c.args.line.now)) mid c.step.new.self c.tell.new.self
          (stands_with d log c.args.self.now mid kept s) (ap due kept ∙ c.requires.due)
          (subst (λ n. 0 < n) (sym c.rule_ahead-rule.ensures.owed) c.requires.owed)
          (subst (λ ws. Came (name_in ws) mid c.step.new.self (events.Step mid.block)) c.requires.words came)
          c.in_ok-step.ensures.answers c.in_ok-step.ensures.short same told.1,
    )

pub returns-clause-breaks : goal.returns-clause-breaks
returns-clause-breaks g c = λ wanted.
    let rule = c.rule_ahead-rule in
    let same = ap (λ j. j.starts.items) (c.tell.ensures.kept c.if-tell.false)
    ∙ ap (λ x. x.items) c.in_ok-step.ensures.starts in
    λ d log s. broken_step d log c.args.line.now c.args.self.now rule.result c.tell.new.self.starts.items s
    c.requires.due c.requires.answer (owed_some c.args.self.now c.requires.owed)
    (λ e. rule.ensures.idle wanted (ap is_service c.requires.words ∙ e))
    (λ e t begun v led. subst (λ ws. IsStepRule d t ((name_in ws)) rule.result) c.requires.words
    (rule.ensures.step wanted (ap is_service c.requires.words ∙ e) d t begun v led))
    (λ e f t begun v led. same ∙ rule.ensures.starts wanted e f d t begun v led)
