use Rattle.mscp_judge.proofs.Common.{◌≡◌, [], sym, ◌∙◌, ap, arith, common_steps, replicate, words, name_in}
use Rattle.mscp_drive.specs.declared.event.Event.TheVariants as events
use Rattle.mscp_judge.proofs.Breaking.{broken_unasked}
use Rattle.mscp_judge.proofs.Coming.{ready_not}
use Rattle.mscp_judge.proofs.Righting.{stands_open_held}
use Rattle.mscp_judge.proofs.judge.Judge.hear.Goals as goal

pub tell_due-requires-clause-due : goal.tell_due-requires-clause-due
tell_due-requires-clause-due g c = search (arith, common_steps)

pub returns-then-self-eq0-clause-tells : goal.returns-then-self-eq0-clause-tells
returns-then-self-eq0-clause-tells g c =
    let none : c.due.result.now ≡ [] = grind (arith, common_steps) in
    λ d log s. (
      ready_not d log c.args.line.now c.args.self.now s
          (record { told = sym c.due.ensures ∙ none; answered = c.if-self-eq0.true }),
      stands_open_held d log (name_in (words c.args.line.now)) c.args.self.now s
          (λ e some. absurd (some (ap (λ n. replicate n (events.Step c.args.self.now.block)) c.if-self-eq0.true))),
    )

pub returns-then-self-eq0-clause-breaks : goal.returns-then-self-eq0-clause-breaks
returns-then-self-eq0-clause-breaks g c = search (arith, common_steps, broken_unasked)

pub returns-then-not-is_empty-clause-tells : goal.returns-then-not-is_empty-clause-tells
returns-then-not-is_empty-clause-tells g c = search (arith, c.tell_due.ensures.tells)
