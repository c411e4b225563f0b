use Rattle.mscp_wire.proofs.Common.{ap, is_settled_at, kept, refl, sents, settles, sym, ◌∙◌}
use Rattle.mscp_wire.specs.Wire.{told_after_end}
use Rattle.mscp_wire.proofs.Hearing.{ended_rule}
use Rattle.mscp_wire.proofs.judge.Judge.end.Goals as goal

pub returns-in_ok-ended-clause-rule : goal.returns-in_ok-ended-clause-rule
returns-in_ok-ended-clause-rule g c =
    ended_rule c.args.bytes.now (sents c.args.self.now.commands) _ (kept c.args.self.now.units)
    c.args.self.now.controller c.args.connection _ c.settles-settled.result _ _ _
    (sym c.is_long.ensures ∙ c.if-not-is_long.false) c.of-answer.ensures
    (c.settles-settled.ensures ∙ ap (is_settled_at (sents c.args.self.now.commands) c.of-answer.result) refl)
    c.seen_by-seen.ensures refl
    c.cell_of-at.ensures.place c.broken_answer-rule.ensures

pub returns-in_ok-ended-clause-units : goal.returns-in_ok-ended-clause-units
returns-in_ok-ended-clause-units g c = λ none via unit.
    c.in_ok-ended.ensures.units via unit
    ∙ (ap (λ b. told_after_end via unit b (kept c.args.self.now.units via unit) c.of-answer.result)
    c.settles-settled.ensures
    ∙ (ap (λ q. told_after_end via unit (is_settled_at (sents c.args.self.now.commands) c.of-answer.result q)
    (kept c.args.self.now.units via unit) c.of-answer.result) c.cell_of-at.ensures.place
    ∙ ap (λ a. told_after_end via unit (settles (sents c.args.self.now.commands) a)
    (kept c.args.self.now.units via unit) a) c.of-answer.ensures))

pub returns-else-is_none-clause-rule : goal.returns-else-is_none-clause-rule
returns-else-is_none-clause-rule g c =
    ended_rule c.args.bytes.now (sents c.args.self.now.commands) _ (kept c.args.self.now.units)
    c.args.self.now.controller c.args.connection _ c.settles-settled.result _ _ _
    (sym c.is_long.ensures ∙ c.if-not-is_long.false) c.of-answer.ensures c.settles-settled.ensures
    c.seen_by-seen.ensures refl
    c.cell_of-at.ensures.place c.broken_answer-rule.ensures

pub returns-in_ok-ended-clause-command : goal.returns-in_ok-ended-clause-command
returns-in_ok-ended-clause-command g c =
    rw (sym c.is_long.ensures ∙ c.if-not-is_long.false)
    (rw (c.cell_of-at.ensures.place, c.of-answer.ensures) at c.command_if-command.ensures)

pub returns-in_ok-ended-clause-fall : goal.returns-in_ok-ended-clause-fall
returns-in_ok-ended-clause-fall g c =
    rw (sym c.is_long.ensures ∙ c.if-not-is_long.false)
    (rw (c.command_if-command.ensures, c.cell_of-at.ensures.place, c.of-answer.ensures) at c.fall_found-fall.ensures)

pub returns-in_ok-ended-clause-doubtful : goal.returns-in_ok-ended-clause-doubtful
returns-in_ok-ended-clause-doubtful g c =
    rw (sym c.is_long.ensures ∙ c.if-not-is_long.false)
    (rw (c.command_if-command.ensures, c.cell_of-at.ensures.place, c.of-answer.ensures) at
    c.doubtful_found-doubtful.ensures)

pub returns-else-is_none-clause-command : goal.returns-else-is_none-clause-command
returns-else-is_none-clause-command g c =
    rw (sym c.is_long.ensures ∙ c.if-not-is_long.false)
    (rw (c.cell_of-at.ensures.place, c.of-answer.ensures) at c.command_if-command.ensures)

pub returns-else-is_none-clause-fall : goal.returns-else-is_none-clause-fall
returns-else-is_none-clause-fall g c =
    rw (sym c.is_long.ensures ∙ c.if-not-is_long.false)
    (rw (c.command_if-command.ensures, c.cell_of-at.ensures.place, c.of-answer.ensures) at c.fall_found-fall.ensures)

pub returns-else-is_none-clause-doubtful : goal.returns-else-is_none-clause-doubtful
returns-else-is_none-clause-doubtful g c =
    rw (sym c.is_long.ensures ∙ c.if-not-is_long.false)
    (rw (c.command_if-command.ensures, c.cell_of-at.ensures.place, c.of-answer.ensures) at
    c.doubtful_found-doubtful.ensures)

pub returns-in_ok-ended-clause-after : goal.returns-in_ok-ended-clause-after
returns-in_ok-ended-clause-after g c =
    λ none. rw (c.cell_of-at.ensures.place, c.of-answer.ensures) at c.in_ok-ended.ensures.after

pub returns-in_ok-ended-clause-called : goal.returns-in_ok-ended-clause-called
returns-in_ok-ended-clause-called g c = λ none. rw c.of-answer.ensures at c.in_ok-ended.ensures.called

pub returns-in_ok-ended-clause-controller : goal.returns-in_ok-ended-clause-controller
returns-in_ok-ended-clause-controller g c = λ none. rw c.of-answer.ensures at c.in_ok-ended.ensures.controller

pub returns-in_ok-ended-clause-timeout : goal.returns-in_ok-ended-clause-timeout
returns-in_ok-ended-clause-timeout g c = λ none. rw c.of-answer.ensures at c.in_ok-ended.ensures.timeout
