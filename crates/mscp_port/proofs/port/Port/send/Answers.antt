use Rattle.mscp_port.proofs.Common.{◌∙◌, arith, ap, inl, inr, subst, List, Contains, Buffer}
use Rattle.mscp_port.proofs.Settings.{settings_after}
use Rattle.mscp_port.proofs.port.Port.send.Goals as goal

pub returns-in-Ok-Queued-clause-settings : goal.returns-in-Ok-Queued-clause-settings
returns-in-Ok-Queued-clause-settings g c = search (arith, settings_after)

pub returns-in-Ok-Answered-clause-settings : goal.returns-in-Ok-Answered-clause-settings
returns-in-Ok-Answered-clause-settings g c =
    search (
      arith,
      settings_after,
      c.decide_answers.ensures.frame,
      c.heed.ensures.frame,
      c.hand_over.ensures.after,
      c.args.self.now.controller,
    )

pub returns-in-Ok-Queued-clause-queued : goal.returns-in-Ok-Queued-clause-queued
returns-in-Ok-Queued-clause-queued g c =
    search (arith, settings_after, c.keep.ensures.value, c.hand_over.ensures.after)

pub returns-in-Ok-Queued-clause-among : goal.returns-in-Ok-Queued-clause-among
returns-in-Ok-Queued-clause-among g c = λ b there. elim (c.keep.ensures.kept b there) [
  | inl before ↦ inl (subst (λ (bs : List Buffer). Contains bs b)
      (ap (λ p. p.buffers.items) c.hand_over.ensures.frame) before)
  | inr read ↦ inr read
]

pub returns-in-Ok-Answered-clause-among : goal.returns-in-Ok-Answered-clause-among
returns-in-Ok-Answered-clause-among g c = λ b there.
    inl (subst (λ (bs : List Buffer). Contains bs b)
    (ap (λ p. p.buffers.items) c.decide_answers.ensures.frame ∙ ap (λ p. p.buffers.items) c.heed.ensures.frame
    ∙ ap (λ p. p.buffers.items) c.hand_over.ensures.frame)
    (c.forget_aborted.ensures.left b there))
