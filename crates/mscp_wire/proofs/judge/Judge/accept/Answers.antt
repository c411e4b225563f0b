use Rattle.mscp_wire.proofs.Common.{IfOk-equal, [], ap, asking, sent_by, sents, timed, ◌++◌, ◌∙◌, ◌∷◌}
use Rattle.mscp_wire.proofs.Hearing.{on_ok}
use Rattle.mscp_wire.proofs.judge.Judge.accept.Goals as goal

pub returns-in-Message-clause-after : goal.returns-in-Message-clause-after
returns-in-Message-clause-after g c =
    let j = c.args.self.now in
    rw c.in-Message.is (IfOk-equal c.hear.result _ _ _ c.hear.ensures.after
    (ap (λ s. sents j.commands ++ asking j.timeout (sents j.commands) (timed c.in-Message.time s) ∷ [])
    (c.of-sent.ensures ∙ ap (sent_by c.in-Message.connection) c.as_slice.ensures.value)))

pub returns-in-Message-clause-units : goal.returns-in-Message-clause-units
returns-in-Message-clause-units g c =
    rw c.in-Message.is (rw (c.of-sent.ensures, c.as_slice.ensures.value) at c.hear.ensures.units)

pub returns-in-Message-clause-called : goal.returns-in-Message-clause-called
returns-in-Message-clause-called g c = rw c.in-Message.is (on_ok c.hear.result c.hear.ensures.called)

pub returns-in-Message-clause-controller : goal.returns-in-Message-clause-controller
returns-in-Message-clause-controller g c = rw c.in-Message.is (on_ok c.hear.result c.hear.ensures.controller)

pub returns-in-Message-clause-timeout : goal.returns-in-Message-clause-timeout
returns-in-Message-clause-timeout g c = rw c.in-Message.is (on_ok c.hear.result c.hear.ensures.timeout)

pub returns-in-End-clause-after : goal.returns-in-End-clause-after
returns-in-End-clause-after g c =
    rw c.in-End.is
    (rw (c.cell_of-at.ensures.place, c.of-answer.ensures, c.as_slice-in-End.ensures.value) at c.ended.ensures.after)

pub returns-in-End-clause-units : goal.returns-in-End-clause-units
returns-in-End-clause-units g c =
    rw c.in-End.is
    (rw (
      c.settles-settled.ensures,
      c.cell_of-at.ensures.place,
      c.of-answer.ensures,
      c.as_slice-in-End.ensures.value,
    ) at c.ended.ensures.units)

pub returns-in-End-clause-called : goal.returns-in-End-clause-called
returns-in-End-clause-called g c =
    rw c.in-End.is (rw (c.of-answer.ensures, c.as_slice-in-End.ensures.value) at c.ended.ensures.called)

pub returns-in-End-clause-controller : goal.returns-in-End-clause-controller
returns-in-End-clause-controller g c =
    rw c.in-End.is (rw (c.of-answer.ensures, c.as_slice-in-End.ensures.value) at c.ended.ensures.controller)

pub returns-in-End-clause-timeout : goal.returns-in-End-clause-timeout
returns-in-End-clause-timeout g c =
    rw c.in-End.is (rw (c.of-answer.ensures, c.as_slice-in-End.ensures.value) at c.ended.ensures.timeout)
