use Rattle.mscp_wire.proofs.Common.{ap, spared, sym, ◌∙◌}
use Rattle.mscp_wire.proofs.Sparing.{outstanding_is, spared_strange}
use Rattle.mscp_wire.proofs.course.Course.spare.Goals as goal

pub returns-then-is_outstanding : goal.returns-then-is_outstanding
returns-then-is_outstanding g c = λ log mentions s broken spares.
    let m = c.args.moment.now in
    let rule = outstanding_is c.args.rule (sym c.is_outstanding.ensures ∙ c.if-is_outstanding.true) in
    rw (spared_strange log m c.args.rule c.is_outstanding.result broken spares c.is_outstanding.ensures
    ∙ c.if-is_outstanding.true) (record {
      credits = s.credits;
      commands = s.commands;
      units = s.units;
      controller = s.controller;
      timeout = s.timeout;
      called = s.called;
      fresh = s.fresh;
      mentions = s.mentions;
      middle = c.in_ok-hear_stranger.ensures log s.middle (ap (spared log m) (sym rule) ∙ spares);
    })

pub returns : goal.returns
returns g c = λ log mentions s broken spares.
    rw (spared_strange log c.args.moment.now c.args.rule c.is_outstanding.result broken spares
    c.is_outstanding.ensures ∙ c.if-is_outstanding.false) (c.count.ensures log mentions s)
