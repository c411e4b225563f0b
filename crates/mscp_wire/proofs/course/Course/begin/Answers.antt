use Rattle.mscp_wire.proofs.Common.{[], append-nil, sym, true, ◌∙◌}
use Rattle.mscp_wire.proofs.Going.{begun_first}
use Rattle.mscp_wire.proofs.Starting.{begun_kept, first_by}
use Rattle.mscp_wire.proofs.course.Course.begin.Goals as goal

pub returns : goal.returns
returns g c = λ f s.
    let fresh = sym s.fresh ∙ c.if-not-self.false in (
      record f { log = record f.log { begun = true; strangers = [] } },
      begun_first c.args.number f
          (first_by f.log c.args.self.now.middle c.is_some.result s.middle c.is_some.ensures c.if-is_some.false fresh),
      record {
        credits = s.credits;
        commands = s.commands;
        units = s.units;
        controller = s.controller;
        timeout = s.timeout;
        called = s.called;
        fresh = s.fresh;
        mentions = s.mentions;
        middle = begun_kept f.log c.new.result fresh c.new.ensures;
      },
      sym (append-nil f.found),
    )
