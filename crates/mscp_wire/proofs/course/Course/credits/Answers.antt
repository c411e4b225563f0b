use Rattle.mscp_wire.proofs.Common.{Some, append-nil, refl, sym}
use Rattle.mscp_wire.proofs.Going.{credits_first}
use Rattle.mscp_wire.proofs.course.Course.credits.Goals as goal

pub returns : goal.returns
returns g c = λ f s. (
  record f { log = record f.log { credits = Some c.args.credits } },
  credits_first c.args.number c.args.credits f _ s.fresh c.if-not-self.false,
  record {
    credits = refl;
    commands = s.commands;
    units = s.units;
    controller = s.controller;
    timeout = s.timeout;
    called = s.called;
    fresh = refl;
    mentions = s.mentions;
    middle = s.middle;
  },
  sym (append-nil f.found),
)
