use Rattle.std.proofs.Common.{◌∙◌, refl, Some}
use Rattle.mscp_wire.proofs.Doubting.{doubts_same}
use Rattle.mscp_wire.proofs.Starting.{fresh_by, no_moments}
use Rattle.mscp_wire.proofs.Passing.{credits_told}
use Rattle.mscp_wire.proofs.reading.Reading.credits.Goals as goal

pub returns-clause-after : goal.returns-clause-after
returns-clause-after g c = λ log s.
    let next = record log { credits = Some c.args.credits } in
    let none = no_moments log (fresh_by log c.args.self.now.judge.credits c.is_some.result c.args.self.now.totals
    s.credits c.is_some.ensures c.if-is_some.false s.totals c.if-self-ne0.false) in (
      record log { credits = Some c.args.credits },
      credits_told c.args.number c.args.credits log _ _ _ s.credits c.is_some.ensures c.if-is_some.false s.totals
          c.if-self-ne0.false,
      record {
        credits = refl;
        commands = s.commands;
        units = s.units;
        controller = s.controller;
        timeout = s.timeout;
        called = s.called;
        totals = s.totals;
        doubts = s.doubts ∙ doubts_same log next none none;
        lines = s.lines;
        middle = s.middle;
      },
      refl,
    )
