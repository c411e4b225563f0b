use Rattle.std.proofs.Common.{◌∙◌, ap, if◌then◌else◌, refl, true, [], Ok, Err}
use Rattle.mscp_reader.specs.declared.fault.Cause.TheVariants as causes
use Rattle.mscp_wire.proofs.Doubting.{doubts_same}
use Rattle.mscp_wire.proofs.Starting.{begun_kept, first_by, fresh_by, no_moments}
use Rattle.mscp_wire.proofs.reading.Reading.begin.Goals as goal

pub returns-clause-after : goal.returns-clause-after
returns-clause-after g c = λ log s.
    let next = record log { begun = true; strangers = [] } in
    let fresh = fresh_by log c.args.self.now.judge.credits c.is_some-else-is_some.result c.args.self.now.totals
    s.credits c.is_some-else-is_some.ensures c.if-is_some-2.false s.totals c.if-self-ne0.false in
    let none = no_moments log fresh in (
      next,
      ap (λ b. if b then Ok next else Err causes.Word)
          (first_by log c.args.self.now.middle c.is_some.result s.middle c.is_some.ensures c.if-is_some.false fresh),
      record {
        credits = s.credits;
        commands = s.commands;
        units = s.units;
        controller = s.controller;
        timeout = s.timeout;
        called = s.called;
        totals = s.totals;
        doubts = s.doubts ∙ doubts_same log next none none;
        lines = s.lines;
        middle = begun_kept log c.new.result fresh c.new.ensures;
      },
      refl,
    )
