use Rattle.mscpjudge.proofs.Common.{lines, subst, sym, time_of, ◌∙◌}
use Rattle.mscpjudge.proofs.Timed.{Past, not_some, past_all, past_more, past_none, past_same, put_here, put_other}
use Rattle.mscpjudge.proofs.times.times_of.Goals as goal

pub loop-line-init : goal.loop-line-init
loop-line-init c = record {
  past =
      past_none c.args.lines.now.number (lines c.args.lines.now.rest.now) (time_of c.none-times.result.lines)
      c.requires c.none-times.ensures.times;
  numbers = c.none-times.ensures.numbers;
}

pub loop-line-preserved-in_ok-insert : goal.loop-line-preserved-in_ok-insert
loop-line-preserved-in_ok-insert c = record {
  past =
      past_more c.loop-line.lines.number c.cut.new.self.number (lines c.args.lines.now.rest.now)
      (lines c.cut.new.self.rest.now) c.in-Some.line.now (time_of c.loop-line.times.lines) (time_of c.insert.new.self)
      c.in-Some.ensures.counted
      (subst (λ xs. Past c.loop-line.lines.number (lines c.args.lines.now.rest.now) xs
      (time_of c.loop-line.times.lines)) c.in-Some.ensures.line c.loop-line.invariant.past)
      (put_here (time_of c.loop-line.times.lines) (time_of c.insert.new.self) c.cut.new.self.number
      c.in-Some-line_time.time c.in_ok-insert.ensures.updates.0 ∙ sym c.in-Some-line_time.is ∙ c.line_time.ensures)
      (put_other (time_of c.loop-line.times.lines) (time_of c.insert.new.self) c.cut.new.self.number
      c.in-Some-line_time.time c.in_ok-insert.ensures.updates.0);
  numbers = c.loop-line.invariant.numbers;
}

pub loop-line-preserved : goal.loop-line-preserved
loop-line-preserved c = record {
  past =
      past_same c.loop-line.lines.number c.cut.new.self.number (lines c.args.lines.now.rest.now)
      (lines c.cut.new.self.rest.now) c.in-Some.line.now (time_of c.loop-line.times.lines) c.in-Some.ensures.counted
      (subst (λ xs. Past c.loop-line.lines.number (lines c.args.lines.now.rest.now) xs
      (time_of c.loop-line.times.lines)) c.in-Some.ensures.line c.loop-line.invariant.past)
      (sym (not_some c.line_time.result c.in_default-line_time.not-Some) ∙ c.line_time.ensures);
  numbers = c.loop-line.invariant.numbers;
}

pub returns-clause-times : goal.returns-clause-times
returns-clause-times c =
    past_all c.loop-line.lines.number (lines c.args.lines.now.rest.now) (time_of c.loop-line.times.lines)
    (subst (λ xs. Past c.loop-line.lines.number (lines c.args.lines.now.rest.now) xs (time_of c.loop-line.times.lines))
    c.in_default.ensures.line c.loop-line.invariant.past)
