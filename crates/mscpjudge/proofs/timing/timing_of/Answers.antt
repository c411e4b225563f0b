use Rattle.mscpjudge.proofs.Common.{IsTimed, after_lines, after_said, ap, line_says, line_time, lines, subst, sym, ◌∙◌}
use Rattle.mscpjudge.proofs.Timed.{timed_more, timed_none}
use Rattle.mscpjudge.proofs.timing.timing_of.Goals as goal

pub loop-line-preserved : goal.loop-line-preserved
loop-line-preserved c =
    let i = c.loop-line.invariant in
    let place = c.cut.new.self.number in
    let line = c.in-Some.line.now in
    record {
      t = after_said place (line_time place line) i.t (line_says place line);
      timed =
          subst (λ x. IsTimed (after_said place x i.t (line_says place line)) c.hear_said.new.timing)
          c.line_time-time.ensures
          (c.in_ok-hear_said.ensures.timed i.t (line_says place line) i.timed c.line_says-said.ensures);
      hasty = c.in_ok-hear_said.ensures.hasty;
      read =
          i.read ∙ ap (after_lines c.loop-line.lines.number i.t) c.in-Some.ensures.line
          ∙ timed_more c.loop-line.lines.number place i.t line (lines c.cut.new.self.rest.now)
          c.in-Some.ensures.counted;
    }

pub returns : goal.returns
returns c =
    let i = c.loop-line.invariant in
    subst (λ x. IsTimed x c.loop-line.timing)
    (sym (i.read ∙ ap (after_lines c.loop-line.lines.number i.t) c.in_default.ensures.line
    ∙ timed_none c.loop-line.lines.number i.t)) i.timed
