use Rattle.mscp_wire.proofs.Common.{Err, Goes, Judges, None, Ok, [], ap, append_assoc, arith, broken_said, err_from_is_err_and, length, length-append, line_says, lines, nothing, refl, subst, sym, ◌++◌, ◌+◌, ◌∙◌, ◌∷◌, ◌≡◌}
use Rattle.mscp_wire.proofs.Meaning.{line_faults, lines_more, lines_none, right_more, right_none, zero_more}
use Rattle.mscp_wire.proofs.log.judge_lines.Goals as goal

pub loop-bytes-init : goal.loop-bytes-init
loop-bytes-init g c = record {
  before = [];
  log = nothing;
  whole = refl;
  counted = c.requires.first;
  told = lines_none nothing;
  right = right_none;
  after = c.new-reading.ensures.after;
  few = rw c.requires.first c.new-reading.ensures.few;
}

pub returns-in_err-wrong : goal.returns-in_err-wrong
returns-in_err-wrong g c =
    let i = c.loop-bytes.invariant in
    let p = err_from_is_err_and c.from_residual.result c.from_residual.ensures.1 in
    subst (λ r. Judges r c.args.lines.now.rest.now) (sym (p.1 ∙ ap (λ f. Err f) p.2))
    (line_faults c.in_err-wrong.field-0.0 c.args.lines.now.rest.now c.in-Some.bytes.now c.cut.new.self.number i.log
    c.line.new.self (record {
      before = i.before;
      rest = lines c.cut.new.self.rest.now;
      small = c.requires.small;
      whole = i.whole ∙ ap (λ ls. i.before ++ ls) c.in-Some.ensures.line;
      counted = c.in-Some.ensures.counted ∙ ap (λ k. k + 1) i.counted;
      tell = record { told = i.told; right = i.right };
    }) (c.in_err-wrong.ensures.after i.log i.after))

pub loop-bytes-preserved : goal.loop-bytes-preserved
loop-bytes-preserved g c =
    let i = c.loop-bytes.invariant in
    let line = c.in-Some.bytes.now in
    let number = c.cut.new.self.number in
    let goes = subst (λ r. Goes number i.log (line_says number line) (Ok r) c.line.new.self) c.in_default-2.is
    (c.in_ok-wrong.ensures.after i.log i.after) in
    let count = c.in-Some.ensures.counted ∙ ap (λ k. k + 1) i.counted in
    record {
      before = i.before ++ line ∷ [];
      log = goes.0;
      whole =
          i.whole ∙ ap (λ ls. i.before ++ ls) c.in-Some.ensures.line
          ∙ sym (append_assoc i.before (line ∷ []) (lines c.cut.new.self.rest.now));
      counted = omega (arith, count, length-append i.before (line ∷ []));
      told = lines_more i.before line number i.log goes.0 count i.told goes.1;
      right = right_more i.before line 0 nothing i.log i.right i.told
          (subst (λ k. broken_said i.log (line_says k line) ≡ None) (count ∙ zero_more (length i.before)) goes.3);
      after = goes.2;
      few = c.in_ok-wrong.ensures.few;
    }
