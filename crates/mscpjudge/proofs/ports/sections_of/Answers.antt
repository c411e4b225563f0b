use Rattle.mscpjudge.proofs.Common.{ap, arith, fault_after, fault_in, first_fault, length, line_kind, lines, part_after, part_at, part_end, part_in, port_after, sym, ◌∙◌, ◌≡◌}
use Rattle.mscpjudge.proofs.Ported.{fault_more, fault_none, first_more, first_none, part_more, part_none}
use Rattle.mscpjudge.proofs.ports.sections_of.Goals as goal

pub loop-line-preserved : goal.loop-line-preserved
loop-line-preserved c =
    let i = c.loop-line.invariant in
    let n = c.loop-line.lines.number in
    let place = c.cut.new.self.number in
    let at = c.loop-line.at in
    let line = c.in-Some.line.now in
    let rest = lines c.cut.new.self.rest.now in
    let kind = c.quick_kind-kind.result in
    record {
      long = c.in_ok-line.ensures.long ∙ i.long;
      parts = λ port h.
          i.parts port h
          ∙ ap (part_in port n at (part_at c.loop-line.sections.ports.items port)) c.in-Some.ensures.line
          ∙ part_more port n place at (part_at c.loop-line.sections.ports.items port) line rest
          c.in-Some.ensures.counted
          ∙ ap (λ k. part_in port place (port_after at k)
          (part_after port at place k line (part_at c.loop-line.sections.ports.items port)) rest)
          (sym c.quick_kind-kind.ensures)
          ∙ ap (λ a. part_in port place a
          (part_after port at place kind line (part_at c.loop-line.sections.ports.items port)) rest)
          (sym c.port_after-at.ensures)
          ∙ ap (λ p. part_in port place c.port_after-at.result p rest)
          (sym (c.in_ok-line.ensures.parts port (omega (arith, i.long))));
      fault =
          i.fault
          ∙ ap (λ xs. first_fault c.loop-line.sections.fault (fault_in n xs)) c.in-Some.ensures.line
          ∙ ap (first_fault c.loop-line.sections.fault) (fault_more n place line rest c.in-Some.ensures.counted)
          ∙ first_more c.loop-line.sections.fault place (line_kind place line) (fault_in place rest)
          ∙ ap (λ f. first_fault f (fault_in place rest)) (sym (c.in_ok-line.ensures.fault
          ∙ ap (λ k. fault_after c.loop-line.sections.fault place k) c.quick_kind-kind.ensures));
      count = omega (arith, i.count, c.in-Some.ensures.counted, ap length c.in-Some.ensures.line);
    }

pub returns : goal.returns
returns c =
    let i = c.loop-line.invariant in
    let n = c.loop-line.lines.number in
    let at = c.loop-line.at in
    let none = c.in_default.ensures.line in
    let count : c.cut.new.self.number ≡ length (lines c.args.log.now) =
    omega (arith, i.count, ap length none, c.in_default.ensures.counted) in
    record {
      long = c.in_ok-close.ensures.long ∙ i.long;
      parts = λ port h.
          c.in_ok-close.ensures.parts port (omega (arith, i.long))
          ∙ ap (λ k. part_end k (part_at c.loop-line.sections.ports.items port)) count
          ∙ ap (part_end (length (lines c.args.log.now))) (sym (i.parts port h
          ∙ ap (part_in port n at (part_at c.loop-line.sections.ports.items port)) none
          ∙ part_none port n at (part_at c.loop-line.sections.ports.items port)));
      fault =
          c.in_ok-close.ensures.fault ∙ sym (i.fault
          ∙ ap (λ xs. first_fault c.loop-line.sections.fault (fault_in n xs)) none
          ∙ ap (first_fault c.loop-line.sections.fault) (fault_none n) ∙ first_none c.loop-line.sections.fault);
    }
