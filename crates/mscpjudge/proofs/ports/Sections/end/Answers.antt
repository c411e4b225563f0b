use Rattle.mscpjudge.proofs.Common.{ap, arith, below_more, codes, length, length-set, part_by, sym, with_line, ◌<◌, ◌∙◌, ◌≢◌}
use Rattle.mscpjudge.proofs.Ported.{part_here, part_other, part_same}
use Rattle.mscpjudge.proofs.ports.Sections.end.Goals as goal

pub loop-place-preserved : goal.loop-place-preserved
loop-place-preserved c =
    let i = c.loop-place.invariant in
    let xs = c.loop-place.self.ports.items in
    let place = c.loop-place.place in
    let new = c.put.new.self in
    let within : place < length xs = omega arith in
    record {
      long = length-set xs place new ∙ i.long;
      fault = i.fault;
      done = below_more _ _
          (λ port h. let ne : port ≢ place = omega arith in part_other xs place port new ne ∙ i.done port h)
          (part_same xs place new within ∙ c.in_ok-put.ensures
          ∙ ap (λ l. with_line 1000001 l (part_by c.index_mut.result.now)) c.as_slice.ensures
          ∙ ap (with_line 1000001 (codes "?"))
          (sym (part_here xs place c.index_mut.result.now within c.index_mut.ensures.value)
          ∙ i.left place (omega arith)));
      left = λ port h.
          let ne : port ≢ place = omega arith in part_other xs place port new ne ∙ i.left port (omega arith);
    }
