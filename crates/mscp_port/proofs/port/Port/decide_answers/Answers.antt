use Rattle.mscp_port.proofs.Common.{End, First, Port, answer_of, ap, append-nil, arith, decided_answers, get_or, length, of, sym, ◌∙◌}
use Rattle.mscp_packet.specs.declared.end.EndBody.TheVariants as bodies
use Rattle.mscp_port.proofs.Deciding.{decided_all, decided_more}
use Rattle.mscp_port.proofs.port.Port.decide_answers.Goals as goal

abbrev no_end : End
no_end = record { reference = 0; unit = 0; code = 0; status = 0; body = bodies.Bare }

pub loop-place-init : goal.loop-place-init
loop-place-init g c = search (arith, append-nil)

pub bounds-ends-place : goal.bounds-ends-place
bounds-ends-place g c = search (
  arith,
  c.ends.ensures.value,
  c.ends-place-end.ensures.value,
  ap
      (λ p. of First p.controller.untaken) c.loop-place.invariant.frame,
)

pub push-requires : goal.push-requires
push-requires g c = search (arith, c.ends-place-end.ensures.few)

pub loop-place-preserved : goal.loop-place-preserved
loop-place-preserved g c =
    let old = c.args.self.now in
    let inv = c.loop-place.invariant in
    let ends = of First old.controller.untaken in
    let same = c.ends.ensures.value ∙ ap (λ (p : Port g.row.K.Denot). of First p.controller.untaken) inv.frame in
    record {
      frame = ap (λ (p : Port g.row.K.Denot). record p { decided = c.push.new.self }) inv.frame;
      from = search (arith, inv.from);
      items = decided_more (answer_of old) old.decided.items ends (length old.decided.items) c.loop-place.place no_end
          c.loop-place.self.decided.items c.push.new.self.items c.answer-decided.result inv.from
          (search (arith, c.ends-place-end.ensures.value)) inv.items c.push.ensures.items
          (c.answer-decided.ensures
          ∙ (ap (λ (p : Port g.row.K.Denot). answer_of p (get_or c.ends.result.now c.loop-place.place no_end)) inv.frame
          ∙ ap (λ es. answer_of old (get_or es c.loop-place.place no_end)) same));
      len = search (arith, inv.len, c.push.ensures.len);
    }

pub returns-clause-value : goal.returns-clause-value
returns-clause-value g c =
    let old = c.args.self.now in
    let inv = c.loop-place.invariant in
    decided_all (answer_of old) old.decided.items (of First old.controller.untaken) (length old.decided.items)
    c.loop-place.place c.loop-place.self.decided.items (search (arith, c.ends-place-end.ensures.value)) inv.items
    ∙ ap (λ (p : Port g.row.K.Denot). decided_answers old.decided.items p) (sym inv.frame)
