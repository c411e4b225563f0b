use Rattle.mscp_sim.proofs.Common.{ap, subst}
use Rattle.mscp_sim.proofs.TwoEnds.Talking.{GoesTo, kept}
use Rattle.mscp_sim.proofs.TwoEnds.Talked.{match_new, two_ends}
use Rattle.mscp_sim.proofs.conversing.converse_in.Goals as goal

pub hear_each-requires-clause-both : goal.hear_each-requires-clause-both
hear_each-requires-clause-both g c =
    rw (c.new-hosts.ensures, c.new-controller.ensures.fresh) (match_new c.args.config c.args.picker)

pub returns-clause-talk : goal.returns-clause-talk
returns-clause-talk g c =
    let picker = ap (λ h. h.picker) c.new-controller.ensures.fresh in
    let old = kept c.new-hosts.result c.new-controller.result
    (record { heard = c.in_ok-with_capacity.field-0; trace = c.in_ok-with_capacity-2.field-0 }) in
    let new = kept c.hear_each.new.hosts c.hear_each.new.controller c.hear_each.new.talk in
    two_ends c.args.config (g.K.Picker.picks c.args.picker) c.args.picker old new c.args.turns.now
    c.new-controller.ensures.valid c.runs_keep_the_promise.ensures c.controllers_keep_the_promise.ensures (record {
      hosts = c.new-hosts.ensures;
      controller = c.new-controller.ensures.fresh;
      heard = c.in_ok-with_capacity.ensures.items;
      trace = c.in_ok-with_capacity-2.ensures.items;
    }) (subst (λ k. GoesTo (g.K.Picker.picks k) old c.args.turns.now new) {y = c.args.picker} picker
    c.hear_each.ensures)
