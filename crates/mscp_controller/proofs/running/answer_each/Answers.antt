use Rattle.mscp_controller.proofs.Common.{◌+◌, ap, ◌∙◌, arith}
use Rattle.mscp_controller.proofs.Bridge.Answering.{goes_more}
use Rattle.mscp_controller.proofs.running.answer_each.Goals as goal

pub loop-event-preserved : goal.loop-event-preserved
loop-event-preserved g c =
    let inv = c.loop-event.invariant in
    record {
      goes =
          goes_more g.K.Picker.picks c.args.controller.now c.loop-event.controller c.answer.new.self c.args.events.now
          c.loop-event.event-index c.loop-event.entries.items c.push_reserved.new.self.items c.event-item.result
          c.answer.result (omega arith) c.event-item.is inv.goes c.answer.ensures c.push_reserved.ensures.items;
      len = c.push_reserved.ensures.len ∙ ap (λ n. n + 1) inv.len;
      room = c.push_reserved.ensures.capacity ∙ inv.room;
    }
