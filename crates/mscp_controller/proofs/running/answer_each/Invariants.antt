use Rattle.mscp_controller.proofs.Common.{◌≡◌, vec_capacity, vec_len}
use Rattle.mscp_controller.proofs.Bridge.Answering.{Goes}
use Rattle.mscp_controller.proofs.running.answer_each.Given as goal

abbrev pub invariant-loop-event : goal.invariant-loop-event
invariant-loop-event g l = record {
  goes : Goes
      (g.K.Picker.picks l.fn.controller.picker) l.fn.controller l.controller l.events l.event-index l.entries.items;
  len : vec_len l.entries ≡ l.event-index;
  room : vec_capacity l.entries ≡ vec_capacity l.fn.entries;
}
