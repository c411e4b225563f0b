use Rattle.mscp_port.proofs.Common.{◌+◌, ◌-◌, ◌++◌, length, ap, ◌∙◌, arith, flat_map, front_in, decided_bytes, buffer_bytes, frame_bytes, hand_bytes, outgoing_text, state_bytes, volume_bytes}
use Rattle.mscp_port.proofs.Formed.{text_told, total_is}
use Rattle.mscp_port.proofs.port.restoring.front.save_front.Goals as goal

pub overflow_cast-total : goal.overflow_cast-total
overflow_cast-total c = search (arith, text_told)

pub returns : goal.returns
returns c =
    let b = c.args.b.now in
    let p = front_in b in
    let text = c.text_of-text.ensures.value ∙ ap outgoing_text c.outgoing_of-outgoing.ensures in
    let total = (λ i. length (text i) + (length b - c.from.ensures i)) ∙ total_is b c.requires.framed in
    let head = c.put_told_hand.ensures.items
    ∙ ap (λ l. l ++ hand_bytes p) (c.put_told_state.ensures.items
    ∙ ap (λ l. l ++ state_bytes p) (c.put_frame.ensures.items ∙ ap frame_bytes total)) in
    let volumes = c.put_volumes.ensures.items ∙ λ i. head i ++ flat_map volume_bytes (c.volumes_of.ensures i) in
    let said = c.put.ensures.items ∙ λ i. volumes i ++ text i in
    let kept = c.put_buffers.ensures.items
    ∙ λ i. said i ++ flat_map buffer_bytes ((c.as_slice.ensures.value ∙ c.buffers_of.ensures) i) in
    c.put_all_decided.ensures.items
    ∙ λ i. kept i ++ flat_map decided_bytes ((c.as_slice-2.ensures.value ∙ c.all_decided_of.ensures) i)
