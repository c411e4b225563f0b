use Rattle.mscp_port.proofs.Common.{All, ◌≡◌, ℕ, ◌+◌, ◌*◌, ◌≤◌, ◌++◌, List, length, ap, sym, subst, ◌∙◌, rules, flat_map, controller_restored, Buffer, Decided, restored, HasDecidedRange, HasBufferRange, HasRange, decided_bytes, buffer_bytes, frame_bytes, hand_bytes, length_of, state_bytes, volume_bytes}
use Rattle.mscp_port.proofs.Back.{restored_back}
use Rattle.mscp_port.proofs.port.Port.save.Goals as goal

pub returns-clause-bytes : goal.returns-clause-bytes
returns-clause-bytes g c =
    let p = c.args.self.now in
    let controller = c.save-controller.ensures.bytes in
    let text = c.text_of-text.ensures.value in
    let buffers = c.as_slice-buffers.ensures.value in
    let decided = c.as_slice-decided.ensures.value in
    let total : 370 + length c.text_of-text.result.now + 21 * length c.as_slice-buffers.result.now
    + 13 * length c.as_slice-decided.result.now + c.len.result
    ≡ length_of c.args.number p =
    λ i. 370 + length (text i) + 21 * length (buffers i) + 13 * length (decided i)
    + (c.len.ensures.value ∙ ap (λ (l : List ℕ). length l) controller) i in
    let head = c.put_hand.ensures.items
    ∙ ap (λ l. l ++ hand_bytes p) (c.put_state.ensures.items
    ∙ ap (λ l. l ++ state_bytes p) (c.put_frame.ensures.items ∙ ap frame_bytes total)) in
    let volumes = c.put_volumes.ensures.items ∙ ap (λ l. l ++ flat_map volume_bytes p.volumes) head in
    let said = c.put.ensures.items ∙ λ i. volumes i ++ text i in
    let kept = c.put_buffers.ensures.items ∙ λ i. said i ++ flat_map buffer_bytes (buffers i) in
    let ends = c.put_all_decided.ensures.items ∙ λ i. kept i ++ flat_map decided_bytes (decided i) in
    c.put-2.ensures.items ∙ λ i. ends i ++ (c.as_slice.ensures.value ∙ controller) i

pub returns-clause-back : goal.returns-clause-back
returns-clause-back g c =
    let p = c.args.self.now in
    let picker = p.controller.picker in
    let bytes = c.save-controller.ensures.bytes in
    let range : HasRange p = record {
      state = c.put_state.ensures.range;
      hand = c.put_hand.ensures.range;
      volumes = c.put_volumes.ensures.range;
      sixteen = search rules;
      buffers = subst (All HasBufferRange) c.as_slice-buffers.ensures.value c.put_buffers.ensures.range;
      few = subst (λ (bs : List Buffer). length bs ≤ 64) c.as_slice-buffers.ensures.value
          c.as_slice-buffers.ensures.fits;
      decided = subst (All HasDecidedRange) c.as_slice-decided.ensures.value c.put_all_decided.ensures.range;
      few_decided = subst (λ (bs : List Decided). length bs ≤ 64) c.as_slice-decided.ensures.value
          c.as_slice-decided.ensures.fits;
      short = subst (λ (l : List ℕ). length l ≤ 48) c.text_of-text.ensures.value c.text_of-text.ensures.short;
    } in
    let fits = subst (λ (l : List ℕ). length l ≤ 3664) (c.as_slice.ensures.value ∙ bytes) c.as_slice.ensures.fits in
    ap (restored c.args.number picker) (returns-clause-bytes g c)
    ∙ restored_back c.args.number p range fits
    (sym (ap (controller_restored c.args.number picker) bytes) ∙ c.save-controller.ensures.back)
