use Rattle.mscp_port.proofs.Common.{ℕ, List, ◌∷◌, [], drop, length, sym, ap, ◌∙◌, first, grow, more, num, parts_long, coded_task, task_in, decided_count, decided_in, decided_place, buffer_count, buffer_in, buffer_place, coded_bytes, outgoing_byte, outgoing_text, rings_bytes, stage_bytes, written_bytes}
use Rattle.mscp_port.proofs.port.restoring.front.put_told_hand.Goals as goal

pub returns-clause-items : goal.returns-clause-items
returns-clause-items c =
    let xs = c.args.out.now.items in
    let b = c.args.b.now in
    let stage = first xs _ _ c.put_stage.ensures.items (ap stage_bytes c.stage_of.ensures) in
    let written = more xs _ _ _ stage c.put_written.ensures.items (ap written_bytes c.written_in.ensures) in
    let rings = more xs _ _ _ written c.put_rings.ensures.items (ap rings_bytes c.rings_in.ensures) in
    let task = more xs _ _ _ rings c.put_coded.ensures.items
    (ap coded_bytes (c.coded_task.ensures.value ∙ ap coded_task (c.task_in.ensures ∙ ap task_in c.coded_in.ensures))) in
    let kind = more xs _ _ _ task c.push.ensures.items
    (ap (λ (n : ℕ). n ∷ []) (c.outgoing_byte.ensures ∙ ap outgoing_byte c.requires.told)) in
    let text = more xs _ _ _ kind c.push-2.ensures.items
    (ap (λ (l : List ℕ). length l ∷ []) (c.text_of.ensures.value ∙ ap outgoing_text c.requires.told)) in
    let buffers = more xs _ _ _ text c.push-3.ensures.items
    (ap (λ (n : ℕ). n ∷ []) (sym (parts_long buffer_in 21 (buffer_count b) (drop (buffer_place b) b)))) in
    let decided = more xs _ _ _ buffers c.push-4.ensures.items
    (ap (λ (n : ℕ). n ∷ []) (sym (parts_long decided_in 13 (decided_count b) (drop (decided_place b) b)))) in
    grow xs _ 8 _ (num b 74 8) decided c.put_eight.ensures.items c.eight_at.ensures
