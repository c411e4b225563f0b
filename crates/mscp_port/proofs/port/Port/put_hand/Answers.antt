use Rattle.mscp_port.proofs.Common.{List, ℕ, ◌∷◌, [], length, refl, ap, first, grow, more, coded_bytes}
use Rattle.mscp_port.proofs.port.Port.put_hand.Goals as goal

pub returns-clause-items : goal.returns-clause-items
returns-clause-items g c =
    let xs = c.args.out.now.items in
    let stage = first xs _ _ c.put_stage.ensures.items refl in
    let written = more xs _ _ _ stage c.put_written.ensures.items refl in
    let rings = more xs _ _ _ written c.put_rings.ensures.items refl in
    let task = more xs _ _ _ rings c.put_coded.ensures.items (ap coded_bytes c.coded_task.ensures.value) in
    let kind = more xs _ _ _ task c.push.ensures.items (ap (λ n. n ∷ []) c.outgoing_byte.ensures) in
    let text = more xs _ _ _ kind c.push-2.ensures.items
    (ap (λ (l : List ℕ). length l ∷ []) c.text_of.ensures.value) in
    let buffers = more xs _ _ _ text c.push-3.ensures.items (ap (λ n. n ∷ []) c.len.ensures.value) in
    let decided = more xs _ _ _ buffers c.push-4.ensures.items (ap (λ n. n ∷ []) c.len-2.ensures.value) in
    grow xs _ 8 _ c.args.self.now.serial decided c.put_eight.ensures.items refl
