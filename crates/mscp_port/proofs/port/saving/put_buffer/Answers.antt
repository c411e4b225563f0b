use Rattle.mscp_port.proofs.Common.{refl, first, grow, more}
use Rattle.mscp_port.proofs.port.saving.put_buffer.Goals as goal

pub returns-clause-items : goal.returns-clause-items
returns-clause-items c =
    let xs = c.args.out.now.items in
    let reference = first xs _ _ c.put_four.ensures.items refl in
    let address = grow xs _ 4 _ c.args.buffer.address reference c.put_four-2.ensures.items refl in
    let count = grow xs _ 4 _ c.args.buffer.count address c.put_four-3.ensures.items refl in
    let modifiers = grow xs _ 2 _ c.args.buffer.modifiers count c.put_two.ensures.items refl in
    let flags = grow xs _ 2 _ c.args.buffer.flags modifiers c.put_two-2.ensures.items refl in
    let changes = grow xs _ 4 _ c.args.buffer.changes flags c.put_four-4.ensures.items refl in
    more xs _ _ _ changes c.push.ensures.items refl
