use Rattle.mscp_port.proofs.Common.{ap, first, grow, little_bytes, refl}
use Rattle.mscp_port.proofs.leaving.put_unit.Goals as goal

pub returns-clause-items : goal.returns-clause-items
returns-clause-items c =
    let xs = c.args.out.now.items in
    let number = first xs _ _ c.put_two.ensures.items (ap (little_bytes 2) c.number.ensures) in
    let flags = grow xs _ 2 _ c.args.flags number c.put_two-2.ensures.items refl in
    let zero = grow xs _ 4 _ 0 flags c.put_four.ensures.items refl in
    let id = grow xs _ 8 _ c.args.unit.now.id zero c.put_eight.ensures.items c.id.ensures in
    grow xs _ 4 _ c.args.media id c.put_four-2.ensures.items refl
