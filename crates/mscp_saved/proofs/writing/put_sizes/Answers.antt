use Rattle.mscp_saved.proofs.Common.{ap, little_bytes}
use Rattle.mscp_saved.proofs.Bytes.{first, grow}
use Rattle.mscp_saved.proofs.writing.put_sizes.Goals as goal

pub returns-clause-items : goal.returns-clause-items
returns-clause-items c =
    let xs = c.args.out.now.items in
    let u = c.args.unit.now in
    let a = first xs _ _ c.put_two.ensures.items (ap (little_bytes 2) c.number.ensures) in
    let b = grow xs _ 2 _ u.track a c.put_two-2.ensures.items c.track.ensures.value in
    let d = grow xs _ 2 _ u.group b c.put_two-3.ensures.items c.group.ensures.value in
    let e = grow xs _ 2 _ u.cylinder d c.put_two-4.ensures.items c.cylinder_size.ensures.value in
    grow xs _ 4 _ u.size e c.put_four.ensures.items c.size.ensures.value
