use Rattle.mscp_saved.proofs.Common.{ap, little_bytes}
use Rattle.mscp_saved.proofs.Bytes.{first, grow}
use Rattle.mscp_saved.proofs.writing.put_identifiers.Goals as goal

pub returns-clause-items : goal.returns-clause-items
returns-clause-items c =
    let xs = c.args.out.now.items in
    let a = first xs _ _ c.put_eight.ensures.items (ap (little_bytes 8) c.id.ensures) in
    let b = grow xs _ 4 _ c.args.unit.now.media a c.put_four.ensures.items c.media.ensures in
    grow xs _ 4 _ c.args.unit.now.serial b c.put_four-2.ensures.items c.serial.ensures
