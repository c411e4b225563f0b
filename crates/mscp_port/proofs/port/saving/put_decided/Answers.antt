use Rattle.mscp_port.proofs.Common.{refl, first, grow, more}
use Rattle.mscp_port.proofs.port.saving.put_decided.Goals as goal

pub returns-clause-items : goal.returns-clause-items
returns-clause-items c =
    let xs = c.args.out.now.items in
    let status = first xs _ _ c.put_two.ensures.items refl in
    let flags = grow xs _ 2 _ c.args.decided.flags status c.put_two-2.ensures.items refl in
    let media = grow xs _ 4 _ c.args.decided.media flags c.put_four.ensures.items refl in
    let size = grow xs _ 4 _ c.args.decided.size media c.put_four-2.ensures.items refl in
    more xs _ _ _ size c.push.ensures.items refl
