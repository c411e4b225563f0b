use Rattle.mscp_port.proofs.Common.{refl, first, grow, more}
use Rattle.mscp_port.proofs.port.saving.put_coded.Goals as goal

pub returns-clause-items : goal.returns-clause-items
returns-clause-items c =
    let xs = c.args.out.now.items in
    let coded = c.args.coded in
    let task = first xs _ _ c.push.ensures.items refl in
    let whom = more xs _ _ _ task c.push-2.ensures.items refl in
    let one = grow xs _ 4 _ coded.first whom c.put_four.ensures.items refl in
    let two = grow xs _ 4 _ coded.second one c.put_four-2.ensures.items refl in
    let three = grow xs _ 4 _ 0 two c.put_four-3.ensures.items refl in
    let four = grow xs _ 2 _ coded.two three c.put_two.ensures.items refl in
    more xs _ _ _ four c.push-3.ensures.items refl
