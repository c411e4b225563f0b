use Rattle.mscp_port.proofs.Common.{refl, first, grow, more}
use Rattle.mscp_port.proofs.port.Port.put_state.Goals as goal

pub returns-clause-items : goal.returns-clause-items
returns-clause-items g c =
    let xs = c.args.out.now.items in
    let p = c.args.self.now in
    let hardware = first xs _ _ c.put_hardware.ensures.items refl in
    let counts = more xs _ _ _ hardware c.put_counts.ensures.items refl in
    let flags = grow xs _ 2 _ p.flags counts c.put_two.ensures.items refl in
    let timeout = grow xs _ 2 _ p.timeout flags c.put_two-2.ensures.items refl in
    let rest = grow xs _ 2 _ p.left timeout c.put_two-3.ensures.items refl in
    more xs _ _ _ rest c.put_words.ensures.items refl
