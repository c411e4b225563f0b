use Rattle.mscp_port.proofs.Common.{refl, ap, num, first, grow, more, hardware_bytes, words_bytes}
use Rattle.mscp_port.proofs.port.restoring.front.put_told_state.Goals as goal

pub returns-clause-items : goal.returns-clause-items
returns-clause-items c =
    let xs = c.args.out.now.items in
    let b = c.args.b.now in
    let hardware = first xs _ _ c.put_hardware.ensures.items (ap hardware_bytes c.hardware_in.ensures) in
    let counts = more xs _ _ _ hardware c.put_told_counts.ensures.items refl in
    let flags = grow xs _ 2 _ (num b 24 2) counts c.put_two.ensures.items c.two_at.ensures in
    let timeout = grow xs _ 2 _ (num b 26 2) flags c.put_two-2.ensures.items c.two_at-2.ensures in
    let rest = grow xs _ 2 _ (num b 28 2) timeout c.put_two-3.ensures.items c.two_at-3.ensures in
    more xs _ _ _ rest c.put_words.ensures.items (ap words_bytes c.words_in.ensures)
