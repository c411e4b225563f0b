use Rattle.mscp_port.proofs.Common.{refl, first, grow, more}
use Rattle.mscp_port.proofs.port.saving.put_volume.Goals as goal

pub returns-clause-items : goal.returns-clause-items
returns-clause-items c =
    let xs = c.args.out.now.items in
    let there = first xs _ _ c.put_flag.ensures.items refl in
    let locked = more xs _ _ _ there c.put_flag-2.ensures.items refl in
    let by_host = more xs _ _ _ locked c.put_flag-3.ensures.items refl in
    let news = more xs _ _ _ by_host c.put_flag-4.ensures.items refl in
    let removable = more xs _ _ _ news c.put_flag-5.ensures.items refl in
    let mounted = more xs _ _ _ removable c.put_flag-6.ensures.items refl in
    let changes = grow xs _ 4 _ c.args.volume.changes mounted c.put_four.ensures.items refl in
    let size = grow xs _ 4 _ c.args.volume.size changes c.put_four-2.ensures.items refl in
    grow xs _ 4 _ c.args.volume.media size c.put_four-3.ensures.items refl
