use Rattle.mscp_saved.proofs.Common.{refl}
use Rattle.mscp_saved.proofs.Bytes.{first, grow, more}
use Rattle.mscp_saved.proofs.writing.put_settings.Goals as goal

pub returns-clause-items : goal.returns-clause-items
returns-clause-items c =
    let xs = c.args.out.now.items in
    let s = c.args.config.now in
    let a = first xs _ _ c.put_limits.ensures.items refl in
    let b = grow xs _ 2 _ s.timeout a c.put_two.ensures.items c.timeout.ensures.value in
    let d = more xs _ _ _ b c.put_one.ensures.items refl in
    grow xs _ 8 _ s.id (more xs _ _ _ d c.put_one-2.ensures.items refl) c.put_eight.ensures.items c.id.ensures.value
