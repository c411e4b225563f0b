use Rattle.mscp_saved.proofs.Common.{ap, little_bytes}
use Rattle.mscp_saved.proofs.Bytes.{first, grow}
use Rattle.mscp_saved.proofs.writing.put_limits.Goals as goal

pub returns-clause-items : goal.returns-clause-items
returns-clause-items c =
    let xs = c.args.out.now.items in
    let s = c.args.config.now in
    let a = first xs _ _ c.put_four.ensures.items (ap (little_bytes 4) c.credits.ensures.value) in
    let b = grow xs _ 4 _ s.second a c.put_four-2.ensures.items c.second.ensures.value in
    let d = grow xs _ 4 _ s.budget b c.put_four-3.ensures.items c.budget.ensures.value in
    grow xs _ 4 _ s.longest d c.put_four-4.ensures.items c.longest.ensures.value
