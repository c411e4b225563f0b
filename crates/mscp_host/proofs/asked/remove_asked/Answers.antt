use Rattle.mscp_host.proofs.Common.{ap, arith, is_of, position, sym, ◌∙◌}
use Rattle.mscp_host.proofs.Removed.{nowhere_by, removed_by}
use Rattle.mscp_host.proofs.asked.remove_asked.Goals as goal

pub returns-in-Some : goal.returns-in-Some
returns-in-Some c = search (arith, removed_by)

pub returns-in_default : goal.returns-in_default
returns-in_default c =
    sym (nowhere_by (is_of c.args.reference) c.args.asked.now.items
    (ap (position (is_of c.args.reference)) (sym c.as_slice.ensures.value)
    ∙ (sym c.place_of.ensures ∙ c.in_default.is)))
