use Rattle.mscp_host.proofs.Common.{arith, ap, sym, ◌∙◌, position, has_reference}
use Rattle.mscp_host.proofs.Places.{nowhere, removed_at}
use Rattle.mscp_host.proofs.outstanding.remove.Goals as goal

pub returns-in-Some-clause-after : goal.returns-in-Some-clause-after
returns-in-Some-clause-after c = search (arith, removed_at)

pub returns-in_default-clause-after : goal.returns-in_default-clause-after
returns-in_default-clause-after c =
    sym (nowhere c.args.reference 0 c.args.submissions.now.items
    (ap (position (has_reference c.args.reference)) (sym c.as_slice.ensures.value)
    ∙ (sym c.place_of.ensures ∙ c.in_default.is))).1
