use Rattle.mscp_saved.proofs.Common.{◌∙◌, ap, sym, [], is_some, true≢false, IsUnitList, settings_in}
use Rattle.mscp_saved.proofs.Configured.{limits_told, no_fault, no_limits, no_units, none_of}
use Rattle.mscp_saved.proofs.restoring.settings_fault.Goals as goal

pub returns-then-is_some : goal.returns-then-is_some
returns-then-is_some c = no_units (record (settings_in c.args.b.now []) { units = c.args.units.now }) (λ units.
    true≢false (sym c.if-is_some.true ∙ (c.is_some.ensures ∙ ap is_some (c.fault.ensures.none.1 units))))

pub returns-then-is_some-2 : goal.returns-then-is_some-2
returns-then-is_some-2 c =
    let us = c.args.units.now in
    let units : IsUnitList us = c.fault.ensures.none.0 (none_of (sym c.is_some.ensures ∙ c.if-is_some.false)) in
    let told = limits_told c.args.b.now us c.four_at-credits.ensures c.four_at-second.ensures
    (c.from-budget.ensures ∙ c.four_at.ensures) c.four_at-longest.ensures c.two_at.ensures in
    no_limits (record (settings_in c.args.b.now []) { units = us }) units
    (sym (ap is_some (c.fault-2.ensures ∙ told)) ∙ (sym c.is_some-2.ensures ∙ c.if-is_some-2.true))

pub returns : goal.returns
returns c =
    let us = c.args.units.now in
    let units : IsUnitList us = c.fault.ensures.none.0 (none_of (sym c.is_some.ensures ∙ c.if-is_some.false)) in
    let told = limits_told c.args.b.now us c.four_at-credits.ensures c.four_at-second.ensures
    (c.from-budget.ensures ∙ c.four_at.ensures) c.four_at-longest.ensures c.two_at.ensures in
    no_fault (record (settings_in c.args.b.now []) { units = us }) units
    (sym (ap is_some (c.fault-2.ensures ∙ told)) ∙ (sym c.is_some-2.ensures ∙ c.if-is_some-2.false))
