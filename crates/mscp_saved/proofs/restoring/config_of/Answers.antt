use Rattle.mscp_saved.proofs.Common.{◌∙◌, [], settings_in}
use Rattle.mscp_saved.proofs.Configured.{limits_good, limits_told, units_good}
use Rattle.mscp_saved.proofs.restoring.config_of.Goals as goal

pub of-requires : goal.of-requires
of-requires c = units_good (record (settings_in c.args.b.now []) { units = c.args.units.items }) c.requires.none

pub of-requires-2 : goal.of-requires-2
of-requires-2 c =
    limits_told c.args.b.now c.args.units.items c.four_at-credits.ensures c.four_at-second.ensures
    (c.from-budget.ensures ∙ c.four_at.ensures) c.four_at-longest.ensures c.two_at-timeout.ensures
    ∙ limits_good (record (settings_in c.args.b.now []) { units = c.args.units.items }) c.requires.none
