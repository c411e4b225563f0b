use Rattle.mscp_wire.proofs.Common.{ap, filter, filter_same, is_some, rules, ◌∙◌}
use Rattle.mscp_wire.proofs.cells.Cells.close_up.Goals as goal

pub returns : goal.returns
returns g c =
    filter_same _ is_some _ (λ x b f' k. search rules) _ _ c.retain.ensures.filtered
    ∙ ap (filter is_some) c.self.view_is
