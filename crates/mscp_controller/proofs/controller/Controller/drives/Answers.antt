use Rattle.mscp_controller.proofs.Common.{subst, Holdings, IsSound}
use Rattle.mscp_controller.proofs.Bridge.Restored.{sound_seen}
use Rattle.mscp_controller.proofs.controller.Controller.drives.Goals as goal

pub returns-clause-sound : goal.returns-clause-sound
returns-clause-sound g c =
    let K = g.row.K.Denot in
    subst (λ (h : Holdings K). IsSound h) c.self.view_is
    (sound_seen c.self.invariant c.drives.ensures.held c.drives.ensures.order)
