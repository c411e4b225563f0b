use Rattle.mscp_controller.proofs.Bridge.Keeping.{held_small}
use Rattle.mscp_controller.proofs.controller.Controller.balance.Goals as goal

pub held-held-requires : goal.held-held-requires
held-held-requires g c = held_small c.self.invariant c.args.connection
