use Rattle.mscp_port.proofs.Common.{ap, ◌∙◌, from_place, parts_in, volume_in}
use Rattle.mscp_port.proofs.port.restoring.volumes_of.Goals as goal

pub returns : goal.returns
returns c = c.volumes_in.ensures ∙ ap (parts_in volume_in 18 16) (from_place 82 c.args.b.now)
