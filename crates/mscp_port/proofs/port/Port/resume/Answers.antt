use Rattle.mscp_port.proofs.Common.{◌≡◌, ◌∙◌, controller_in, controller_said}
use Rattle.mscp_port.proofs.port.Port.resume.Goals as goal

pub returns : goal.returns
returns g c =
    let made : c.resume.new.controller ≡ controller_in c.args.self.now.controller.picker c.args.bytes.now =
    c.resume.ensures ∙ λ i. controller_said (c.fill.ensures i).controller.picker (c.controller_bytes.ensures i) in
    λ i. record (c.fill.ensures i) { controller = made i }
