use Rattle.mscp_ported.proofs.ByOpcode.{ends_said}
use Rattle.mscp_ported.proofs.Opcodes.{said_fits}
use Rattle.mscp_ported.proofs.law.ports_end_by_opcode.Goals as goal

pub returns : goal.returns
returns g c = λ s before controller hardware credits start p call calls text message valid sizes was quiet made reads a
    said only.
    said_fits a.0 _ text message (ends_said g.K.Picker.picks s c.args.picker.now c.controllers_keep_the_promise.ensures
    valid sizes before hardware credits controller start was made quiet (λ verdict r. Unit {0}) (λ calls. Unit {0})
    (λ call calls fine. tt) (λ p outcome done calls fine a verdict how name was r found. tt) p call calls text message
    reads tt a said only)
