use Rattle.mscp_port.proofs.Common.{◌∙◌, First, Holdings, ap, subst, sym}
use Rattle.mscp_controller.proofs.Bridge.Judging.{command_is}
use Rattle.mscp_controller.proofs.Promise.Shaped.{coded}
use Rattle.mscp_packet.specs.declared.command.Command.{Command}
use Rattle.mscp_port.specs.Messages.{handed}
use Rattle.mscp_port.proofs.Settings.{settings_after}
use Rattle.mscp_queue.specs.Outcomes.{IsCoded}
use Rattle.mscp_port.proofs.port.Port.hand_over.Goals as goal

pub send_command-requires : goal.send_command-requires
send_command-requires g c =
    let sent = handed c.units.result.now c.args.message.now in record {
      coded = subst (λ (q : Command). IsCoded q.order)
          (sym (command_is sent c.command_for_controller-command.result c.command_for_controller-command.ensures))
          (coded sent);
    }

pub returns-clause-settings : goal.returns-clause-settings
returns-clause-settings g c =
    let sent = handed c.units.result.now c.args.message.now in
    ap (λ (h : Holdings g.row.K.Denot). h.settings)
    (c.send_command.ensures.after sent c.command_for_controller-command.ensures)
    ∙ settings_after First c.args.self.now.controller sent
