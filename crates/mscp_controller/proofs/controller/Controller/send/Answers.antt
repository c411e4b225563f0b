use Rattle.mscp_controller.proofs.Common.{subst, sym, Command, IsCoded}
use Rattle.mscp_controller.proofs.Bridge.Judging.{command_is}
use Rattle.mscp_controller.proofs.Promise.Shaped.{coded}
use Rattle.mscp_controller.proofs.controller.Controller.send.Goals as goal

pub returns-clause-answer : goal.returns-clause-answer
returns-clause-answer g c = c.send_command.ensures.answer c.args.b.now c.in_ok-command.ensures.command

pub returns-clause-after : goal.returns-clause-after
returns-clause-after g c = c.send_command.ensures.after c.args.b.now c.in_ok-command.ensures.command

pub send_command-requires : goal.send_command-requires
send_command-requires g c = record {
  coded = subst (λ (q : Command). IsCoded q.order)
      (sym (command_is c.args.b.now c.in_ok-command.command c.in_ok-command.ensures.command)) (coded c.args.b.now);
}
