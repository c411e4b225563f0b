use Rattle.mscp_port.proofs.Common.{◌∙◌, ◌≤◌, List, arith, length, subst, sym, ℕ}
use Rattle.std.specs.Prelude.{cond}
use Rattle.mscp_packet.specs.Commands.{IsCommand}
use Rattle.mscp_packet.specs.declared.command.Command.{Command}
use Rattle.mscp_packet.specs.declared.command.MoveKind.TheVariants.{Access}
use Rattle.mscp_packet.specs.declared.command.Order.TheVariants.{Move}
use Rattle.mscp_port.specs.Formalities.{stand_in}
use Rattle.mscp_port.specs.Messages.{next_named}
use Rattle.mscp_port.proofs.message.command_for_controller.Goals as goal

stood_in : (b : List ℕ) (x : Command) → 12 ≤ length b → IsCommand b x
    → IsCommand (stand_in b) (record x { order = Move Access 0 0 })
stood_in b x long is = search (arith, long, is)

pub returns-then-port_answers : goal.returns-then-port_answers
returns-then-port_answers c =
    let b = c.args.message.now in
    subst (λ x. IsCommand (cond x (stand_in b) (next_named c.args.units.now b)) c.stand_in.result)
    (sym (sym c.port_answers.ensures ∙ c.if-port_answers.true))
    (subst (λ x. IsCommand (stand_in b) x) (sym c.stand_in.ensures)
    (stood_in b c.command_in-command.result c.requires.short c.command_in-command.ensures))
