use Rattle.std.proofs.Common.{rules, ◌≡◌, ap, subst, sym, ◌∙◌}
use Rattle.mscp_packet.specs.Commands.{IsCommand}
use Rattle.mscp_packet.specs.Opcodes.{opcode_of}
use Rattle.mscp_packet.specs.declared.command.Command.{Command}
use Rattle.mscp_packet.specs.declared.command.Order.TheVariants as orders
use Rattle.mscp_c.specs.CommandWritten.{command_given, message_bytes, order_given}
use Rattle.mscp_c.proofs.Written.{none_of, none_read}
use Rattle.mscp_c.proofs.command_writing.message_of.Goals as goal

pub returns-in-Invalid-clause-command : goal.returns-in-Invalid-clause-command
returns-in-Invalid-clause-command c =
    let g = c.args.given.now in
    let is : order_given (opcode_of g.opcode) g ≡ orders.Invalid c.in-Invalid.opcode c.in-Invalid.status
    = sym (ap (λ (k : Command). k.order) c.command_of-command.ensures.value) ∙ c.in-Invalid.is in
    let none = none_of (opcode_of g.opcode) g _ _ is in
    let bytes : c.set_two.new.message.items ≡ message_bytes g = search rules in
    let range = c.command_of-command.ensures.range in
    subst (λ b. IsCommand b (command_given g)) (sym bytes) (none_read g none range.0 range.1)
