use Rattle.mscp_packet.proofs.Common.{arith, List, ℕ, subst, sym, command_fields, IsZeroBeside}
use Rattle.mscp_packet.proofs.Commands.{command_bytes_are_messages, command_zeros}
use Rattle.mscp_packet.proofs.writing.write_command.Goals as goal

pub returns-clause-zeros : goal.returns-clause-zeros
returns-clause-zeros c =
    let command = c.args.command.now in
    let P : List ℕ → Type 0 = IsZeroBeside (command_fields command.order) in
    subst P (sym c.bytes_of_command.ensures.items) (command_zeros command.reference command.unit command.order)

pub returns-clause-reads_back : goal.returns-clause-reads_back
returns-clause-reads_back c = search (arith, command_bytes_are_messages)
