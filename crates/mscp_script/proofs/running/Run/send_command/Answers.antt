use Rattle.mscp_script.proofs.Common.{◌≡◌, arith, refl, true, is_some, IsSweep, Answers}
use Rattle.mscp_packet.proofs.Commands.{command_bytes_are_messages}
use Rattle.mscp_packet.specs.Commands.{IsCommand, IsValidOrder, command_bytes, order_opcode}
use Rattle.mscp_packet.specs.declared.command.Order.{Order}
use Rattle.mscp_controller.specs.declared.entry.Entry.TheVariants as entries
use Rattle.mscp_drive.specs.declared.event.Event.TheVariants as events
use Rattle.mscp_script.specs.declared.running.Run.{Run}
use Rattle.mscp_script.proofs.Growing.{ran_on}
use Rattle.mscp_script.proofs.running.Run.send_command.Goals as goal

is_valid : (order : Order) → is_some (order_opcode order) ≡ true → IsValidOrder order
is_valid order h = grind arith

pub returns-clause-ran : goal.returns-clause-ran
returns-clause-ran g c =
    let command = c.args.valid.command in
    let b = command_bytes command in
    let valid = is_valid command.order c.args.valid.valid in
    let message : IsCommand b command = search (arith, command_bytes_are_messages) in
    let old : Run g.row.O.Denot = c.args.self.now in
    let new : Run g.row.O.Denot = record { controller = c.send_command-sent.new.self; reporter = c.sent.new.self } in
    let answers : Answers IsSweep old.controller (events.Send c.args.connection (record { items = b }))
    (entries.Sent c.args.connection c.send_command-sent.result) new.controller =
    (refl, c.send_command-sent.ensures.answer b message, c.send_command-sent.ensures.after b message) in
    ran_on c.sent.result old new (events.Send c.args.connection (record { items = b }))
    (entries.Sent c.args.connection c.send_command-sent.result) answers c.sent.ensures.value
