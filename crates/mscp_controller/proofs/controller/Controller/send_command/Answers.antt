use Rattle.mscp_controller.proofs.Common.{◌∙◌, ap, sym, Ok, command_of, arrives, balance_of, held_unless, outstanding_of, sent_unless, taken_as}
use Rattle.mscp_controller.proofs.Bridge.Judging.{command_is, free_of}
use Rattle.mscp_controller.proofs.controller.Controller.send_command.Goals as goal

pub returns-in-None-clause-answer : goal.returns-in-None-clause-answer
returns-in-None-clause-answer g c = λ b is.
    let h = c.args.self.now in
    let via = c.args.connection in
    let free = free_of (balance_of via h) (outstanding_of via h) b c.args.command c.opcode.result c.credit_fault.result
    c.opcode.ensures c.credit_fault.ensures.fault c.in-None.is is in
    ap Ok (c.arrive.ensures.sent ∙ ap (taken_as via h) (command_is b c.args.command is))
    ∙ sym (ap (sent_unless via h (command_of b)) free)

pub returns-in-None-clause-after : goal.returns-in-None-clause-after
returns-in-None-clause-after g c = λ b is.
    let h = c.args.self.now in
    let via = c.args.connection in
    let free = free_of (balance_of via h) (outstanding_of via h) b c.args.command c.opcode.result c.credit_fault.result
    c.opcode.ensures c.credit_fault.ensures.fault c.in-None.is is in
    c.arrive.ensures.after ∙ ap (arrives via h) (command_is b c.args.command is)
    ∙ sym (ap (held_unless via h (command_of b)) free)
