use Rattle.mscp_judge.proofs.Common.{refl, ◌∙◌, subst, OnOk, Came}
use Rattle.mscp_drive.specs.declared.event.Event.TheVariants as events
use Rattle.mscp_judge.proofs.Coming.{asked_one, asked_steps}
use Rattle.mscp_judge.proofs.judge.Judge.ask.Goals as goal

pub returns-in-Send-clause-stands : goal.returns-in-Send-clause-stands
returns-in-Send-clause-stands g c =
    let old = c.args.self.now in
    let new = c.send.new.self in
    let via = c.in-Send.connection in
    let came = subst
    (λ b. OnOk c.send.result (Came old.controller.picker.named old new (events.Send via (record { items = b }))))
    (c.as_slice.ensures.value ∙ c.write_command.ensures.bytes) c.send.ensures.came in
    rw c.in-Send.is (asked_one c.send.result old new old.controller.picker.named _ refl c.requires.settled came
    c.send.ensures.owed)

pub returns-in-Packet-clause-stands : goal.returns-in-Packet-clause-stands
returns-in-Packet-clause-stands g c =
    let old = c.args.self.now in
    let new = c.send-in-Packet.new.self in
    let via = c.in-Packet.connection in
    let came = subst (λ b. OnOk c.send-in-Packet.result (Came old.controller.picker.named old new
    (events.Send via (record { items = b })))) (c.as_slice-in-Packet.ensures.value ∙ c.bytes_in.ensures)
    c.send-in-Packet.ensures.came in
    rw c.in-Packet.is (asked_one c.send-in-Packet.result old new old.controller.picker.named _ refl c.requires.settled
    came c.send-in-Packet.ensures.owed)

pub returns-in-Take-clause-stands : goal.returns-in-Take-clause-stands
returns-in-Take-clause-stands g c =
    rw c.in-Take.is (asked_one c.take.result c.args.self.now c.take.new.self c.args.self.now.controller.picker.named _
    refl c.requires.settled c.take.ensures.came c.take.ensures.owed)

pub returns-in-Look-clause-stands : goal.returns-in-Look-clause-stands
returns-in-Look-clause-stands g c =
    rw c.in-Look.is (asked_one c.look.result c.args.self.now c.look.new.self c.args.self.now.controller.picker.named _
    refl c.requires.settled c.look.ensures.came c.look.ensures.owed)

pub returns-in-Steps-clause-stands : goal.returns-in-Steps-clause-stands
returns-in-Steps-clause-stands g c =
    rw c.in-Steps.is (asked_steps c.args.self.now c.owe.new.self c.in-Steps.count c.in-Steps.block c.requires.settled
    c.owe.ensures.controller c.owe.ensures.reporter c.owe.ensures.peaks c.owe.ensures.told c.owe.ensures.owed
    c.owe.ensures.block)
