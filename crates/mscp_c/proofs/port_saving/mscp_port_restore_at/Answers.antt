use Rattle.mscp_c.proofs.Common.{rules, ◌≡◌, ◌∙◌, ap, pos, sym, Option, None, Ok, Err, RoomFault, Handle, with_held}
use Rattle.mscp_memory.specs.PortHandles.{placed, memory_fault}
use Rattle.mscp_port.specs.Restored.{held_in}
use Rattle.mscp_c.specs.PortSaving.{placed_or, policy_named, restored_by, restores_unless}
use Rattle.mscp_c.proofs.Resumed.{port_comes_of}
use Rattle.mscp_c.proofs.port_saving.mscp_port_restore_at.Goals as goal

pub returns-in-Some-restore_fault : goal.returns-in-Some-restore_fault
returns-in-Some-restore_fault c =
    let b = c.args.bytes.now in
    let none : memory_fault c.args.handle.now ≡ None = sym c.memory_fault.ensures.value ∙ c.in_default.is in
    let told : restored_by b ≡ Err c.in-Some-restore_fault.fault =
    port_comes_of b c.policy_named-policy.ensures c.policy_number.ensures c.restore_fault.ensures.value
    c.in-Some-restore_fault.is in
    search rules

pub returns : goal.returns
returns c =
    let b = c.args.bytes.now in
    let h = c.args.handle.now in
    let named = c.policy_named-policy.ensures in
    let none : memory_fault h ≡ None = sym c.memory_fault.ensures.value ∙ c.in_default.is in
    let told : restored_by b ≡ Ok (held_in (policy_named b) b) =
    port_comes_of b named c.policy_number.ensures c.restore_fault.ensures.value c.in_default-restore_fault.is in
    let held-is = c.make_unresumed.new.handle.held in
    let made = c.make_unresumed.ensures.placed ∙ ap (λ (h : Handle). placed h held-is) c.memory_fault.ensures.same in
    let picker = (λ i. (c.lend.ensures.value i).controller.picker)
    ∙ ((λ i. (c.make_unresumed.ensures.controller i).picker) ∙ named) in
    let held : c.resume.new.self ≡ held_in (policy_named b) b = c.resume.ensures ∙ λ i. held_in (picker i) b in
    (λ i. (pos 1, with_held (made i) (held i)))
    ∙ sym (ap (λ (o : Option RoomFault). restores_unless o h b) none ∙ ap (placed_or h) told)
