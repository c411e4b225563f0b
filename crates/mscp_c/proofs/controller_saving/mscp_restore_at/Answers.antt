use Rattle.mscp_c.proofs.Common.{rules, ◌≡◌, ◌∙◌, ap, pos, refl, sym, Option, None, Ok, Err, fresh, RoomFault, placed, memory_fault, held_in, policy_named, restored_by, placed_or, restores_unless}
use Rattle.mscp_memory.specs.ControllerHandles.{Handle, with_held}
use Rattle.mscp_c.proofs.Resumed.{comes_of}
use Rattle.mscp_c.proofs.controller_saving.mscp_restore_at.Goals as goal

pub returns-in-Some-restore_fault-clause-value : goal.returns-in-Some-restore_fault-clause-value
returns-in-Some-restore_fault-clause-value c =
    let b = c.args.bytes.now in
    let none : memory_fault c.args.handle.now ≡ None = sym c.memory_fault.ensures.value ∙ c.in_default.is in
    let told : restored_by b ≡ Err c.in-Some-restore_fault.fault =
    comes_of b c.policy_named-policy.ensures c.policy_number.ensures c.restore_fault.ensures.value
    c.in-Some-restore_fault.is in
    search rules

pub returns-in-Some-restore_fault-clause-call : goal.returns-in-Some-restore_fault-clause-call
returns-in-Some-restore_fault-clause-call c = λ from said room.
    let b = c.args.bytes.now in
    let told : restored_by b ≡ Err c.in-Some-restore_fault.fault =
    comes_of b c.policy_named-policy.ensures c.policy_number.ensures c.restore_fault.ensures.value
    c.in-Some-restore_fault.is in
    cc

pub returns-clause-value : goal.returns-clause-value
returns-clause-value c =
    let b = c.args.bytes.now in
    let h = c.args.handle.now in
    let named = c.policy_named-policy.ensures in
    let none : memory_fault h ≡ None = sym c.memory_fault.ensures.value ∙ c.in_default.is in
    let told : restored_by b ≡ Ok (held_in (policy_named b) b) =
    comes_of b named c.policy_number.ensures c.restore_fault.ensures.value c.in_default-restore_fault.is in
    let new = fresh c.saved_settings.result c.policy_named-policy.result in
    let made = c.make_new.ensures ∙ ap (λ (h : Handle). placed h new) c.memory_fault.ensures.same in
    let picker = (λ i. (c.lend.ensures.value i).picker) ∙ (ap (λ (h : Handle). h.held.picker) made ∙ named) in
    let held : c.resume.new.controller ≡ held_in (policy_named b) b = c.resume.ensures ∙ λ i. held_in (picker i) b in
    (λ i. (pos 1, with_held (made i) (held i)))
    ∙ sym (ap (λ (o : Option RoomFault). restores_unless o h b) none ∙ ap (placed_or h) told)

pub returns-clause-call : goal.returns-clause-call
returns-clause-call c = λ from said room.
    let b = c.args.bytes.now in
    let named = c.policy_named-policy.ensures in
    let told : restored_by b ≡ Ok (held_in (policy_named b) b) =
    comes_of b named c.policy_number.ensures c.restore_fault.ensures.value c.in_default-restore_fault.is in
    let new = fresh c.saved_settings.result c.policy_named-policy.result in
    let made = c.make_new.ensures ∙ ap (λ (h : Handle). placed h new) c.memory_fault.ensures.same in
    let picker = (λ i. (c.lend.ensures.value i).picker) ∙ (ap (λ (h : Handle). h.held.picker) made ∙ named) in
    let held : c.resume.new.controller ≡ held_in (policy_named b) b = c.resume.ensures ∙ λ i. held_in (picker i) b in
    let same : held_in (policy_named b) b ≡ from.held = cc in
    (refl, (said, held ∙ same))
