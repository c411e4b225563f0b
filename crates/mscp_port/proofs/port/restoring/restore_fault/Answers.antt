use Rattle.mscp_port.proofs.Common.{◌≡◌, List, ℕ, drop, sym, ◌∙◌, arith, Option, Ok, Err, ControllerFault, controller_said, controller_restored, same_of, controller_in, controller_place, held_in}
use Rattle.mscp_saved.specs.Restored.{unless}
use Rattle.mscp_port.proofs.Comes.{comes, is_whose}
use Rattle.mscp_port.proofs.Formed.{same_front}
use Rattle.mscp_port.proofs.port.restoring.restore_fault.Goals as goal

-- what comes of the controller's bytes
told : {K : Type 0} (number : ℕ) (picker : K) {cs b : List ℕ} {o o' : Option ControllerFault} → cs ≡ b
    → controller_restored number picker cs ≡ unless (controller_said picker cs) o → o ≡ o'
    → unless (controller_said picker b) o' ≡ controller_restored number picker b
told number picker same value is = search arith

pub returns-in-Some-restore_fault-clause-value : goal.returns-in-Some-restore_fault-clause-value
returns-in-Some-restore_fault-clause-value g c =
    let none = sym c.frame_fault.ensures.value ∙ c.in_default.is in
    let said = told c.args.number c.args.picker.now c.controller_bytes-controller.ensures c.restore_fault.ensures.value
    c.in-Some-restore_fault.is in
    sym (comes c.args.number c.args.picker.now c.args.bytes.now (Err c.in-Some-restore_fault.fault) none said)

pub returns-then-is_front-clause-value : goal.returns-then-is_front-clause-value
returns-then-is_front-clause-value g c =
    let b = c.args.bytes.now in
    let number = c.args.number in
    let picker = c.args.picker.now in
    let none = sym c.frame_fault.ensures.value ∙ c.in_default.is in
    let said = told number picker c.controller_bytes-controller.ensures c.restore_fault.ensures.value
    c.in_default-restore_fault.is in
    let h = controller_in picker b in
    let same = (same_of number picker h (drop (controller_place b) b) (sym said)).0 in
    let front = sym (same_front number b h same) ∙ (sym c.is_front.ensures ∙ c.if-is_front.true) in
    sym (is_whose number b (held_in picker b) _ front ∙ comes number picker b (Ok h) none said)

pub returns-else-is_front-clause-value : goal.returns-else-is_front-clause-value
returns-else-is_front-clause-value g c =
    let b = c.args.bytes.now in
    let number = c.args.number in
    let picker = c.args.picker.now in
    let none = sym c.frame_fault.ensures.value ∙ c.in_default.is in
    let said = told number picker c.controller_bytes-controller.ensures c.restore_fault.ensures.value
    c.in_default-restore_fault.is in
    let h = controller_in picker b in
    let same = (same_of number picker h (drop (controller_place b) b) (sym said)).0 in
    let front = sym (same_front number b h same) ∙ (sym c.is_front.ensures ∙ c.if-is_front.false) in
    sym (is_whose number b (held_in picker b) _ front ∙ comes number picker b (Ok h) none said)
