use Rattle.mscp_c.proofs.Common.{◌≡◌, ◌∙◌, ℕ, List, Ok, ap, subst, sym, Policy, saved_bytes, restored, policy_named, policy_number, restored_by, saved_by, room_after}
use Rattle.mscp_memory.specs.ControllerHandles.{Handle, Held, with_held}
use Rattle.mscp_c.proofs.Policies.{number_back}
use Rattle.mscp_c.proofs.controller_saving.mscp_save_at.Goals as goal

-- the policy that a saved controller names is its own
named_back : (h : Held) → policy_named (saved_by h) ≡ h.picker
named_back h = number_back h.picker

-- so it is restored as it was
all_back : (h : Held) (n : ℕ) (b : List ℕ) → n ≡ policy_number h.picker → b ≡ saved_bytes n h
    → restored n h.picker b ≡ Ok h → restored_by (saved_by h) ≡ Ok h
all_back h n b e f r =
    let own = saved_by h in
    ap (λ (p : Policy). restored (policy_number p) p own) (named_back h)
    ∙ (sym (ap (λ (k : ℕ). restored k h.picker own) e)
    ∙ (sym (ap (restored n h.picker) (f ∙ ap (λ (k : ℕ). saved_bytes k h) e)) ∙ r))

pub returns-clause-back : goal.returns-clause-back
returns-clause-back c made =
    let own = c.lend-controller.result.now in
    let held : own ≡ c.args.handle.now.held
    = c.lend-controller.ensures.value ∙ ap (λ (h : Handle). h.held) c.is_made.ensures.same in
    let number = c.policy_number-number.ensures ∙ ap policy_number c.picker.ensures in
    subst (λ (h : Held). restored_by (saved_by h) ≡ Ok h) held
    (all_back own c.policy_number-number.result c.save-bytes.result.items number c.save-bytes.ensures.bytes
    c.save-bytes.ensures.back)

pub returns-clause-told : goal.returns-clause-told
returns-clause-told c made =
    let own = c.lend-controller.result.now in
    let held : own ≡ c.args.handle.now.held
    = c.lend-controller.ensures.value ∙ ap (λ (h : Handle). h.held) c.is_made.ensures.same in
    let number = c.policy_number-number.ensures ∙ ap policy_number c.picker.ensures in
    let bytes : c.save-bytes.result.items ≡ saved_by c.args.handle.now.held
    = c.save-bytes.ensures.bytes ∙ (ap (λ (n : ℕ). saved_bytes n own) number ∙ ap saved_by held) in
    c.tell_saved.ensures.told ∙ ap (λ (b : List ℕ). room_after b c.args.room.now) (c.as_slice.ensures.value ∙ bytes)

pub returns-clause-same : goal.returns-clause-same
returns-clause-same c =
    ap (with_held c.is_made.new.handle) c.lend-controller.ensures.value ∙ c.is_made.ensures.same
