use Rattle.mscp_c.proofs.Common.{◌≡◌, ◌∙◌, ℕ, List, ap, rules, subst, sym, Ok, nat_eq, if◌then◌else◌, Policy, Oldest, Sweep, Handle, Held, with_held, number_told, policy_number, room_after, save_code}
use Rattle.mscp_port.specs.Restored.{restored}
use Rattle.mscp_port.specs.Saved.{saved_bytes}
use Rattle.mscp_c.specs.PortSaving.{policy_named, restored_by, saved_by}
use Rattle.mscp_c.proofs.Policies.{number_back}
use Rattle.mscp_c.proofs.port_saving.mscp_port_save_at.Goals as goal

-- a port is restored as it was, by the policy that its bytes name
all_back : (p : Held) (n : ℕ) (b : List ℕ) → n ≡ policy_number p.controller.picker → b ≡ saved_bytes n p
    → restored n p.controller.picker b ≡ Ok p → restored_by (saved_by p) ≡ Ok p
all_back p n b e f r =
    let own = saved_by p in
    let picker = p.controller.picker in
    let back : restored (policy_number picker) picker own ≡ Ok p =
    sym (ap (λ (k : ℕ). restored k picker own) e)
    ∙ (sym (ap (restored n picker) (f ∙ ap (λ (k : ℕ). saved_bytes k p) e)) ∙ r) in
    let named : policy_named own ≡ picker =
    ap (λ (k : ℕ). if nat_eq k 1 then Sweep else Oldest) (number_told (policy_number picker) picker own p back)
    ∙ number_back picker in
    ap (λ (policy : Policy). restored (policy_number policy) policy own) named ∙ back

pub returns-clause-back : goal.returns-clause-back
returns-clause-back c made =
    let own = c.lend-port.result.now in
    let held : own ≡ c.args.handle.now.held
    = c.lend-port.ensures.value ∙ ap (λ (h : Handle). h.held) c.is_made.ensures.same in
    let number = c.policy_number.ensures ∙ ap policy_number c.picker.ensures in
    subst (λ (p : Held). restored_by (saved_by p) ≡ Ok p) held
    (all_back own c.policy_number.result c.save-bytes.result.items number c.save-bytes.ensures.bytes
    c.save-bytes.ensures.back)

pub returns-clause-code : goal.returns-clause-code
returns-clause-code c made =
    let own = c.lend-port.result.now in
    let held : own ≡ c.args.handle.now.held
    = c.lend-port.ensures.value ∙ ap (λ (h : Handle). h.held) c.is_made.ensures.same in
    let number = c.policy_number.ensures ∙ ap policy_number c.picker.ensures in
    let bytes : c.save-bytes.result.items ≡ saved_by c.args.handle.now.held
    = c.save-bytes.ensures.bytes ∙ (ap (λ (n : ℕ). saved_bytes n own) number ∙ ap saved_by held) in
    let code : c.tell_saved.result ≡ save_code (saved_by c.args.handle.now.held) c.args.room.now
    = c.tell_saved.ensures.code
    ∙ ap (λ (b : List ℕ). save_code b c.args.room.now) (c.as_slice.ensures.value ∙ bytes) in
    search rules

pub returns-clause-told : goal.returns-clause-told
returns-clause-told c made =
    let own = c.lend-port.result.now in
    let held : own ≡ c.args.handle.now.held
    = c.lend-port.ensures.value ∙ ap (λ (h : Handle). h.held) c.is_made.ensures.same in
    let number = c.policy_number.ensures ∙ ap policy_number c.picker.ensures in
    let bytes : c.save-bytes.result.items ≡ saved_by c.args.handle.now.held
    = c.save-bytes.ensures.bytes ∙ (ap (λ (n : ℕ). saved_bytes n own) number ∙ ap saved_by held) in
    c.tell_saved.ensures.told ∙ ap (λ (b : List ℕ). room_after b c.args.room.now) (c.as_slice.ensures.value ∙ bytes)

pub returns-clause-same : goal.returns-clause-same
returns-clause-same c =
    ap (with_held c.is_made.new.handle) c.lend-port.ensures.value ∙ c.is_made.ensures.same
