use Rattle.mscp_c.proofs.Common.{◌≡◌, Ok, ap, sym, ◌∙◌}
use Rattle.mscp_host.specs.PortAccounts.{PortAccount}
use Rattle.mscp_host.specs.PortRestored.{port_restored}
use Rattle.mscp_host.specs.PortSaved.{port_saved_bytes}
use Rattle.mscp_memory.specs.DriverHandles.{Handle, with_held}
use Rattle.mscp_c.specs.Saving.{room_after}
use Rattle.mscp_c.proofs.driver_saving.mscp_driver_save_at.Goals as goal

pub returns-clause-told : goal.returns-clause-told
returns-clause-told c made =
    let held : c.lend.result.now ≡ c.args.handle.now.held
    = c.lend.ensures.value ∙ ap (λ (h : Handle). h.held) c.is_made.ensures.same in
    let bytes = c.as_slice.ensures.value ∙ (c.save-bytes.ensures.bytes ∙ ap port_saved_bytes held) in
    c.tell_saved.ensures.told ∙ ap (λ b. room_after b c.args.room.now) bytes

pub returns-clause-back : goal.returns-clause-back
returns-clause-back c made =
    let held : c.lend.result.now ≡ c.args.handle.now.held
    = c.lend.ensures.value ∙ ap (λ (h : Handle). h.held) c.is_made.ensures.same in
    sym (ap (λ (a : PortAccount). port_restored (port_saved_bytes a)) held)
    ∙ (sym (ap port_restored c.save-bytes.ensures.bytes)
    ∙ (c.save-bytes.ensures.back ∙ ap (λ (a : PortAccount). Ok a) held))

pub returns-clause-same : goal.returns-clause-same
returns-clause-same c =
    ap (with_held c.is_made.new.handle) c.lend.ensures.value ∙ c.is_made.ensures.same
