use Rattle.mscp_c.proofs.Common.{◌≡◌, Ok, ap, sym, ◌∙◌, Account}
use Rattle.mscp_host.specs.Restored.{restored}
use Rattle.mscp_host.specs.Saved.{saved_bytes}
use Rattle.mscp_memory.specs.HostHandles.{Handle, with_held}
use Rattle.mscp_c.proofs.host_saving.mscp_host_save_at.Goals as goal

pub returns-clause-back : goal.returns-clause-back
returns-clause-back c made =
    let held : c.lend.result.now ≡ c.args.handle.now.held
    = c.lend.ensures.value ∙ ap (λ (h : Handle). h.held) c.is_made.ensures.same in
    sym (ap (λ (a : Account). restored (saved_bytes a)) held) ∙ (sym (ap restored c.save-bytes.ensures.bytes)
    ∙ (c.save-bytes.ensures.back ∙ ap (λ (a : Account). Ok a) held))

pub returns-clause-same : goal.returns-clause-same
returns-clause-same c =
    ap (with_held c.is_made.new.handle) c.lend.ensures.value ∙ c.is_made.ensures.same
