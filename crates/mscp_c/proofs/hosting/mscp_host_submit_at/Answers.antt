use Rattle.mscp_c.proofs.Common.{◌∙◌, ap, sym, Err, submits_read}
use Rattle.mscp_memory.specs.HostHandles.{with_held}
use Rattle.mscp_c.proofs.hosting.mscp_host_submit_at.Goals as goal

pub returns-in-Err-Short-clause-call : goal.returns-in-Err-Short-clause-call
returns-in-Err-Short-clause-call c made =
    let read = ap Err (sym c.in-Err-Short.field-0-is) ∙ c.in-Err-Short.ensures in (
      ap (λ r. (submits_read c.args.handle.now.held r).0) read,
      c.is_made.ensures.same ∙ ap (λ r. with_held c.args.handle.now (submits_read c.args.handle.now.held r).1) read,
    )

pub returns-in-Err-Long-clause-call : goal.returns-in-Err-Long-clause-call
returns-in-Err-Long-clause-call c made =
    let read = ap Err (sym c.in-Err-Long.field-0-is) ∙ c.in-Err-Long.ensures in (
      ap (λ r. (submits_read c.args.handle.now.held r).0) read,
      c.is_made.ensures.same ∙ ap (λ r. with_held c.args.handle.now (submits_read c.args.handle.now.held r).1) read,
    )
