use Rattle.mscp_host.proofs.Common.{arith, ◌≡◌, ap, ◌∙◌, rules, None, account_fault, account_in, head_fault, saved_bytes}
use Rattle.mscp_host.proofs.host.Host.restore.Goals as goal

pub returns-else-eq-clause-value : goal.returns-else-eq-clause-value
returns-else-eq-clause-value c =
    let b = c.args.b.now in
    let head : head_fault b ≡ None = search rules in
    let account : account_fault (account_in b) ≡ None = search rules in
    let same = c.as_slice-2.ensures.value ∙ (c.save.ensures.bytes ∙ ap saved_bytes c.host_in-host.ensures) in
    search arith
