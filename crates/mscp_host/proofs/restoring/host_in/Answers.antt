use Rattle.mscp_host.proofs.Common.{arith, account_in}
use Rattle.mscp_host.proofs.Heads.{account_tells, head_tells}
use Rattle.mscp_host.proofs.restoring.host_in.Goals as goal

pub returns : goal.returns
returns c = λ i. record { credits = c.four_at.ensures i; outstanding = c.requires.said i; watch = c.requires.poll i }

pub invariant_of-result : goal.invariant_of-result
invariant_of-result c =
    let b = c.args.b.now in
    let h = head_tells b c.requires.head in
    let a = account_tells (account_in b) c.requires.account in
    search arith
