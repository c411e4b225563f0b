use Rattle.mscp_host.proofs.Common.{arith, ◌≡◌, rules, saved_bytes}
use Rattle.mscp_host.proofs.Back.{restored_back}
use Rattle.mscp_host.proofs.host.Host.save.Goals as goal

pub returns-clause-back : goal.returns-clause-back
returns-clause-back c =
    let a = c.args.self.now in
    let bytes : c.put_submissions.new.out.items ≡ saved_bytes a = search rules in
    search (arith, restored_back)
