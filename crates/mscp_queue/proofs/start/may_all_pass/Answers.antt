use Rattle.mscp_queue.proofs.Common.{arith}
use Rattle.mscp_queue.proofs.Passable.{may_all_pass}
use Rattle.mscp_queue.proofs.start.may_all_pass.Goals as goal

pub returns-then-longest-unspent : goal.returns-then-longest-unspent
returns-then-longest-unspent c = λ e. may_all_pass c.args.backlog.now.budget
    c.args.longest c.args.backlog.now.waiting c.requires.order c.requires.short
    (omega (arith, c.unspent-unspent.ensures, c.requires.passed, c.if-longest-unspent.true))

pub returns-else-longest-unspent : goal.returns-else-longest-unspent
returns-else-longest-unspent c = λ e. may_all_pass c.args.backlog.now.budget
    c.unspent-unspent.result c.args.backlog.now.waiting c.requires.order (c.are_light.ensures e)
    (omega (arith, c.unspent-unspent.ensures, c.requires.passed))
