use Rattle.std.proofs.Common.{rules, arith}
use Rattle.std.proofs.lemmas.Grind.{common_steps}
use Rattle.mscp_text.proofs.Longer.{longer, too_long}
use Rattle.mscp_text.proofs.lent.put_behind.Goals as goal

pub returns-then-more-bytes-clause-front : goal.returns-then-more-bytes-clause-front
returns-then-more-bytes-clause-front c = λ text at.
    too_long c.in_ok-count.count c.args.more.now at (search rules) (search rules)

pub returns-clause-front : goal.returns-clause-front
returns-clause-front c = λ text at.
    longer c.in_ok-count.count c.args.more.now at (search rules) (grind (arith, common_steps)) (search rules)
