use Rattle.mscp_judge.proofs.Common.{arith, headed_gone}
use Rattle.mscp_judge.proofs.Exactly.{legal_alone, legal_is_found}
use Rattle.mscp_judge.proofs.log.judge_log.Goals as goal

pub returns-clause-judges : goal.returns-clause-judges
returns-clause-judges g c = search (arith, headed_gone)

pub returns-clause-legal : goal.returns-clause-legal
returns-clause-legal g c = search (arith, legal_is_found, returns-clause-judges)

pub returns-clause-only : goal.returns-clause-only
returns-clause-only g c =
    legal_alone c.args.bytes.now c.judge_lines.result c.in_ok-lines.ensures.small (returns-clause-judges g c)
