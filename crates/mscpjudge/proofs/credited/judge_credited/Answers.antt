use Rattle.mscpjudge.proofs.Common.{JudgesAll, Says, subst, sym}
use Rattle.mscpjudge.proofs.Limited.{judges_all, says_all}
use Rattle.mscpjudge.proofs.credited.judge_credited.Goals as goal

pub returns-clause-judges : goal.returns-clause-judges
returns-clause-judges c =
    subst (λ r. JudgesAll r c.args.bytes.now) (sym c.judged_by.ensures)
    (judges_all c.args.bytes.now c.log_breach.result c.judge_wire-judged.result c.judge_wire-judged.ensures.judges
    c.log_breach.ensures)

pub returns-clause-only : goal.returns-clause-only
returns-clause-only c =
    λ came h. subst (λ r. Says r came) (sym c.judged_by.ensures)
    (says_all c.args.bytes.now c.log_breach.result c.judge_wire-judged.result c.judge_wire-judged.ensures.only
    c.log_breach.ensures came h)
