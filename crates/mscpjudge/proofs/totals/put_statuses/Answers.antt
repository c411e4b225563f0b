use Rattle.mscpjudge.proofs.Common.{arith, common_steps}
use Rattle.mscpjudge.proofs.Counted.{texts_more, texts_none}
use Rattle.mscpjudge.proofs.totals.put_statuses.Goals as goal

pub loop-code-init : goal.loop-code-init
loop-code-init g c = grind (arith, common_steps, texts_none)

pub loop-code-preserved : goal.loop-code-preserved
loop-code-preserved g c = grind (arith, common_steps, texts_more)
