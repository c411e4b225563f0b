use Rattle.mscpjudge.proofs.Common.{arith, common_steps}
use Rattle.mscpjudge.proofs.Counted.{texts_more, texts_none}
use Rattle.mscpjudge.proofs.totals.put_commands.Goals as goal

pub loop-opcode-init : goal.loop-opcode-init
loop-opcode-init g c = grind (arith, common_steps, texts_none)

pub loop-opcode-preserved : goal.loop-opcode-preserved
loop-opcode-preserved g c = grind (arith, common_steps, texts_more)
