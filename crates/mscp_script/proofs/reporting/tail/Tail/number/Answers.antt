use Rattle.mscp_script.proofs.Common.{arith, length-append, length-drop, few_digits}
use Rattle.mscp_script.proofs.reporting.tail.Tail.number.Goals as goal

pub write_digits-self-inside-requires : goal.write_digits-self-inside-requires
write_digits-self-inside-requires c = search (arith, few_digits, length-drop)

pub returns-clause-short : goal.returns-clause-short
returns-clause-short c = search (arith, few_digits, length-append)
