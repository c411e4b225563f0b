use Rattle.mscp_reader.proofs.Common.{arith, common_steps, err_from_is_err_and}
use Rattle.mscp_reader.proofs.Headers.{header_ends, header_skips, header_speaks, header_wrong}
use Rattle.mscp_reader.proofs.lines.Lines.header_line.Goals as goal

pub returns-in_err-words-clause-wrong : goal.returns-in_err-words-clause-wrong
returns-in_err-words-clause-wrong c = search (arith, err_from_is_err_and, header_wrong)

pub returns-then-not-is_empty-clause-some : goal.returns-then-not-is_empty-clause-some
returns-then-not-is_empty-clause-some c = search (arith, header_speaks, common_steps)

pub returns-clause-wrong : goal.returns-clause-wrong
returns-clause-wrong c = search (arith, header_ends)

pub loop-bytes-preserved : goal.loop-bytes-preserved
loop-bytes-preserved c = search (arith, header_skips, common_steps)
