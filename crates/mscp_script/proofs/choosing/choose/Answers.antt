use Rattle.mscp_script.proofs.Common.{arith}
use Rattle.mscp_script.proofs.Words.{neither, two_words}
use Rattle.mscp_script.proofs.choosing.choose.Goals as goal

pub returns-in_default-as_str : goal.returns-in_default-as_str
returns-in_default-as_str c = search (arith, two_words, neither)
