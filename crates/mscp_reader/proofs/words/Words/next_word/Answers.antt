use Rattle.mscp_reader.proofs.Common.{arith, common_steps}
use Rattle.mscp_reader.proofs.Cuts.{word_ahead}
use Rattle.mscp_reader.proofs.words.Words.next_word.Goals as goal

pub returns : goal.returns
returns c = search (arith, common_steps, word_ahead)
