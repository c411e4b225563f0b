use Rattle.mscp_reader.proofs.Common.{◌≡◌, length, words}
use Rattle.mscp_reader.proofs.words.Words.next_word.Given as goal

abbrev pub invariant-loop-self : goal.invariant-loop-self
invariant-loop-self l = words l.self.rest.now ≡ words l.initial.self.rest.now

abbrev pub decreases-loop-self : goal.decreases-loop-self
decreases-loop-self l = length l.self.rest.now
