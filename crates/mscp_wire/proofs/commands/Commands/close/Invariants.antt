use Rattle.mscp_wire.proofs.Common.{NoneIn, is_on, length, others_of, sents, ◌≡◌, ◌≤◌}
use Rattle.mscp_wire.proofs.commands.Commands.close.Given as goal

abbrev pub invariant-loop-at : goal.invariant-loop-at
invariant-loop-at g l = record {
  low : l.at ≤ length l.self;
  others : others_of l.fn.connection (sents l.self) ≡ others_of l.fn.connection (sents l.fn.self);
  none : NoneIn (is_on l.fn.connection) l.self l.at (length l.self);
}

abbrev pub decreases-loop-at : goal.decreases-loop-at
decreases-loop-at g l = l.at
