use Rattle.mscp_queue.proofs.Common.{◌≡◌, take}
use Rattle.mscp_queue.proofs.view.View.new.Given as goal

abbrev pub invariant-loop-choice : goal.invariant-loop-choice
invariant-loop-choice l = l.view ≡ take l.choice-index l.choices
