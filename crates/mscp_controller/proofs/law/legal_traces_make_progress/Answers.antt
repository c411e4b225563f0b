use Rattle.mscp_controller.proofs.Promise.Progress.{progress}
use Rattle.mscp_controller.proofs.law.legal_traces_make_progress.Goals as goal

pub returns : goal.returns
returns c = λ d t valid legal. progress d t valid legal
