use Rattle.mscp_judge.proofs.Common.{refl}
use Rattle.mscp_judge.proofs.Righting.{open_with}
use Rattle.mscp_judge.proofs.judge.Judge.take_starts.Goals as goal

pub returns-clause-held : goal.returns-clause-held
returns-clause-held g c = λ d log wanted s. open_with d log wanted c.args.self.now _ refl s
