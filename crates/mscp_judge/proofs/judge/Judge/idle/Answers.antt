use Rattle.mscp_judge.proofs.Common.{refl, None}
use Rattle.mscp_judge.proofs.Telling.{told_idle}
use Rattle.mscp_judge.proofs.judge.Judge.idle.Goals as goal

pub returns-clause-told : goal.returns-clause-told
returns-clause-told g c = λ d log s.
    told_idle d log None c.args.self.now c.idle_step.new.self c.tell_all.new.self refl s
    c.requires.nothing c.requires.due c.requires.owed c.in_ok-idle_step.ensures.came c.in_ok-idle_step.ensures.owed
    c.in_ok-idle_step.ensures.block c.tell_all.ensures.kept c.tell_all.ensures.none
