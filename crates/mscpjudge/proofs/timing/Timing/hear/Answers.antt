use Rattle.mscpjudge.proofs.Common.{IsTimed, after_moment, subst, sym}
use Rattle.mscpjudge.proofs.timing.Timing.hear.Goals as goal

pub returns-in-Reset-clause-timed : goal.returns-in-Reset-clause-timed
returns-in-Reset-clause-timed c =
    λ t h. subst (λ m. IsTimed (after_moment c.args.number c.args.time t m) c.reset.new.self) (sym c.in-Reset.is)
    (c.reset.ensures.timed t h)
