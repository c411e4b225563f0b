use Rattle.mscp_wire.proofs.Middles.{slow_by}
use Rattle.mscp_wire.proofs.middle.is_slow.Goals as goal

pub returns-in-Figure-Some : goal.returns-in-Figure-Some
returns-in-Figure-Some g c = λ log i broken.
    slow_by log.begun log.credits log.moments log.strangers c.args.moment.now c.args.rule c.args.middle.now
    c.in-Figure-Some.middle c.is_about_sent.result i c.in-Figure-Some.is-1 broken c.in-Figure-Some.is-0
    (c.is_about_sent.ensures log.moments log.strangers)
