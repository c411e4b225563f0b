use Rattle.mscp_reader.proofs.Common.{arith, ◌∙◌, err_from_is_err_and, both_of, budget_of}
use Rattle.mscp_reader.proofs.Outcomes.{sets_longest, sets_timeout}
use Rattle.mscp_reader.proofs.header.read_limits.Goals as goal

pub returns-in_err-credits-clause-heads : goal.returns-in_err-credits-clause-heads
returns-in_err-credits-clause-heads c = search (arith, err_from_is_err_and)

pub returns-in_err-limit-clause-heads : goal.returns-in_err-limit-clause-heads
returns-in_err-limit-clause-heads c = search (arith, err_from_is_err_and)

pub returns-in_err-longest-clause-heads : goal.returns-in_err-longest-clause-heads
returns-in_err-longest-clause-heads c =
    let p = err_from_is_err_and c.from_residual-in_err-longest.result c.from_residual-in_err-longest.ensures.1 in
    rw (p.1, p.2) (c.in_ok-credits.ensures.heads ∙ c.in_ok-limit.ensures.heads (both_of c.in_ok-credits.credits)
    ∙ c.in_err-longest.ensures.heads _ _ (sets_longest (both_of c.in_ok-credits.credits) c.in_ok-limit.limit))

pub returns-in_err-timeout-clause-heads : goal.returns-in_err-timeout-clause-heads
returns-in_err-timeout-clause-heads c =
    let p = err_from_is_err_and c.from_residual-in_err-timeout.result c.from_residual-in_err-timeout.ensures.1 in
    rw (p.1, p.2) (c.in_ok-credits.ensures.heads
    ∙ c.in_ok-limit.ensures.heads (both_of c.in_ok-credits.credits)
    ∙ c.in_ok-longest.ensures.heads _ _ (sets_longest (both_of c.in_ok-credits.credits) c.in_ok-limit.limit)
    ∙ c.in_err-timeout.ensures.heads _ _ (sets_timeout (both_of c.in_ok-credits.credits)
    (budget_of c.in_ok-limit.limit c.in_ok-longest.longest) c.in_ok-longest.longest))

pub returns-clause-heads : goal.returns-clause-heads
returns-clause-heads c =
    c.in_ok-credits.ensures.heads ∙ c.in_ok-limit.ensures.heads (both_of c.in_ok-credits.credits)
    ∙ c.in_ok-longest.ensures.heads _ _ (sets_longest (both_of c.in_ok-credits.credits) c.in_ok-limit.limit)
    ∙ c.in_ok-timeout.ensures.heads _ _ (sets_timeout (both_of c.in_ok-credits.credits)
    (budget_of c.in_ok-limit.limit c.in_ok-longest.longest) c.in_ok-longest.longest)
