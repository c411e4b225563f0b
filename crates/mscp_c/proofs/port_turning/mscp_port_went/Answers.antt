use Rattle.mscp_c.proofs.Common.{rules, ◌≡◌, ◌∙◌, subst, sym, to_z, of_z, w32, Some, MatchOption, BAD_OUTCOME, with_held, outcome_given, Goes, Held, PolicyPicks, TellsWent, told_code}
use Rattle.mscp_c.proofs.PortLent.{answer_told}
use Rattle.mscp_c.proofs.port_turning.mscp_port_went.Goals as goal

pub returns-clause-call : goal.returns-clause-call
returns-clause-call c made =
    let new = with_held c.is_made.new.handle c.went.new.self in
    let status = to_z w32 (of_z w32 c.told_code.result) in
    let given : outcome_given c.args.outcome c.args.status ≡ Some c.in-Some.outcome =
    sym c.outcome_of.ensures ∙ c.in-Some.is in
    subst (λ o. MatchOption o ((status ≡ BAD_OUTCOME) × (new ≡ c.args.handle.now))
    (λ outcome. TellsWent outcome c.args.handle.now status new)) (sym given)
    (answer_told c.is_made.new.handle c.args.handle.now c.lend.result.now c.went.new.self c.lend.ensures.value
    c.is_made.ensures.same told_code
    (λ (old : Held). Goes (PolicyPicks old.controller.picker) c.in-Some.outcome old) c.went.result status
    c.went.ensures (search rules))
