use Rattle.mscp_port.proofs.Common.{rules, not, subst, Contains, filter-from_retain, is_of}
use Rattle.mscp_port.proofs.Among.{among_left}
use Rattle.mscp_port.proofs.buffers.forget.Goals as goal

pub returns-clause-after : goal.returns-clause-after
returns-clause-after c = filter-from_retain _ _ _ (λ x b f' y called. search rules) _ _ c.retain.ensures.filtered

pub returns-clause-left : goal.returns-clause-left
returns-clause-left c = λ b there.
    among_left (λ x. not (is_of c.args.connection c.args.reference x)) c.args.buffers.now.items b
    (subst (λ xs. Contains xs b) (returns-clause-after c) there)
