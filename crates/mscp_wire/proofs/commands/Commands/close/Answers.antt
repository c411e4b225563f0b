use Rattle.mscp_wire.proofs.Common.{NoneIn, ap, arith, is_on, length, list_any, sents, subst, sym, take_all, ◌∙◌, ◌≡◌}
use Rattle.mscp_wire.proofs.Alone.{none_counted}
use Rattle.mscp_wire.proofs.Closing.{others_all}
use Rattle.mscp_wire.proofs.Placed.{none_taken_from}
use Rattle.mscp_wire.proofs.commands.Commands.close.Goals as goal

pub returns-else-count_on-gt0 : goal.returns-else-count_on-gt0
returns-else-count_on-gt0 g c =
    let xs = sents c.loop-at.self in
    sym (others_all c.args.connection xs (none_counted (is_on c.args.connection) (is_on c.args.connection) (λ s h. h) xs
    (omega (arith, c.if-count_on-gt0.false, c.count_on.ensures.count)))) ∙ c.loop-at.invariant.others

pub returns-after-loop-at : goal.returns-after-loop-at
returns-after-loop-at g c =
    let cells = c.loop-at.self in
    let via = c.args.connection in
    let first : c.loop-at.at ≡ 0 = omega (arith, c.loop-at-test.false) in
    let none = subst (λ k. NoneIn (is_on via) cells k (length cells)) first c.loop-at.invariant.none in
    let all = take_all (length cells) cells (search arith) in
    sym (others_all via (sents cells) (sym (ap (λ l. list_any (is_on via) (sents l)) all)
    ∙ none_taken_from (is_on via) cells (length cells) none)) ∙ c.loop-at.invariant.others
