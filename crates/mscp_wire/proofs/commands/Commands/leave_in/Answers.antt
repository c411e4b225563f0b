use Rattle.mscp_wire.proofs.Common.{Some, ap, cell, if◌then◌else◌, leaves, left, option_map, sym, ◌∙◌}
use Rattle.mscp_wire.proofs.Placed.{empty_stays, kept_put, put_over, same_in}
use Rattle.mscp_wire.proofs.commands.Commands.leave_in.Goals as goal

pub invariant_of-self : goal.invariant_of-self
invariant_of-self g c =
    let s = c.in-Some.other in
    kept_put c.self.inside.tallies c.leave.new.self c.self.inside.cells c.put.new.self c.args.at s c.leaves.result
    (record s { asked = left s.asked })
    (sym (ap (λ ys. cell ys c.args.at) c.as_slice.ensures) ∙ c.in-Some.is)
    (c.leaves.ensures ∙ ap (λ b. if b then record s { asked = left s.asked } else s)
    (sym c.polls.ensures ∙ c.if-polls.true))
    c.put.ensures c.leave.ensures c.self.invariant

pub returns-then-polls : goal.returns-then-polls
returns-then-polls g c =
    put_over (leaves c.args.ended.now) c.self.inside.cells c.args.self.now c.put.new.self c.args.at c.in-Some.other
    c.leaves.result c.self.view_is (sym (ap (λ ys. cell ys c.args.at) c.as_slice.ensures) ∙ c.in-Some.is)
    c.leaves.ensures c.put.ensures

pub returns-else-polls : goal.returns-else-polls
returns-else-polls g c =
    let s = c.in-Some.other in
    let f = option_map (leaves c.args.ended.now) in
    let here = sym (ap (λ xs. cell xs c.args.at) (c.as_slice.ensures ∙ c.self.view_is)) ∙ c.in-Some.is in
    let same = ap (λ b. if b then record s { asked = left s.asked } else s)
    (sym c.polls.ensures ∙ c.if-polls.false) in
    same_in f c.args.self.now c.args.at (ap f here ∙ (ap (λ t. Some t) same ∙ sym here))

pub returns-in_default : goal.returns-in_default
returns-in_default g c =
    empty_stays (leaves c.args.ended.now) c.args.self.now c.args.at
    (λ s e. c.in_default.not-Some s (ap (λ xs. cell xs c.args.at) (c.as_slice.ensures ∙ c.self.view_is) ∙ e))
