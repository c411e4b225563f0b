use Rattle.mscp_wire.proofs.Common.{Some, ap, besides, cell, false, if◌then◌else◌, not, option_map, sym, true, turns_beside, ◌&&◌, ◌∙◌, ◌≡◌}
use Rattle.mscp_wire.proofs.Placed.{empty_stays, kept_put, put_over, same_in}
use Rattle.mscp_wire.proofs.Marking.{never_turned, unmarked}
use Rattle.mscp_wire.proofs.commands.Commands.mark_in.Goals.{else-not-other-via-then-not-other+else-turns_beside, else-not-other-via-else-not-other}
use Rattle.mscp_wire.proofs.commands.Commands.mark_in.Goals as goal

pub returns-else-not-other : goal.returns-else-not-other
returns-else-not-other g c =
    let y = c.args.ended.now in
    let s = c.in-Some.other in
    let f = option_map (besides y) in
    let here : cell c.args.self.now c.args.at ≡ Some s =
    sym (ap (λ xs. cell xs c.args.at) (c.as_slice.ensures ∙ c.self.view_is)) ∙ c.in-Some.is in
    let none : (not s.beside && turns_beside y s) ≡ false =
    elim c.else-not-other.branch [
      | else-not-other-via-then-not-other+else-turns_beside w ↦
          never_turned s.beside (turns_beside y s) (sym w.turns_beside.ensures ∙ w.if-turns_beside.false)
      | else-not-other-via-else-not-other w ↦ ap (λ q. not q && turns_beside y s) w.if-not-other.false
    ] in
    same_in f c.args.self.now c.args.at
    (ap f here ∙ (ap (λ t. Some t) (unmarked y s none) ∙ sym here))

pub invariant_of-self : goal.invariant_of-self
invariant_of-self g c =
    let s = c.in-Some.other in
    kept_put c.self.inside.tallies c.mark.new.self c.self.inside.cells c.put.new.self c.args.at s c.marked.result
    (record s { beside = true })
    (sym (ap (λ ys. cell ys c.args.at) c.as_slice.ensures) ∙ c.in-Some.is)
    (c.marked.ensures ∙ ap (λ b. if b then record s { beside = true } else s)
    (sym c.turns_beside.ensures ∙ c.if-turns_beside.true))
    c.put.ensures c.mark.ensures c.self.invariant

pub returns-then-turns_beside : goal.returns-then-turns_beside
returns-then-turns_beside g c =
    put_over (besides c.args.ended.now) c.self.inside.cells c.args.self.now c.put.new.self c.args.at c.in-Some.other
    c.marked.result c.self.view_is (sym (ap (λ ys. cell ys c.args.at) c.as_slice.ensures) ∙ c.in-Some.is)
    c.marked.ensures c.put.ensures

pub returns-in_default : goal.returns-in_default
returns-in_default g c =
    empty_stays (besides c.args.ended.now) c.args.self.now c.args.at
    (λ s e. c.in_default.not-Some s (ap (λ xs. cell xs c.args.at) (c.as_slice.ensures ∙ c.self.view_is) ∙ e))
