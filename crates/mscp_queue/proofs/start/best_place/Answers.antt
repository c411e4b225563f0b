use Rattle.mscp_queue.proofs.Common.{◌≡◌, length, arith, sym, subst, ◌∙◌, IsBest, IsFirstOf, commands, cost_of}
use Rattle.mscp_queue.proofs.Aims.{IsBelow, below_more, best_first, none_below}
use Rattle.mscp_queue.proofs.start.best_place.Goals as goal

pub loop-at-init : goal.loop-at-init
loop-at-init c = record { favored = c.requires.favored; best = none_below c.none-first.result c.none-first.ensures }

pub loop-at-preserved : goal.loop-at-preserved
loop-at-preserved c = search (arith, below_more)

pub returns-clause-first : goal.returns-clause-first
returns-clause-first c =
    let all : c.loop-at.at ≡ length c.args.drives.now = omega (arith, c.loop-at.auto.at-end, c.loop-at-test.false) in
    subst (IsFirstOf c.args.drives.now (commands c.args.backlog.now.waiting)) (sym (c.from.ensures ∙ c.place.ensures))
    (best_first c.requires.waiting c.requires.units c.loop-at.first
    (subst (λ n. IsBest (IsBelow c.args.drives.now (commands c.args.backlog.now.waiting) n)
    (cost_of c.args.drives.now (commands c.args.backlog.now.waiting)) c.loop-at.first) all c.loop-at.invariant.best)
    c.requires.some)
