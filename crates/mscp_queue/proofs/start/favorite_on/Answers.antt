use Rattle.mscp_queue.proofs.Common.{ap, not, nat_eq, sym, ◌∙◌, subst, IsBest, IsClearOn, commands, cost_at, drive_in}
use Rattle.mscp_queue.specs.Starts.{Start}
use Rattle.mscp_queue.proofs.start.favorite_on.Goals as goal

pub returns-then-is_known-clause-best : goal.returns-then-is_known-clause-best
returns-then-is_known-clause-best c =
    subst (IsBest (IsClearOn (commands c.args.backlog.now.waiting) (drive_in c.args.drives.now c.args.at).unit.number)
    (cost_at (drive_in c.args.drives.now c.args.at) (commands c.args.backlog.now.waiting))) (sym c.start-kept.ensures)
    (c.requires.favored.each c.args.at c.requires.drive
    (ap (λ (s : Start). not (nat_eq s.place 255)) (sym c.start-kept.ensures)
    ∙ (sym c.is_known.ensures ∙ c.if-is_known.true)))
