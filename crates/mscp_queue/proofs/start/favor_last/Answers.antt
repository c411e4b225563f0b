use Rattle.mscp_queue.proofs.Basics.{◌≡◌, ◌+◌, ◌-◌, ◌<◌, take, length, ap, sym, subst, ◌∙◌, arith, Target, has_drive_there, order_cost}
use Rattle.mscp_queue.proofs.Common.{AreFavored, commands}
use Rattle.mscp_queue.proofs.Favored.{clear_is}
use Rattle.mscp_queue.proofs.Starting.{free_is}
use Rattle.mscp_queue.proofs.Arrived.{arrived, still, unknown}
use Rattle.mscp_queue.specs.Starts.{Start}
use Rattle.mscp_queue.proofs.start.favor_last.Goals.{else-knows-via-then-knows+else-is_free, else-knows-via-else-knows}
use Rattle.mscp_queue.proofs.start.favor_last.Goals as goal

pub knows-requires : goal.knows-requires
knows-requires c = search (arith, has_drive_there)

pub come-requires : goal.come-requires
come-requires c =
    let rs = c.args.backlog.now.waiting in
    let n = c.len-place.result - 1 in
    let inside : n < length rs = (let some = c.requires.some in omega (arith, some, c.len-place.ensures.waiting)) in
    (has_drive_there c.args.drives.now rs c.args.backlog.now.targets n c.from-at.result c.requires.waiting inside
    (c.from-at.ensures ∙ ap (λ (a : Target). a.drive) c.target.ensures)).few

pub returns-then-is_free : goal.returns-then-is_free
returns-then-is_free c =
    let rs = c.args.backlog.now.waiting in
    let n = c.len-place.result - 1 in
    let long : length rs ≡ n + 1 =
    (let some = c.requires.some in omega (arith, some, c.len-place.ensures.waiting)) in
    let clear = clear_is rs n (omega (arith, long))
    ∙ (sym (free_is c.args.drives.now rs c.args.backlog.now.targets n c.requires.waiting (omega (arith, long)))
    ∙ (sym c.is_free.ensures ∙ c.if-is_free.true)) in
    arrived c.requires.waiting c.requires.units n long c.from-at.result _
    (subst (λ k. AreFavored c.args.drives.now (take (k - 1) (commands rs)) c.args.favorites.now)
    (sym c.len-place.ensures.waiting) c.requires.favored) clear
    (has_drive_there c.args.drives.now rs c.args.backlog.now.targets n c.from-at.result c.requires.waiting
    (omega (arith, long))
    (c.from-at.ensures ∙ ap (λ (a : Target). a.drive) c.target.ensures)).place
    (ap (λ (s : Start). s.place) c.of.ensures)
    (ap (λ (s : Start). s.cost) c.of.ensures ∙ c.cost_of.ensures.value
    ∙ (λ i. order_cost (c.targeted_at-cylinder.ensures.drive i).unit
    (c.targeted_at-cylinder.ensures.drive i).head (c.targeted_at-cylinder.ensures.record i).command.order))
    (sym c.knows.ensures ∙ c.if-knows.true) c.come.ensures

pub returns-else-knows : goal.returns-else-knows
returns-else-knows c =
    let rs = c.args.backlog.now.waiting in
    let n = c.len-place.result - 1 in
    let long : length rs ≡ n + 1 =
    (let some = c.requires.some in omega (arith, some, c.len-place.ensures.waiting)) in
    let front = subst (λ k. AreFavored c.args.drives.now (take (k - 1) (commands rs)) c.args.favorites.now)
    (sym c.len-place.ensures.waiting) c.requires.favored in
    elim c.else-knows.branch [
      | else-knows-via-then-knows+else-is_free w ↦
          still c.requires.waiting c.requires.units n long c.args.favorites.now front
          (clear_is rs n (omega (arith, long))
          ∙ (sym (free_is c.args.drives.now rs c.args.backlog.now.targets n c.requires.waiting
          (omega (arith, long))) ∙ (sym w.is_free.ensures ∙ w.if-is_free.false)))
      | else-knows-via-else-knows w ↦
          unknown c.requires.waiting c.requires.units n long c.args.favorites.now c.from-at.result front
          (has_drive_there c.args.drives.now rs c.args.backlog.now.targets n c.from-at.result c.requires.waiting
          (omega (arith, long))
          (c.from-at.ensures ∙ ap (λ (a : Target). a.drive) c.target.ensures)).place
          (sym c.knows.ensures ∙ w.if-knows.false)
    ]
