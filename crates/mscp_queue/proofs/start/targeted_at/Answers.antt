use Rattle.mscp_queue.proofs.Basics.{ap, subst, sym, ◌∙◌, get_or_default, Record, Target, no_target, no_record, record_at, LeadsTo, has_drive, leads_to}
use Rattle.mscp_queue.specs.Targets.{IsTargeted}
use Rattle.mscp_queue.proofs.start.targeted_at.Goals as goal

pub bounds-drives-from : goal.bounds-drives-from
bounds-drives-from c =
    let rs = c.args.backlog.now.waiting in
    let r = record_at rs c.args.place in
    (has_drive _ rs _ c.args.place r _ no_target c.requires.waiting c.requires.place
    (sym (get_or_default rs c.args.place r no_record c.requires.place))
    (c.from.ensures ∙ ap (λ (a : Target). a.drive) c.target-target.ensures)).below

found : (c : goal.After-index-drives-from) → LeadsTo c.args.drives.now c.args.backlog.now.waiting
    c.args.place (record_at c.args.backlog.now.waiting c.args.place) c.index-drives-from.result
    c.target-target.result.cylinder
found c =
    let rs = c.args.backlog.now.waiting in
    let place = c.args.place in
    let r = record_at rs place in
    let own = sym (get_or_default rs place r no_record c.requires.place) in
    subst (λ (a : Target). LeadsTo c.args.drives.now rs place r c.index-drives-from.result a.cylinder)
    (sym c.target-target.ensures) (leads_to _ rs _ place r _ no_target _ c.requires.waiting
    c.requires.place own (c.from.ensures ∙ ap (λ (a : Target). a.drive) c.target-target.ensures) c.index-drives-from.is)

pub returns-clause-drive : goal.returns-clause-drive
returns-clause-drive c = (found c).drive

pub returns-clause-targeted : goal.returns-clause-targeted
returns-clause-targeted c =
    let t = (found c).targeted in
    subst (λ (r : Record). IsTargeted c.index-drives-from.result c.target-target.result.cylinder r)
    (sym c.record.ensures) (record { head = t.head; block = t.block; cylinder_is = t.cylinder_is })
