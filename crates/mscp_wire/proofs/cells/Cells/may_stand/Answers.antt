use Rattle.mscp_wire.proofs.Common.{ap, is_sought, nat_eq, sym, ◌%◌, ◌||◌, ◌∙◌}
use Rattle.mscp_wire.proofs.Tagged.{by_tags, equal, waiting}
use Rattle.mscp_wire.proofs.cells.Cells.may_stand.Goals as goal

pub returns-in-WaitedFor : goal.returns-in-WaitedFor
returns-in-WaitedFor g c = λ none.
    by_tags (is_sought c.args.sought.now) (λ t. nat_eq (t % 4) c.tag_waiting.result)
    (λ s q. equal _ _ (waiting c.in-WaitedFor.connection s (sym (ap (λ o. is_sought o s) c.in-WaitedFor.is) ∙ q)
    ∙ sym c.tag_waiting.ensures))
    c.self.inside.cells.items c.args.self.now c.self.inside.tags.items c.deref.result.now c.args.from c.args.end
    c.self.invariant c.self.view_is c.deref.ensures.value c.requires.few (c.have_left.ensures none)

pub returns-in-Some : goal.returns-in-Some
returns-in-Some g c = λ none.
    by_tags (is_sought c.args.sought.now) (λ t. nat_eq t c.in-Some.one || nat_eq t c.in-Some.other)
    c.in-Some.ensures
    c.self.inside.cells.items c.args.self.now c.self.inside.tags.items c.deref.result.now c.args.from c.args.end
    c.self.invariant c.self.view_is c.deref.ensures.value c.requires.few (c.have_either.ensures none)
