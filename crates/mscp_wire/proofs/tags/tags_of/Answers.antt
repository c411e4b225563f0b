use Rattle.mscp_wire.proofs.Common.{ap, is_sought, nat_eq, sym, tag, tag_of, true, ◌||◌, ◌∙◌}
use Rattle.mscp_wire.proofs.Tagged.{aborting, beside, has_two, keeping, polling, turning}
use Rattle.mscp_wire.proofs.tags.tags_of.Goals as goal

pub returns-in-AbortOf : goal.returns-in-AbortOf
returns-in-AbortOf c = λ s q.
    has_two (tag_of s) _ _ _ (aborting c.in-AbortOf.other s (sym (ap (λ o. is_sought o s) c.in-AbortOf.is) ∙ q))
    c.tag_about.ensures c.tag_about-in-AbortOf.ensures

pub returns-in-PollOf : goal.returns-in-PollOf
returns-in-PollOf c = λ s q.
    has_two (tag_of s) _ _ _ (polling c.in-PollOf.other s (sym (ap (λ o. is_sought o s) c.in-PollOf.is) ∙ q))
    c.tag_about-in-PollOf.ensures c.tag_about-in-PollOf-2.ensures

pub returns-in-Keeping : goal.returns-in-Keeping
returns-in-Keeping c = λ s q.
    has_two (tag_of s) _ _ _ (keeping c.in-Keeping.other s (sym (ap (λ o. is_sought o s) c.in-Keeping.is) ∙ q))
    c.tag_lined-tag.ensures c.tag_lined-tag.ensures

pub returns-in-Turning : goal.returns-in-Turning
returns-in-Turning c = λ s q.
    has_two (tag_of s) _ _ _
    (turning c.in-Turning.connection c.in-Turning.unit s (sym (ap (λ o. is_sought o s) c.in-Turning.is) ∙ q))
    c.tag_lined-tag-in-Turning.ensures c.tag_lined-tag-in-Turning.ensures

pub returns-in-Beside : goal.returns-in-Beside
returns-in-Beside c = λ s q.
    ap (λ t. nat_eq (tag_of s) t || nat_eq (tag_of s) c.tags_beside.result.1) c.tags_beside.ensures.unit
    ∙ (ap (λ t. nat_eq (tag_of s) (tag c.in-Beside.other.connection c.in-Beside.other.unit true) || nat_eq (tag_of s) t)
    c.tags_beside.ensures.next
    ∙ beside c.in-Beside.other s (sym (ap (λ o. is_sought o s) c.in-Beside.is) ∙ q))
