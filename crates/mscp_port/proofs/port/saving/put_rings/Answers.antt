use Rattle.mscp_port.proofs.Common.{◌++◌, ap, refl, sym, ◌∙◌, first, more, rings_bytes}
use Rattle.mscp_port.proofs.port.saving.put_rings.Goals as goal

pub returns-in-Some-clause-items : goal.returns-in-Some-clause-items
returns-in-Some-clause-items c =
    let xs = c.args.out.now.items in
    more xs _ _ _ (first xs _ _ c.push.ensures.items refl) c.put_area.ensures.items refl
    ∙ ap (λ rings. xs ++ rings_bytes rings) (sym c.in-Some.is)

pub returns-in-None-clause-items : goal.returns-in-None-clause-items
returns-in-None-clause-items c =
    let xs = c.args.out.now.items in
    more xs _ _ _ (first xs _ _ c.push-in-None.ensures.items refl) c.put.ensures.items refl
    ∙ ap (λ rings. xs ++ rings_bytes rings) (sym c.in-None.is)
