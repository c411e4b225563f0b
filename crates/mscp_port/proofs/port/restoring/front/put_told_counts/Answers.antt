use Rattle.mscp_port.proofs.Common.{Bool, ◌∷◌, [], refl, ap, flag_byte, first, more}
use Rattle.mscp_port.proofs.port.restoring.front.put_told_counts.Goals as goal

pub returns-clause-items : goal.returns-clause-items
returns-clause-items c =
    let xs = c.args.out.now.items in
    let a = first xs _ _ c.push.ensures.items refl in
    let b = more xs _ _ _ a c.push-2.ensures.items refl in
    let d = more xs _ _ _ b c.push-3.ensures.items refl in
    let e = more xs _ _ _ d c.push-4.ensures.items refl in
    let polled = more xs _ _ _ e c.put_flag.ensures.items (ap (λ (so : Bool). flag_byte so ∷ []) c.flag_at.ensures) in
    let stalled = more xs _ _ _ polled c.put_flag-2.ensures.items
    (ap (λ (so : Bool). flag_byte so ∷ []) c.flag_at-2.ensures) in
    let full = more xs _ _ _ stalled c.put_flag-3.ensures.items
    (ap (λ (so : Bool). flag_byte so ∷ []) c.flag_at-3.ensures) in
    more xs _ _ _ full c.put_flag-4.ensures.items (ap (λ (so : Bool). flag_byte so ∷ []) c.flag_at-4.ensures)
