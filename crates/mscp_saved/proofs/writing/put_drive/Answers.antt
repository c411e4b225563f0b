use Rattle.mscp_saved.proofs.Common.{◌∷◌, [], refl, ap}
use Rattle.mscp_saved.proofs.Bytes.{grow, more}
use Rattle.mscp_saved.proofs.writing.put_drive.Goals as goal

pub returns-clause-items : goal.returns-clause-items
returns-clause-items c =
    let xs = c.args.out.now.items in
    let a = more xs _ _ _ c.put_sizes.ensures.items c.put_identifiers.ensures.items refl in
    let b = more xs _ _ _ a c.put_one.ensures.items (ap (λ n. n ∷ []) c.flag_byte.ensures) in
    let e = more xs _ _ _ b c.put_one-2.ensures.items (ap (λ n. n ∷ []) c.flag_byte-2.ensures) in
    grow xs _ 4 _ c.args.drive.now.head.cylinder e c.put_four.ensures.items refl
