use Rattle.mscp_saved.proofs.Common.{◌++◌, ap, ◌∙◌}
use Rattle.std.proofs.lemmas.List.{take-replicate}
use Rattle.mscp_saved.proofs.fields.put_zeros.Goals as goal

pub returns-clause-items : goal.returns-clause-items
returns-clause-items c =
    c.put.ensures.items ∙ ap (λ zs. c.args.out.now.items ++ zs) (take-replicate c.args.count 48 0 c.requires.few)
