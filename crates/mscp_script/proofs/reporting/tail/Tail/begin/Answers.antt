use Rattle.mscp_script.proofs.Common.{◌∷◌, ap, ◌∙◌, arith, drop_of_length-le, drop-set}
use Rattle.mscp_script.proofs.reporting.tail.Tail.begin.Goals as goal

pub returns : goal.returns
returns c =
    let room = c.self.inside.room in
    drop-set room 107 10 (omega (arith, c.self.told))
    ∙ ap (λ xs. 10 ∷ xs) (drop_of_length-le room {i = 108} (omega (arith, c.self.told)))
