use Rattle.mscp_port.proofs.Common.{◌∙◌, ◌++◌, ap, take, replicate, take-replicate}
use Rattle.mscp_port.proofs.port.writing.zeros.Goals as goal

pub returns : goal.returns
returns c =
    c.put.ensures.items ∙ ap (λ xs. xs ++ take c.args.count (replicate 64 0)) c.new-bytes.ensures
    ∙ take-replicate c.args.count 64 0 c.requires
