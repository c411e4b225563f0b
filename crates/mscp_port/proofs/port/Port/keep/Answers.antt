use Rattle.mscp_port.proofs.Common.{◌∙◌, inl, inr}
use Rattle.mscp_port.proofs.port.Port.keep.Goals as goal

pub returns-clause-kept : goal.returns-clause-kept
returns-clause-kept g c = λ b there. elim (c.keep.ensures.more b there)
    [ inl before ↦ inl before | inr e ↦ inr (c.match-place_of.changes, e ∙ c.of.ensures) ]
