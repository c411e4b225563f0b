use Rattle.mscp_wire.proofs.Common.{ap, arith, length, sents}
use Rattle.mscp_wire.proofs.Names.{begun}
use Rattle.mscp_wire.proofs.commands.Commands.begin.Goals as goal

pub invariant_of-self : goal.invariant_of-self
invariant_of-self g c =
    begun _ _ _ (omega (
      arith,
      c.if-len-gt0.false,
      c.len.ensures,
      ap (λ xs. length (sents xs)) c.self.view_is,
    )) c.self.invariant c.begin.ensures

pub invariant_of-self-in_err-resize : goal.invariant_of-self-in_err-resize
invariant_of-self-in_err-resize g c =
    begun _ _ _ (omega (
      arith,
      c.if-len-gt0.false,
      c.len.ensures,
      ap (λ xs. length (sents xs)) c.self.view_is,
    )) c.self.invariant c.begin.ensures

pub invariant_of-self-2 : goal.invariant_of-self-2
invariant_of-self-2 g c =
    begun _ _ _ (omega (
      arith,
      c.if-len-gt0.false,
      c.len.ensures,
      ap (λ xs. length (sents xs)) c.self.view_is,
    )) c.self.invariant c.begin.ensures
