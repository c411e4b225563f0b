use Rattle.mscp_wire.proofs.Common.{AreTagged, IfOk-from_err, MatchResult-from_err, [], ap, arith, length-take-le, subst, sym, take, ◌++◌, ◌∙◌, ◌∷◌}
use Rattle.std.specs.Prelude.{Some}
use Rattle.mscp_wire.proofs.Tagged.{cut, padded, pushed}
use Rattle.mscp_wire.proofs.cells.Cells.push.Goals as goal

pub invariant_of-self-in_err-push-2 : goal.invariant_of-self-in_err-push-2
invariant_of-self-in_err-push-2 g c =
    let cells = c.self.inside.cells.items in
    let tags = c.self.inside.tags.items in
    subst (λ xs. AreTagged xs c.push.new.self.items) (sym c.in_err-push-2.ensures.items)
    (subst (AreTagged cells) (sym (c.in_ok-push.ensures.items
    ∙ ap (λ ts. ts ++ c.tag_if.result ∷ []) c.truncate.ensures.items))
    (padded cells (take c.len.result tags) (c.tag_if.result ∷ [])
    (cut cells tags c.len.result (omega (arith, c.len.ensures, c.self.inside.cells.ok)) c.self.invariant)))

pub invariant_of-self-2 : goal.invariant_of-self-2
invariant_of-self-2 g c =
    let cells = c.self.inside.cells.items in
    let tags = c.self.inside.tags.items in
    subst (λ xs. AreTagged xs c.push.new.self.items) (sym c.in_ok-push-2.ensures.items)
    (subst (AreTagged (cells ++ Some c.args.command ∷ [])) (sym (c.in_ok-push.ensures.items
    ∙ ap (λ ts. ts ++ c.tag_if.result ∷ []) c.truncate.ensures.items))
    (pushed cells (take c.len.result tags) c.args.command c.tag_if.result
    (omega (
      arith,
      c.len.ensures,
      c.self.inside.cells.ok,
      length-take-le c.len.result tags (omega (arith, c.len.ensures, c.self.inside.cells.ok, c.self.invariant.many)),
    ))
    (cut cells tags c.len.result (omega (arith, c.len.ensures, c.self.inside.cells.ok)) c.self.invariant)
    c.tag_if.ensures))

pub invariant_of-self : goal.invariant_of-self
invariant_of-self g c =
    let cells = c.self.inside.cells.items in
    let tags = c.self.inside.tags.items in
    subst (AreTagged cells) (sym (c.in_err-push.ensures.items ∙ c.truncate.ensures.items))
    (cut cells tags c.len.result (omega (arith, c.len.ensures, c.self.inside.cells.ok)) c.self.invariant)

pub returns-in_err-push-clause-pushed : goal.returns-in_err-push-clause-pushed
returns-in_err-push-clause-pushed g c = IfOk-from_err c.from_residual.result _ c.from_residual.ensures.0

pub returns-in_err-push-clause-refused : goal.returns-in_err-push-clause-refused
returns-in_err-push-clause-refused g c =
    MatchResult-from_err c.from_residual.result _ _ c.from_residual.ensures.0 (λ _. c.self.view_is)

pub returns-in_err-push-2-clause-pushed : goal.returns-in_err-push-2-clause-pushed
returns-in_err-push-2-clause-pushed g c =
    IfOk-from_err c.from_residual-in_err-push-2.result _ c.from_residual-in_err-push-2.ensures.0

pub returns-in_err-push-2-clause-refused : goal.returns-in_err-push-2-clause-refused
returns-in_err-push-2-clause-refused g c =
    MatchResult-from_err c.from_residual-in_err-push-2.result _ _ c.from_residual-in_err-push-2.ensures.0
    (λ _. c.in_err-push-2.ensures.items ∙ c.self.view_is)

pub returns-clause-pushed : goal.returns-clause-pushed
returns-clause-pushed g c =
    c.in_ok-push-2.ensures.items ∙ ap (λ xs. xs ++ Some c.args.command ∷ []) c.self.view_is
