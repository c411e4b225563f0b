use Rattle.mscp_wire.proofs.Common.{ap, has_other, is_some, key, not, refl, sym, ◌&&◌, ◌∙◌}
use Rattle.std.proofs.Common.{nat_eq}
use Rattle.std.specs.HashMap as hashed
use Rattle.mscp_wire.proofs.Middles.{sure_by}
use Rattle.mscp_wire.proofs.middle.Middle.is_sure.Goals as goal

pub returns-then-contains_key : goal.returns-then-contains_key
returns-then-contains_key g c = λ h strangers s.
    sym (ap (λ b. b && not c.has_other.result) c.if-contains_key.true)
    ∙ sure_by h strangers c.args.self.now c.args.answer.now c.contains_key.result c.has_other.result s
    (c.contains_key.ensures ∙ ap (λ k. is_some (hashed.get nat_eq c.args.self.now.units k))
    (c.key.ensures ∙ ap (key c.args.answer.now.connection) c.from.ensures))
    c.has_other.ensures

pub returns-else-contains_key : goal.returns-else-contains_key
returns-else-contains_key g c = λ h strangers s.
    let other = has_other c.args.self.now c.args.answer.now.connection in
    c.if-contains_key.false ∙ ap (λ b. b && not other) (sym c.if-contains_key.false)
    ∙ sure_by h strangers c.args.self.now c.args.answer.now c.contains_key.result other s
    (c.contains_key.ensures ∙ ap (λ k. is_some (hashed.get nat_eq c.args.self.now.units k))
    (c.key.ensures ∙ ap (key c.args.answer.now.connection) c.from.ensures)) refl
