use Rattle.mscp_wire.proofs.Common.{Row, Table, ap, arith, eqb-false, get_or, get_or-set_other, get_or-set_same, length, no_pair, not-false, not-true, sym, ◌+◌, ◌<◌, ◌∙◌, ◌≡◌}
use Rattle.mscp_wire.proofs.Tables.{resized, with_numbers, without_numbers}
use Rattle.mscp_wire.proofs.table.Table.put_numbers.Goals.{then-len-place+in_ok-resize, else-len-place}
use Rattle.mscp_wire.proofs.table.Table.put_numbers.Goals as goal

pub returns-then-not-of-clause-own : goal.returns-then-not-of-clause-own
returns-then-not-of-clause-own g c =
    without_numbers c.args.entry.now _ (sym (ap (λ (r : Row). r.numbered) c.of.ensures) ∙ not-true _ c.if-not-of.true)

pub returns-clause-own : goal.returns-clause-own
returns-clause-own g c =
    let few : c.args.place < length c.if-len-place.self.pairs.items = elim c.if-len-place.branch [
      | then-len-place+in_ok-resize w ↦
          omega (
            arith,
            ap (λ (t : Table g.row.A.Denot). length t.pairs.items) w.self-is,
            w.in_ok-resize.ensures.len,
            w.resize.new.self.ok,
          )
      | else-len-place w ↦
          omega (
            arith,
            ap (λ (t : Table g.row.A.Denot). length t.pairs.items) w.self-is,
            w.if-len-place.false,
            c.len.ensures,
          )
    ] in
    with_numbers c.args.entry.now _ (sym (ap (λ (r : Row). r.numbered) c.of.ensures) ∙ not-false _ c.if-not-of.false)
    (get_or-set_same c.if-len-place.self.pairs.items c.args.place c.of-2.result no_pair few ∙ c.of-2.ensures)

pub returns-clause-others : goal.returns-clause-others
returns-clause-others g c = λ other apart.
    let old = c.args.self.now.pairs.items in
    let same : get_or c.if-len-place.self.pairs.items other no_pair ≡ get_or old other no_pair =
    elim c.if-len-place.branch [
      | then-len-place+in_ok-resize w ↦
          ap (λ (t : Table g.row.A.Denot). get_or t.pairs.items other no_pair) w.self-is
          ∙ resized no_pair _ old w.resize.new.self.items (c.args.place + 1) _ other w.in_ok-resize.ensures.items
          w.none.ensures
          (omega (arith, w.if-len-place.true, c.len.ensures))
      | else-len-place w ↦ ap (λ (t : Table g.row.A.Denot). get_or t.pairs.items other no_pair) w.self-is
    ] in
    get_or-set_other c.if-len-place.self.pairs.items c.args.place other c.of-2.result no_pair
    (eqb-false other c.args.place apart) ∙ same
