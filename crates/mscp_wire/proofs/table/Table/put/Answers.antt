use Rattle.mscp_wire.proofs.Common.{Entry, IfOk-from_err, Some, [], ap, arith, get_or, get_or_default_zero, if◌then◌else◌, nat_eq, row_of, set, ◌++◌, ◌∙◌, ◌∷◌}
use Rattle.mscp_wire.proofs.Tables.{at_place, found_pushed, found_set}
use Rattle.mscp_wire.proofs.table.Table.put.Goals as goal

pub returns-then-index-number : goal.returns-then-index-number
returns-then-index-number g c = λ other.
    let e : Entry = record { number = c.args.number; first = c.args.first; second = c.args.second } in
    let xs = c.begin.new.self.rows.items in
    let ms = c.put_numbers.new.self.pairs.items in
    let ps = c.begin.new.self.places.items in
    let place = c.index-place.result.now in
    ap (λ zs. at_place (set c.put_numbers.new.self.rows.items place c.of.result) ms other (get_or zs other 0))
    c.put_numbers.ensures.places
    ∙ ap (λ zs. at_place (set zs place c.of.result) ms other (get_or ps other 0)) c.put_numbers.ensures.rows
    ∙ ap (λ r. at_place (set xs place r) ms other (get_or ps other 0)) c.of.ensures
    ∙ found_set xs c.begin.new.self.pairs.items ms ps e c.index.result.now place
    (omega (arith, c.if-place-len.true, c.len.ensures))
    (c.index-place.ensures ∙ get_or_default_zero ps c.args.number place
    (omega (arith, c.ranges.number.fits, c.in_ok-begin.ensures.places)))
    c.index.ensures c.if-index-number.true c.in_ok-put_numbers.ensures.own c.in_ok-put_numbers.ensures.others other
    ∙ ap (λ o. if nat_eq c.args.number other then Some e else o) (c.begin.ensures.same other)

pub returns : goal.returns
returns g c = λ other.
    let e : Entry = record { number = c.args.number; first = c.args.first; second = c.args.second } in
    let xs = c.begin.new.self.rows.items in
    let ms = c.put_numbers-2.new.self.pairs.items in
    let ps = c.begin.new.self.places.items in
    let last = c.len-last.result in
    let old = c.put_numbers-2.new.self.places.items in
    ap (λ zs. at_place zs ms other (get_or (set old c.args.number last) other 0)) c.in_ok-push.ensures.items
    ∙ ap (λ zs. at_place (zs ++ c.of-2.result ∷ []) ms other (get_or (set old c.args.number last) other 0))
    c.put_numbers-2.ensures.rows
    ∙ ap (λ r. at_place (xs ++ r ∷ []) ms other (get_or (set old c.args.number last) other 0)) c.of-2.ensures
    ∙ ap (λ zs. at_place (xs ++ row_of e ∷ []) ms other (get_or (set zs c.args.number last) other 0))
    c.put_numbers-2.ensures.places
    ∙ found_pushed xs c.begin.new.self.pairs.items ms ps e last
    (omega (arith, c.ranges.number.fits, c.in_ok-begin.ensures.places)) (omega (arith, c.len-last.ensures))
    c.in_ok-put_numbers-2.ensures.own c.in_ok-put_numbers-2.ensures.others other
    ∙ ap (λ o. if nat_eq c.args.number other then Some e else o) (c.begin.ensures.same other)

pub returns-in_err-begin : goal.returns-in_err-begin
returns-in_err-begin g c = IfOk-from_err c.from_residual.result _ c.from_residual.ensures.0

pub returns-in_err-put_numbers : goal.returns-in_err-put_numbers
returns-in_err-put_numbers g c =
    IfOk-from_err c.from_residual-in_err-put_numbers.result _ c.from_residual-in_err-put_numbers.ensures.0

pub returns-in_err-put_numbers-2 : goal.returns-in_err-put_numbers-2
returns-in_err-put_numbers-2 g c =
    IfOk-from_err c.from_residual-in_err-put_numbers-2.result _ c.from_residual-in_err-put_numbers-2.ensures.0

pub returns-in_err-push : goal.returns-in_err-push
returns-in_err-push g c = IfOk-from_err c.from_residual-in_err-push.result _ c.from_residual-in_err-push.ensures.0
