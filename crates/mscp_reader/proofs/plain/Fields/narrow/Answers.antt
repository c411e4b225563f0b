use Rattle.mscp_reader.proofs.Common.{◌≤◌, arith}
use Rattle.mscp_reader.proofs.PlainLines.{narrow_is}
use Rattle.mscp_reader.proofs.plain.Fields.narrow.Goals as goal

pub returns : goal.returns
returns c =
    let cut = c.in_ok-value.ensures in
    let small : c.in_ok-value.value ≤ 65535 = omega (arith, c.if-value-from.false, c.from.ensures) in
    (cut.0, narrow_is cut.0 c.in_ok-value.value cut.1 small, cut.2)
