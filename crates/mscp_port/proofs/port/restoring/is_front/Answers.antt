use Rattle.mscp_port.proofs.Common.{◌≡◌, ◌∙◌, ◌-◌, arith, length, length-drop, take, bytes_eq, told_front, controller_place}
use Rattle.mscp_port.proofs.port.restoring.is_front.Goals as goal

pub returns : goal.returns
returns c =
    let b = c.args.b.now in
    let front : c.as_slice.result.now ≡ told_front b = c.as_slice.ensures.value ∙ c.save_front.ensures in
    let rest : length c.controller_bytes.result.now ≡ length b - controller_place b =
    search (c.controller_bytes.ensures, length-drop) in
    let count : length b - length c.controller_bytes.result.now ≡ controller_place b =
    omega (arith, rest, c.requires.parts) in
    c.eq.ensures ∙ λ i. bytes_eq (front i) (take (count i) b)
