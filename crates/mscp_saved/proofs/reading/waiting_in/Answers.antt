use Rattle.mscp_saved.proofs.Common.{sym, ◌≤◌, length, arith, length-take-le}
use Rattle.mscp_saved.proofs.reading.waiting_in.Goals as goal

pub slice_bounds-command_in-end : goal.slice_bounds-command_in-end
slice_bounds-command_in-end c =
    let few : 32 ≤ length c.args.b.now = omega arith in
    sym (length-take-le 32 c.args.b.now few)
