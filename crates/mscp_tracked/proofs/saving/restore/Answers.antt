use Rattle.mscp_saved.specs.Restored as saved
use Rattle.mscp_tracked.proofs.Common.{◌∙◌, ap, sym, drop, own_length, resumed}
use Rattle.mscp_tracked.proofs.Back.{restored_long}
use Rattle.mscp_tracked.proofs.saving.restore.Goals as goal

pub returns-in-Err : goal.returns-in-Err
returns-in-Err g c =
    let b = c.args.bytes.now in
    ap (resumed (drop (own_length b) b)) (sym c.in-Err.is ∙ (c.restore.ensures.value
    ∙ ap (saved.restored c.args.number c.args.picker) c.own_bytes.ensures))
    ∙ restored_long c.args.number c.args.picker b c.if-bytes-lt12.false
