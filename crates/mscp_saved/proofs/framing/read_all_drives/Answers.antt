use Rattle.mscp_saved.proofs.Common.{◌++◌, drop, ap, ◌∙◌, take_rest, drive_in, drives_in, parts_in}
use Rattle.mscp_saved.proofs.framing.read_all_drives.Goals as goal

pub returns-clause-value : goal.returns-clause-value
returns-clause-value c =
    let b = c.args.b.now in
    let read = ap (parts_in drive_in 34 c.from.result) (take_rest b 48)
    ∙ ap (λ n. parts_in drive_in 34 n (drop 48 b)) c.from.ensures in
    c.read_drives.ensures.items ∙ (ap (λ ds. c.args.drives.now.items ++ ds) read
    ∙ ap (λ ds. ds ++ drives_in b) c.requires.none)
