use Rattle.mscp_queue.proofs.Common.{ap, sym, ◌∙◌, Drive, units_of}
use Rattle.mscp_queue.proofs.Turns.{pairs_rise}
use Rattle.mscp_queue.proofs.Drives.{place_is}
use Rattle.mscp_queue.proofs.Targets.{place_same}
use Rattle.mscp_queue.proofs.target.place_of_drive.Goals as goal

pub returns-then-number-clause-value : goal.returns-then-number-clause-value
returns-then-number-clause-value c =
    let ds = c.args.drives.now in
    let d = c.index-drives-likely.result in
    sym (place_is ds c.from-likely.result c.args.number d (pairs_rise (units_of ds) c.requires.units.rising)
    c.if-likely-drives.true c.index-drives-likely.is
    (ap (λ (d : Drive). d.unit.number) c.index-drives-likely.is ∙ (sym c.number.ensures ∙ c.if-number.true)))
    ∙ place_same ds c.args.number
