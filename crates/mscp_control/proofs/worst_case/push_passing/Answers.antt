use Rattle.mscp_control.proofs.Common.{◌-◌, [], ◌∷◌, ◌++◌, ap, ◌∙◌, arith, First, queueing, read_command}
use Rattle.mscp_control.proofs.Longest.Builds.{pass_next}
use Rattle.mscp_control.proofs.worst_case.push_passing.Goals as goal

pub loop-passed-preserved : goal.loop-passed-preserved
loop-passed-preserved g c =
    let config = c.args.config.now in
    let unit = c.args.unit.now in
    let so_far = c.loop-passed.invariant in
    let queued = c.push_queued.ensures in
    let ran = c.push_run.ensures in
    let read = c.short_read-read.ensures in
    let command = c.command.ensures ∙ ap (read_command unit) read in
    let came = queued.items ∙ (λ i. so_far.items i ++ queueing First (command i) ∷ []) in
    search (arith, pass_next)
