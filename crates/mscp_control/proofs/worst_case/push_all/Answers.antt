use Rattle.mscp_control.proofs.Common.{[], ◌∷◌, ◌++◌, ap, sym, ◌∙◌, arith, queueing, read_command}
use Rattle.mscp_control.proofs.Longest.Builds.{come_next}
use Rattle.mscp_control.proofs.worst_case.push_all.Goals as goal

pub loop-before-preserved : goal.loop-before-preserved
loop-before-preserved g c =
    let config = c.args.config.now in
    let unit = c.args.unit.now in
    let before = c.loop-before.before in
    let so_far = c.loop-before.invariant in
    let queued = c.push_queued.ensures in
    let read = c.long_read-read.ensures in
    let command = c.command.ensures ∙ ap (read_command unit) read in
    record {
      items = queued.items
          ∙ ((λ i. so_far.items i ++ queueing (read i).connection (command i) ∷ [])
          ∙ sym (come_next config unit c.args.trace.now.items before));
      len = let len = queued.len in let old = so_far.len in omega (arith, len, old);
      room = queued.same_room ∙ so_far.room;
    }
