use Rattle.mscp_wire.proofs.Common.{ap, sents, sym, ◌∙◌}
use Rattle.mscp_wire.proofs.Marking.{none_marked, still}
use Rattle.mscp_wire.proofs.commands.Commands.mark.Goals.{then-not-turns-via-then-not-turns, then-not-turns-via-else-not-turns+then-has_no_status}
use Rattle.mscp_wire.proofs.commands.Commands.mark.Goals as goal

pub returns-then-not-turns : goal.returns-then-not-turns
returns-then-not-turns g c =
    elim c.then-not-turns.branch [
      | then-not-turns-via-then-not-turns w ↦
          still c.args.ended.now (sym c.turns.ensures ∙ w.if-not-turns.true) (sents c.args.self.now)
      | then-not-turns-via-else-not-turns+then-has_no_status w ↦
          none_marked c.args.ended.now _ _ (sents c.args.self.now) _ (ap sents c.self.view_is)
          c.self.invariant.statuses c.self.invariant.nexts
          (sym w.has_no_status.ensures ∙ w.if-has_no_status.true)
    ]
