use Rattle.mscp_wire.proofs.Common.{First, Second, ap, arith, sents, sym, ◌∙◌, ◌≡◌}
use Rattle.mscp_wire.specs.Wire as wire
use Rattle.mscp_wire.proofs.Placed.{both_few}
use Rattle.mscp_wire.proofs.commands.Commands.count_on.Goals.{in-First, in-Second}
use Rattle.mscp_wire.proofs.commands.Commands.count_on.Goals as goal

pub returns-clause-count : goal.returns-clause-count
returns-clause-count g c =
    let few = both_few c.self.inside.cells c.self.inside.tallies c.self.invariant in
    elim c.match-connection.branch [
      | in-First w ↦
          let whole : c.min.result ≡ c.self.inside.tallies.first =
          omega (arith, c.min.ensures, w.count-is, c.len.ensures.count, few.0, few.1) in
          whole ∙ (c.self.invariant.first ∙ (ap (λ xs. wire.count_on First (sents xs)) c.self.view_is
          ∙ ap (λ v. wire.count_on v (sents c.args.self.now)) (sym w.in-First.is)))
      | in-Second w ↦
          let whole : c.min.result ≡ c.self.inside.tallies.second =
          omega (arith, c.min.ensures, w.count-is, c.len.ensures.count, few.0, few.1) in
          whole ∙ (c.self.invariant.second ∙ (ap (λ xs. wire.count_on Second (sents xs)) c.self.view_is
          ∙ ap (λ v. wire.count_on v (sents c.args.self.now)) (sym w.in-Second.is)))
    ]

pub returns-clause-bound : goal.returns-clause-bound
returns-clause-bound g c = omega (arith, c.min.ensures, c.len.ensures.bound)
