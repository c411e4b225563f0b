use Rattle.mscp_logged.proofs.Common.{ap, is_some}
use Rattle.mscp_wire.specs.declared.rule.Rule.TheVariants as rules
use Rattle.mscp_logged.proofs.Begun.{begun}
use Rattle.mscp_logged.proofs.Logging.{stated}
use Rattle.mscp_logged.proofs.Placed.{Any, keeps_rule}
use Rattle.mscp_logged.proofs.law.ports_answer_what_is_outstanding.Goals as goal

pub returns : goal.returns
returns g c = λ s before controller hardware credits start p calls valid was quiet made asks reads a limit host.
    keeps_rule Any ⊥ ⊥ limit rules.Outstanding _ _ _
    (stated Any ⊥ ⊥ (begun g.K.Picker.picks s c.args.picker.now valid before hardware credits controller start was made
    quiet) c.ports_end_what_they_took.ensures c.ports_tell_in_order.ensures (λ calls. Unit {0})
    (λ call calls fine. tt) (λ p call calls reads fine a q. tt)
    (λ p call calls reads fine a q never. absurd never) (λ old text o own kind never. absurd never)
    (λ p call calls reads fine a q never. absurd never) (λ p call calls reads fine a q own kind never. absurd never)
    (λ old text o small own kind. tt) limit p calls asks
    reads tt a host) (λ h m. Unit {0}) (λ i low. tt) (λ i b low tied more. ap is_some tied.at) host
