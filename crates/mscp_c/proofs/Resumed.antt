-- What comes of a restore, by what is told of the bytes.
use Rattle.mscp_c.proofs.Common.{◌≡◌, ◌∙◌, ℕ, List, ap, sym, Option, Policy, RestoreFault, held_in, restored, unless, PortFault, policy_named, policy_number, restored_by}
use Rattle.mscp_port.specs.Restored as ports
use Rattle.mscp_c.specs.PortSaving as saving

-- the bytes say the controller with the policy that they name, or this fault
pub comes_of : (b : List ℕ) {policy : Policy} {number : ℕ} {o p : Option RestoreFault} → policy ≡ policy_named b
    → number ≡ policy_number policy → restored number policy b ≡ unless (held_in policy b) o → o ≡ p
    → restored_by b ≡ unless (held_in (policy_named b) b) p
comes_of b {policy} named numbered value is =
    sym (ap (λ (p : Policy). restored (policy_number p) p b) named)
    ∙ (sym (ap (λ (n : ℕ). restored n policy b) numbered)
    ∙ (value ∙ λ i. unless (held_in (named i) b) (is i)))

-- the same of a port
pub port_comes_of : (b : List ℕ) {policy : Policy} {number : ℕ} {o p : Option PortFault}
    → policy ≡ saving.policy_named b → number ≡ policy_number policy
    → ports.restored number policy b ≡ ports.unless (ports.held_in policy b) o → o ≡ p
    → saving.restored_by b ≡ ports.unless (ports.held_in (saving.policy_named b) b) p
port_comes_of b {policy} named numbered value is =
    sym (ap (λ (p : Policy). ports.restored (policy_number p) p b) named)
    ∙ (sym (ap (λ (n : ℕ). ports.restored n policy b) numbered)
    ∙ (value ∙ λ i. ports.unless (ports.held_in (named i) b) (is i)))
