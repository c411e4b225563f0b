-- The number of a policy.
use Rattle.mscp_c.proofs.Common.{◌≡◌, refl, nat_eq, if◌then◌else◌, Policy, Oldest, Sweep, policy_number}

-- it names the policy
pub number_back : (policy : Policy) → (if nat_eq (policy_number policy) 1 then Sweep else Oldest) ≡ policy
number_back Oldest = refl
number_back Sweep = refl
