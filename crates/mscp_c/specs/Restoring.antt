-- A controller as bytes, and the controller that bytes say.
use Rattle.std.specs.Prelude.{ℕ, nat_eq, if◌then◌else◌, List, slice_index, Result}
use Rattle.mscp_memory.specs.declared.policy.Policy.{Policy}
use Rattle.mscp_memory.specs.declared.policy.Policy.TheVariants.{Oldest, Sweep}
use Rattle.mscp_memory.specs.ControllerHandles.{Held}
use Rattle.mscp_saved.specs.declared.fault.RestoreFault.{RestoreFault}
use Rattle.mscp_saved.specs.Restored.{restored}
use Rattle.mscp_saved.specs.Saved.{saved_bytes}

-- the number of a policy
abbrev pub policy_number : Policy → ℕ
policy_number Oldest = 0
policy_number Sweep = 1

-- the bytes that a controller is saved as
abbrev pub saved_by : Held → List ℕ
saved_by h = saved_bytes (policy_number h.picker) h

-- the policy that bytes name, or another one where they name none
abbrev pub policy_named : List ℕ → Policy
policy_named b = if nat_eq (slice_index b 30) 1 then Sweep else Oldest

-- the controller that bytes say, with the policy that they name, or why there is none
abbrev pub restored_by : List ℕ → Result Held RestoreFault
restored_by b = restored (policy_number (policy_named b)) (policy_named b) b
