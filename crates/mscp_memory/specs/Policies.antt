-- What each policy may pick.
use Rattle.std.specs.Prelude.{ℕ, List}
use Rattle.mscp_queue.specs.declared.view.Choice.{Choice}
use Rattle.mscp_queue.specs.Pickers.{IsOldest, IsSweep}
use Rattle.mscp_memory.specs.declared.policy.Policy.{Policy}
use Rattle.mscp_memory.specs.declared.policy.Policy.TheVariants.{Oldest, Sweep}

-- the place of a view is one that the picker of this policy may pick (profile)
abbrev pub PolicyPicks : Policy → List Choice → ℕ → Type 0
PolicyPicks Oldest view place = IsOldest view place
PolicyPicks Sweep view place = IsSweep view place
