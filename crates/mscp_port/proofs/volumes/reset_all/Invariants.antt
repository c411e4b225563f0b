use Rattle.mscp_port.proofs.Common.{◌≡◌, ℕ, ◌<◌, ◌≤◌, get_or, no_volume, volume_reset}
use Rattle.mscp_port.proofs.volumes.reset_all.Given as goal

abbrev pub invariant-loop-volume : goal.invariant-loop-volume
invariant-loop-volume l =
    ((k : ℕ) → k < l.volume-index
    → get_or l.volumes k no_volume ≡ volume_reset (get_or l.initial.volumes k no_volume))
    × ((k : ℕ) → l.volume-index ≤ k → get_or l.volumes k no_volume ≡ get_or l.initial.volumes k no_volume)
