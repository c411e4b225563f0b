use Rattle.mscp_queue.proofs.Common.{◌≡◌, length, map, take, fresh_drive}
use Rattle.mscp_queue.proofs.drive.drives_of.Given as goal

abbrev pub invariant-loop-unit : goal.invariant-loop-unit
invariant-loop-unit l = record {
  each : l.drives.items ≡ map fresh_drive (take l.unit-index l.units);
  same : length l.drives.items ≡ l.unit-index;
}
