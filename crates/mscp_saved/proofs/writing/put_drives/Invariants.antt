use Rattle.mscp_saved.proofs.Common.{All, ◌≡◌, ◌+◌, ◌*◌, ◌++◌, take, flat_map, array_vec_len, HasDriveRange, drive_bytes}
use Rattle.mscp_saved.proofs.writing.put_drives.Given as goal

abbrev pub invariant-loop-place : goal.invariant-loop-place
invariant-loop-place l = record {
  items : l.out.items ≡ l.fn.out.items ++ flat_map drive_bytes (take l.place l.drives);
  len : array_vec_len l.out ≡ array_vec_len l.fn.out + 34 * l.place;
  range : All HasDriveRange (take l.place l.drives);
}
