use Rattle.mscp_saved.proofs.Common.{◌≡◌, ◌+◌, ◌++◌, array_vec_len, drive_in, parts_in}
use Rattle.mscp_saved.proofs.reading.read_drives.Given as goal

abbrev pub invariant-loop-place : goal.invariant-loop-place
invariant-loop-place l = record {
  items : l.drives.items ≡ l.fn.drives.items ++ parts_in drive_in 34 l.place l.b;
  len : array_vec_len l.drives ≡ array_vec_len l.fn.drives + l.place;
}
