use Rattle.mscp_saved.proofs.Common.{◌≡◌, take, array_vec_len, units_of}
use Rattle.mscp_saved.proofs.restoring.put_units.Given as goal

abbrev pub invariant-loop-drive : goal.invariant-loop-drive
invariant-loop-drive l = record {
  items : l.units.items ≡ units_of (take l.drive-index l.drives);
  len : array_vec_len l.units ≡ l.drive-index;
}
