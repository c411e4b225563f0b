use Rattle.mscp_c.proofs.Common.{◌≡◌, map, take, drop, length}
use Rattle.mscp_c.specs.Given.{unit_told}
use Rattle.mscp_c.proofs.units.tell_units.Given as goal

abbrev pub invariant-loop-i : goal.invariant-loop-i
invariant-loop-i l = record {
  told : take l.i l.out ≡ map unit_told (take l.i l.list);
  left : drop l.i l.out ≡ drop l.i l.fn.out;
  same : length l.out ≡ length l.fn.out;
}
