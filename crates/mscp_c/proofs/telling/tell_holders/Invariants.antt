use Rattle.mscp_c.proofs.Common.{◌≡◌, map, take, drop, length, holder_told}
use Rattle.mscp_c.proofs.telling.tell_holders.Given as goal

abbrev pub invariant-loop-i : goal.invariant-loop-i
invariant-loop-i l = record {
  told : take l.i l.out ≡ map holder_told (take l.i l.list);
  left : drop l.i l.out ≡ drop l.i l.fn.out;
  same : length l.out ≡ length l.fn.out;
}
