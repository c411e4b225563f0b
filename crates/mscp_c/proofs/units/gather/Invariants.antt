use Rattle.mscp_c.proofs.Common.{◌≡◌, map, take, drop, first_fault, unit_given}
use Rattle.mscp_c.proofs.units.gather.Given as goal

abbrev pub invariant-loop-i : goal.invariant-loop-i
invariant-loop-i l = record {
  made : l.list.items ≡ map unit_given (take l.i l.given);
  rest : first_fault (drop l.i l.given) ≡ first_fault l.given;
}
