use Rattle.mscp_wire.proofs.Common.{drop, length, map, option_map, take, tells, ◌++◌, ◌≡◌}
use Rattle.mscp_wire.proofs.polls.tell_all.Given as goal

abbrev pub invariant-loop-at : goal.invariant-loop-at
invariant-loop-at g l = record {
  many : length l.cells ≡ length l.initial.cells;
  cells : l.cells ≡ map (option_map (tells l.name.0 l.name.1 l.figure l.time)) (take l.at l.initial.cells)
      ++ drop l.at l.initial.cells;
}
