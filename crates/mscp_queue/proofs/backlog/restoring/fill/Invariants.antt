use Rattle.mscp_queue.proofs.Basics.{◌≡◌, ◌++◌, ◌*◌, ◌≤◌, ◌^◌, drop, length, take, sum_by, units_of, left_if_serving, left_of}
use Rattle.mscp_queue.proofs.Restored.{contents, contents_of}
use Rattle.mscp_queue.proofs.backlog.restoring.fill.Given as goal

abbrev pub invariant-loop-place : goal.invariant-loop-place
invariant-loop-place l = record {
  slots : contents l.slots ++ contents_of l.budget (units_of l.drives) l.before (drop l.place l.records)
      ≡ contents_of l.budget (units_of l.drives) 0 l.records;
  long : length l.slots ≡ l.place;
  before : l.before ≡ sum_by left_of (take l.place l.records);
  few : l.before ≤ l.place * 2 ^ 32;
  behind : l.behind ≡ sum_by left_if_serving (drop l.place l.records);
  least : l.behind ≤ 64 * 2 ^ 32;
}
