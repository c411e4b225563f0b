use Rattle.mscp_control.proofs.Common.{◌≡◌, ◌+◌, ◌*◌, vec_capacity, vec_len, pass_on}
use Rattle.mscp_control.proofs.worst_case.push_passing.Given as goal

abbrev pub invariant-loop-passed : goal.invariant-loop-passed
invariant-loop-passed g l =
    record {
      items : l.trace.items ≡ pass_on l.config l.unit l.fn.trace.items l._passed;
      len : vec_len l.trace ≡ vec_len l.fn.trace + 3 * l._passed;
      room : vec_capacity l.trace ≡ vec_capacity l.fn.trace;
    }
