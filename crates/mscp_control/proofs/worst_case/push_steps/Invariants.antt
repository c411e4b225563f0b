use Rattle.mscp_control.proofs.Common.{◌≡◌, ◌+◌, vec_capacity, vec_len, steps_on}
use Rattle.mscp_control.proofs.worst_case.push_steps.Given as goal

abbrev pub invariant-loop-after : goal.invariant-loop-after
invariant-loop-after g l =
    record {
      items : l.trace.items ≡ steps_on l.unit l.read l.from l.fn.trace.items l.after;
      len : vec_len l.trace ≡ vec_len l.fn.trace + l.after;
      room : vec_capacity l.trace ≡ vec_capacity l.fn.trace;
    }
