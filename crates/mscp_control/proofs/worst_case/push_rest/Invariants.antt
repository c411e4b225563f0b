use Rattle.mscp_control.proofs.Common.{◌≡◌, ◌+◌, ◌*◌, vec_capacity, vec_len, rest_on}
use Rattle.mscp_control.proofs.worst_case.push_rest.Given as goal

abbrev pub invariant-loop-before : goal.invariant-loop-before
invariant-loop-before g l =
    record {
      items : l.trace.items ≡ rest_on l.config l.unit l.fn.trace.items l.before;
      len : vec_len l.trace ≡ vec_len l.fn.trace + l.before * (l.config.longest + 1);
      room : vec_capacity l.trace ≡ vec_capacity l.fn.trace;
    }
