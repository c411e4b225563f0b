use Rattle.mscp_host.proofs.Common.{asked_in, length, take, ◌≡◌}
use Rattle.mscp_host.proofs.port_restoring.asked_in.Given as goal

abbrev pub invariant-loop-place : goal.invariant-loop-place
invariant-loop-place l =
    record {
      items : l.out.items ≡ asked_in l.b (take l.place l.outstanding);
      len : length l.out.items ≡ l.place;
    }
