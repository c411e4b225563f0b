use Rattle.mscp_host.proofs.Common.{◌≡◌, length, parts_in, submission_in}
use Rattle.mscp_host.proofs.restoring.submissions_in.Given as goal

abbrev pub invariant-loop-place : goal.invariant-loop-place
invariant-loop-place l =
    record { items : l.out.items ≡ parts_in submission_in 12 l.place l.b; len : length l.out.items ≡ l.place }
