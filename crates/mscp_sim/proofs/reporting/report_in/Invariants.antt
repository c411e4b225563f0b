use Rattle.mscp_sim.proofs.Common.{◌≡◌, take, reported}
use Rattle.mscp_sim.proofs.reporting.report_in.Given as goal

abbrev pub invariant-loop-entry : goal.invariant-loop-entry
invariant-loop-entry g l = l.reporter ≡ reported (take l.entry-index l.entries)
