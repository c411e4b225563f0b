use Rattle.mscp_c.proofs.Common.{◌-◌, ◌/◌, length}
use Rattle.mscp_c.proofs.running.mscp_run_script_at.Given as goal

abbrev pub ghosts-run : goal.ghosts-run
ghosts-run a = record { room = length a.room.now - length a.room.now / 2 }
