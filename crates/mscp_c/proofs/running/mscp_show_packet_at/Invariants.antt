use Rattle.mscp_c.proofs.Common.{◌-◌, ◌/◌, length}
use Rattle.mscp_c.proofs.running.mscp_show_packet_at.Given as goal

abbrev pub ghosts-show : goal.ghosts-show
ghosts-show a = record { room = length a.room.now - length a.room.now / 2 }
