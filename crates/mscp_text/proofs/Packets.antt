-- The packet of a message.
use Rattle.std.proofs.Common.{◌≡◌, ◌<◌, ◌≤◌, ℕ, List, length, refl, arith, Ok}
use Rattle.std.specs.Prelude.{slice_index, Result}
use Rattle.std.proofs.lemmas.Bool.Decides.{nat_tests}
use Rattle.mscp_packet.specs.Commands.{IsCommand, command_of}
use Rattle.mscp_packet.specs.declared.command.Command.{Command}
use Rattle.mscp_packet.specs.declared.reading.PacketFault.{PacketFault}
use Rattle.mscp_text.specs.Shown.{packet_of}
use Rattle.mscp_text.specs.declared.packet.Packet.TheVariants as packets

-- a message of 12 to 64 bytes is the command that it is read as
pub command_said : (b : List ℕ) → 12 ≤ length b → length b ≤ 64 → IsCommand b (command_of b)
unfolding command_of
command_said b low high = record { low = low; high = high; reference = refl; unit = refl; order = refl }

-- and no other command
pub command_is : (b : List ℕ) (r : Result Command PacketFault) (c : Command) → slice_index b 8 < 128
    → r ≡ Ok (command_of b) → r ≡ Ok c → Ok (packets.Command c) ≡ packet_of b
command_is b r c low only is =
    let same : c ≡ command_of b = cc in
    rw same (grind (arith, nat_tests))
