-- Messages of a wrong size.
use Rattle.mscp_packet.specs.declared.reading.PacketFault.{PacketFault}
use Rattle.mscp_packet.specs.declared.reading.PacketFault.TheVariants as packets
use Rattle.mscp_controller.specs.declared.entry.SendFault.{SendFault}
use Rattle.mscp_controller.specs.declared.entry.SendFault.TheVariants.{Short, Long}

-- what the refusal of a message of a wrong size is called (manual)
abbrev pub size_fault : PacketFault → SendFault
size_fault packets.Short = Short
size_fault packets.Long = Long
