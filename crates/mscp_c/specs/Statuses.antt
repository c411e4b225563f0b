-- The statuses of faults.
use Rattle.std.specs.Prelude.{ℕ, ◌-◌, ℤ, negsuc}
use Rattle.mscp_drive.specs.declared.unit.UnitFault.{UnitFault}
use Rattle.mscp_drive.specs.declared.unit.UnitFault.TheVariants as unit
use Rattle.mscp_drive.specs.declared.units.UnitsFault.{UnitsFault}
use Rattle.mscp_drive.specs.declared.units.UnitsFault.TheVariants as units
use Rattle.mscp_drive.specs.declared.config.ConfigFault.{ConfigFault}
use Rattle.mscp_drive.specs.declared.config.ConfigFault.TheVariants as limits
use Rattle.mscp_controller.specs.declared.entry.SendFault.{SendFault}
use Rattle.mscp_controller.specs.declared.entry.SendFault.TheVariants as sends
use Rattle.mscp_host.specs.declared.news.HostFault.{HostFault}
use Rattle.mscp_host.specs.declared.news.HostFault.TheVariants as hosts
use Rattle.mscp_host.specs.declared.message.HearFault.{HearFault}
use Rattle.mscp_host.specs.declared.message.HearFault.TheVariants as heard
use Rattle.mscp_host.specs.declared.restoring.RestoreFault as hosted
use Rattle.mscp_host.specs.declared.restoring.RestoreFault.TheVariants as host_bytes
use Rattle.mscp_memory.specs.declared.fault.RoomFault.{RoomFault}
use Rattle.mscp_memory.specs.declared.fault.RoomFault.TheVariants as rooms
use Rattle.mscp_port.specs.declared.port.restoring.RestoreFault as ported
use Rattle.mscp_port.specs.declared.port.restoring.RestoreFault.TheVariants as port_bytes
use Rattle.mscp_saved.specs.declared.fault.RestoreFault.{RestoreFault}
use Rattle.mscp_saved.specs.declared.fault.RestoreFault.TheVariants as bytes
use Rattle.mscp_c.specs.declared.status.TheConstants as status

-- the number -n, where n isn't 0
abbrev pub minus : ℕ → ℤ
minus n = negsuc (n - 1)

-- of memory that is no room
abbrev pub room_code : RoomFault → ℤ
room_code rooms.Made = status.MADE
room_code rooms.NoHandle = status.NO_HANDLE
room_code rooms.Null = status.NO_MEMORY
room_code rooms.Misaligned = status.MISALIGNED
room_code rooms.Small = status.SMALL

-- of a unit
abbrev pub unit_code : UnitFault → ℤ
unit_code unit.ZeroTrack = status.ZERO_TRACK
unit_code unit.ZeroGroup = status.ZERO_GROUP
unit_code unit.ZeroCylinder = status.ZERO_CYLINDER
unit_code unit.ZeroSize = status.ZERO_SIZE

-- of all units together
abbrev pub units_code : UnitsFault → ℤ
units_code units.TooMany = status.MANY_UNITS
units_code units.NotAscending = status.UNITS_FALL
units_code units.Empty = status.NO_UNITS

-- of limits
abbrev pub limits_code : ConfigFault → ℤ
limits_code limits.Credits = status.BAD_CREDITS
limits_code limits.Longest = status.BAD_LONGEST
limits_code limits.Timeout = status.BAD_TIMEOUT
limits_code limits.Figure = status.BAD_BOUND

-- of a message
abbrev pub send_fault_code : SendFault → ℤ
send_fault_code sends.Short = status.SHORT
send_fault_code sends.Long = status.LONG
send_fault_code sends.NoCredit = status.NO_CREDIT
send_fault_code sends.LastCredit = status.LAST_CREDIT
send_fault_code sends.Doubled = status.DOUBLED

-- of what a host refuses
abbrev pub host_code : HostFault → ℤ
host_code hosts.Credits = status.BAD_CREDITS
host_code hosts.NoCredit = status.NO_CREDIT
host_code hosts.LastCredit = status.LAST_CREDIT
host_code hosts.Doubled = status.DOUBLED
host_code hosts.Unreadable = status.UNREADABLE
host_code hosts.Unknown = status.UNKNOWN

-- of bytes that are no saved controller
abbrev pub restore_code : RestoreFault → ℤ
restore_code bytes.Length = status.SAVED_LENGTH
restore_code bytes.Magic = status.SAVED_MAGIC
restore_code bytes.Version = status.SAVED_VERSION
restore_code bytes.Units = status.SAVED_UNITS
restore_code bytes.Limits = status.SAVED_LIMITS
restore_code bytes.Heads = status.SAVED_HEADS
restore_code bytes.Credits = status.SAVED_CREDITS
restore_code bytes.Command = status.SAVED_COMMAND
restore_code bytes.Doubled = status.SAVED_DOUBLED
restore_code bytes.Steps = status.SAVED_STEPS
restore_code bytes.Passed = status.SAVED_PASSED
restore_code bytes.Ends = status.SAVED_ENDS
restore_code bytes.Begun = status.SAVED_BEGUN
restore_code bytes.Picker = status.SAVED_PICKER
restore_code bytes.Form = status.SAVED_FORM

-- of bytes that are no saved host
abbrev pub host_restore_code : hosted.RestoreFault → ℤ
host_restore_code host_bytes.Length = status.SAVED_LENGTH
host_restore_code host_bytes.Magic = status.SAVED_MAGIC
host_restore_code host_bytes.Version = status.SAVED_VERSION
host_restore_code host_bytes.Credits = status.SAVED_LIMITS
host_restore_code host_bytes.Outstanding = status.SAVED_CREDITS
host_restore_code host_bytes.Doubled = status.SAVED_DOUBLED
host_restore_code host_bytes.Poll = status.SAVED_POLL
host_restore_code host_bytes.Form = status.SAVED_FORM

-- of bytes that are no saved port: those of its controller have their own
abbrev pub port_restore_code : ported.RestoreFault → ℤ
port_restore_code port_bytes.Length = status.SAVED_LENGTH
port_restore_code port_bytes.Magic = status.SAVED_MAGIC
port_restore_code port_bytes.Version = status.SAVED_VERSION
port_restore_code port_bytes.Size = status.SAVED_SIZE
port_restore_code (port_bytes.Controller fault) = restore_code fault
port_restore_code port_bytes.Form = status.SAVED_FORM

-- of what a host of a port refuses
abbrev pub hear_code : HearFault → ℤ
hear_code heard.Cut = status.CUT
hear_code heard.Connection = status.OTHER_CONNECTION
hear_code heard.Kind = status.BAD_KIND
hear_code heard.Unreadable = status.UNREADABLE
hear_code heard.Unknown = status.UNKNOWN
