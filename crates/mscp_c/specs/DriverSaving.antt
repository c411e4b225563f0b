-- What comes of a restore of a driver's account of its port.
use Rattle.std.specs.Prelude.{ℕ, ℤ, List, Option, Some, None, Result, Ok, Err}
use Rattle.mscp_host.specs.declared.restoring.RestoreFault.{RestoreFault}
use Rattle.mscp_host.specs.PortAccounts.{PortAccount}
use Rattle.mscp_host.specs.PortRestored.{port_restored}
use Rattle.mscp_memory.specs.declared.fault.RoomFault.{RoomFault}
use Rattle.mscp_memory.specs.DriverHandles.{Handle, placed, memory_fault}
use Rattle.mscp_c.specs.declared.status.TheConstants.{DONE}
use Rattle.mscp_c.specs.Statuses.{host_restore_code, room_code}

-- the status, and the handle after it: the first fault of the memory, that of the bytes, or the account that they say
-- is there
abbrev pub driver_placed_or : Handle → Result PortAccount RestoreFault → ℤ × Handle
driver_placed_or h (Ok held) = (DONE, placed h held)
driver_placed_or h (Err fault) = (host_restore_code fault, h)

abbrev pub driver_restores_unless : Option RoomFault → Handle → List ℕ → ℤ × Handle
driver_restores_unless (Some fault) h b = (room_code fault, h)
driver_restores_unless None h b = driver_placed_or h (port_restored b)

abbrev pub driver_restores : Handle → List ℕ → ℤ × Handle
driver_restores h b = driver_restores_unless (memory_fault h) h b
