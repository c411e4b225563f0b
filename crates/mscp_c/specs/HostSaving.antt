-- What comes of a restore of a host.
use Rattle.std.specs.Prelude.{ℕ, ℤ, List, Option, Some, None, Result, Ok, Err}
use Rattle.mscp_host.specs.declared.restoring.RestoreFault.{RestoreFault}
use Rattle.mscp_host.specs.Accounts.{Account}
use Rattle.mscp_host.specs.Restored.{restored}
use Rattle.mscp_memory.specs.declared.fault.RoomFault.{RoomFault}
use Rattle.mscp_memory.specs.HostHandles.{Handle, placed, memory_fault}
use Rattle.mscp_c.specs.declared.status.TheConstants.{DONE}
use Rattle.mscp_c.specs.Statuses.{host_restore_code, room_code}

-- the status, and the handle after it: the first fault of the memory, that of the bytes, or the host that they say is
-- there
abbrev pub placed_or : Handle → Result Account RestoreFault → ℤ × Handle
placed_or h (Ok held) = (DONE, placed h held)
placed_or h (Err fault) = (host_restore_code fault, h)

abbrev pub restores_unless : Option RoomFault → Handle → List ℕ → ℤ × Handle
restores_unless (Some fault) h b = (room_code fault, h)
restores_unless None h b = placed_or h (restored b)

abbrev pub restores : Handle → List ℕ → ℤ × Handle
restores h b = restores_unless (memory_fault h) h b
