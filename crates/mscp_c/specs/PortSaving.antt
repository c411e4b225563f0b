-- A port as bytes, and what comes of a restore of one.
use Rattle.std.specs.Prelude.{ℕ, ℤ, ◌+◌, nat_eq, if◌then◌else◌, List, slice_index, Option, Some, None, Result, Ok, Err}
use Rattle.mscp_memory.specs.declared.fault.RoomFault.{RoomFault}
use Rattle.mscp_memory.specs.declared.policy.Policy.{Policy}
use Rattle.mscp_memory.specs.declared.policy.Policy.TheVariants.{Oldest, Sweep}
use Rattle.mscp_memory.specs.PortHandles.{Handle, Held, placed, memory_fault}
use Rattle.mscp_port.specs.declared.port.restoring.RestoreFault.{RestoreFault}
use Rattle.mscp_port.specs.Restored.{controller_place, restored}
use Rattle.mscp_port.specs.Saved.{saved_bytes}
use Rattle.mscp_c.specs.declared.status.TheConstants.{DONE}
use Rattle.mscp_c.specs.Restoring.{policy_number}
use Rattle.mscp_c.specs.Statuses.{port_restore_code, room_code}

-- the bytes that a port is saved as
abbrev pub saved_by : Held → List ℕ
saved_by p = saved_bytes (policy_number p.controller.picker) p

-- the policy that the bytes of its controller name, or another one where they name none
abbrev pub policy_named : List ℕ → Policy
policy_named b = if nat_eq (slice_index b (controller_place b + 30)) 1 then Sweep else Oldest

-- the port that bytes say, with the policy that they name, or why there is none
abbrev pub restored_by : List ℕ → Result Held RestoreFault
restored_by b = restored (policy_number (policy_named b)) (policy_named b) b

-- the status, and the handle after it: the first fault of the memory, that of the bytes, or the port that they say is
-- there
abbrev pub placed_or : Handle → Result Held RestoreFault → ℤ × Handle
placed_or h (Ok held) = (DONE, placed h held)
placed_or h (Err fault) = (port_restore_code fault, h)

abbrev pub restores_unless : Option RoomFault → Handle → List ℕ → ℤ × Handle
restores_unless (Some fault) h b = (room_code fault, h)
restores_unless None h b = placed_or h (restored_by b)

abbrev pub restores : Handle → List ℕ → ℤ × Handle
restores h b = restores_unless (memory_fault h) h b
