-- What comes of a save and of a restore of a controller.
use Rattle.std.specs.Prelude.{ℕ, Bool, nat_le, ℤ, if◌then◌else◌, List, ◌++◌, length, drop, Option, Some, None, Result, Ok, Err}
use Rattle.mscp_memory.specs.declared.fault.RoomFault.{RoomFault}
use Rattle.mscp_memory.specs.ControllerHandles.{Handle, Held, placed, memory_fault}
use Rattle.mscp_saved.specs.declared.fault.RestoreFault.{RestoreFault}
use Rattle.mscp_c.specs.declared.status.TheConstants.{DONE, SMALL}
use Rattle.mscp_c.specs.Restoring.{restored_by}
use Rattle.mscp_c.specs.Statuses.{restore_code, room_code}

-- ---- a save

-- the room has a place for each of the bytes
abbrev pub fits : List ℕ → List ℕ → Bool
fits bytes room = nat_le (length bytes) (length room)

-- the status; the room, with the bytes at its front, or as it was if they don't fit; and how many they are, also then
abbrev pub save_code : List ℕ → List ℕ → ℤ
save_code bytes room = if fits bytes room then DONE else SMALL

abbrev pub room_after : List ℕ → List ℕ → List ℕ
room_after bytes room = if fits bytes room then bytes ++ drop (length bytes) room else room

abbrev pub length_told : List ℕ → ℕ
length_told bytes = length bytes

-- ---- a restore

-- the status, and the handle after it: the first fault of the memory, that of the bytes, or the controller that they
-- say is there
abbrev pub placed_or : Handle → Result Held RestoreFault → ℤ × Handle
placed_or h (Ok held) = (DONE, placed h held)
placed_or h (Err fault) = (restore_code fault, h)

abbrev pub restores_unless : Option RoomFault → Handle → List ℕ → ℤ × Handle
restores_unless (Some fault) h b = (room_code fault, h)
restores_unless None h b = placed_or h (restored_by b)

abbrev pub restores : Handle → List ℕ → ℤ × Handle
restores h b = restores_unless (memory_fault h) h b
