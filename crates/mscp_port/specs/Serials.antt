-- The serials of a port's beginnings. A host may use a number again, so a disk that takes its time can't tell by a
-- command's number whether the block that it was given is still wanted: by its serial it can.
use Rattle.std.specs.Prelude.{ℕ, ◌+◌, ◌%◌, ◌^◌, Bool, false, nat_eq, option_map, Option, None, Some}
use Rattle.mscp_queue.specs.declared.name.Name.{Name}
use Rattle.mscp_port.specs.declared.port.Port.{Port}
use Rattle.mscp_port.specs.declared.task.Task.{Task}
use Rattle.mscp_port.specs.declared.task.Task.TheVariants as tasks

-- the serial after this one
abbrev pub next_serial : ℕ → ℕ
next_serial serial = (serial + 1) % 2 ^ 64

-- the serial given last, where this step was begun before, and that one is now: what wasn't begun before has the next
-- one
abbrev pub serial_after : Option Name → Option Name → ℕ → ℕ
serial_after None (Some name) serial = next_serial serial
serial_after before after serial = serial

-- the serial of the step that is begun, if one is
abbrev pub serial_begun : {K : Type 0} → Port K → Option ℕ
serial_begun p = option_map (λ name. p.serial) p.controller.begun

-- a block is in hand, and it has this serial, where that one was given last
abbrev pub is_of_serial : ℕ → Task → ℕ → Bool
is_of_serial serial tasks.Transfer last = nat_eq last serial
is_of_serial serial task last = false
