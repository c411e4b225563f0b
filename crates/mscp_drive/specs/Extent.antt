-- The blocks of a transfer, and whether a unit has them.
use Rattle.std.specs.Prelude.{ℕ, ◌+◌, ◌/◌, max, nat_lt, nat_le, if◌then◌else◌, Option, Some, None, Result, Ok, Err}
use Rattle.mscp_drive.specs.Shape.{Shape}

-- Invalid Command: the first block, in byte 28 (manual)
abbrev pub invalid_block : ℕ
invalid_block = 0x1C01

-- Invalid Command: the byte count, in byte 12 (manual)
abbrev pub invalid_byte_count : ℕ
invalid_byte_count = 0x0C01

-- the blocks of 512 bytes that so many bytes take (manual)
abbrev pub blocks : ℕ → ℕ
blocks count = (count + 511) / 512

-- how many steps a transfer takes: one for each block, and at least one (profile)
abbrev pub weight : ℕ → ℕ
weight count = max 1 (blocks count)

-- the status that refuses a transfer of so many bytes from a block on, where the unit hasn't its blocks (manual) or it
-- takes more steps than the longest. The first that holds is told (profile)
abbrev pub range_fault : ℕ → ℕ → ℕ → Shape → Option ℕ
range_fault longest count block u =
    if nat_le u.size block then Some invalid_block else (
    if nat_lt u.size (block + blocks count) then Some invalid_byte_count else (
    if nat_lt longest (weight count) then Some invalid_byte_count else None))

-- how many steps a command takes that is refused with this status, or isn't (profile)
abbrev pub weighed : Option ℕ → ℕ → Result ℕ ℕ
weighed (Some status) steps = Err status
weighed None steps = Ok steps
