-- Sizes that a task has.
use Rattle.std.specs.Prelude.{ℕ, ◌%◌, ◌&&◌, nat_eq, nat_le, nat_lt, if◌then◌else◌, Option, Some, None}

-- the text of a command has 12 to 64 bytes
abbrev pub text_size : ℕ → Option ℕ
text_size bytes = if nat_le 12 bytes && nat_le bytes 64 then Some bytes else None

-- so many bytes of a communication area are clear while others are to be cleared: parts of 64 bytes are cleared, and no
-- area has more than 1,032
abbrev pub clear_size : ℕ → Option ℕ
clear_size bytes = if nat_eq (bytes % 64) 0 && nat_lt bytes 1032 then Some bytes else None
