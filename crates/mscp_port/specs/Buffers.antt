-- Where the data of a transfer are in host memory (port).
use Rattle.std.specs.Prelude.{ℕ, ◌+◌, ◌-◌, ◌*◌, ◌≤◌, ◌||◌, ◌++◌, ◌∷◌, [], min, nat_eq, nat_lt, not, Bool, false, List, length, filter, slice_index, if◌then◌else◌, Option, None, Some}
use Rattle.mscp_packet.specs.Number.{num}
use Rattle.mscp_drive.specs.declared.connection.Connection.{Connection}
use Rattle.mscp_drive.specs.declared.connection.Connection.TheVariants.{First, Second}
use Rattle.mscp_port.specs.declared.buffers.Buffer.{Buffer}
use Rattle.mscp_port.specs.Formalities.{is_formality}

-- the number in so many bytes from a place on, or 0 where the message is shorter
abbrev pub num_or_zero : List ℕ → ℕ → ℕ → ℕ
num_or_zero b at size = if nat_lt (length b) (at + size) then 0 else num b at size

abbrev pub four_or_zero : List ℕ → ℕ → ℕ
four_or_zero b at = num_or_zero b at 4

abbrev pub two_or_zero : List ℕ → ℕ → ℕ
two_or_zero b at = num_or_zero b at 2

abbrev pub byte_or_zero : List ℕ → ℕ → ℕ
byte_or_zero b at = if nat_lt (length b) (at + 1) then 0 else slice_index b at

-- what is kept of a message, whose unit's volume had changed so often: its reference number, in byte 8 its opcode, in
-- bytes 16 to 19 the address of its data and in 12 to 15 how many bytes they have (manual), in 10 and 11 its modifiers,
-- and in 14 and 15 its unit flags
abbrev pub buffer_in : List ℕ → ℕ → Buffer
buffer_in b changes = record {
  reference = four_or_zero b 0;
  opcode = byte_or_zero b 8;
  address = four_or_zero b 16;
  count = four_or_zero b 12;
  modifiers = two_or_zero b 10;
  flags = two_or_zero b 14;
  changes = changes;
}

-- it is kept of the command of this connection and reference number. A host talks by the first connection
abbrev pub is_of : Connection → ℕ → Buffer → Bool
is_of First reference b = nat_eq b.reference reference
is_of Second reference b = false

-- all but what is kept of a command
abbrev pub without : Connection → ℕ → List Buffer → List Buffer
without via reference bs = filter (λ b. not (is_of via reference b)) bs

-- all but what is kept of a command that was aborted, if one was
abbrev pub without_aborted : Option ℕ → List Buffer → List Buffer
without_aborted None bs = bs
without_aborted (Some reference) bs = without First reference bs

-- one more is kept, behind the others. There is room for 64 commands
abbrev pub kept_beside : Buffer → List Buffer → List Buffer
kept_beside b bs = if nat_lt (length bs) 64 then bs ++ b ∷ [] else bs

-- the bytes of the step that comes after so many others
abbrev pub left_of : Buffer → ℕ → ℕ
left_of b done = min (b.count - done * 512) 512

-- where they are: 512 bytes behind those of the step before. None past the end of the buffer, or where they reach
-- the end of 32 bits, and none of a formality
abbrev pub part_of : Buffer → ℕ → Option (ℕ × ℕ)
part_of b done =
    if is_formality b.opcode || nat_lt b.count (done * 512)
    || nat_lt 0xFFFF_FFFF (b.address + done * 512 + left_of b done) then None
    else Some (b.address + done * 512, left_of b done)

-- so many bytes from an address on lie in the buffer
pub record IsInBuffer (b : Buffer) (address count : ℕ) : Type 0 where
  pub from : b.address ≤ address
  pub to : address + count ≤ b.address + b.count
