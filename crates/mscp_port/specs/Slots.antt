-- The descriptor of a ring's slot, a number of 32 bits (port: UQSSP, "Ring Entries").
use Rattle.std.specs.Prelude.{ℕ, ◌+◌, ◌*◌, ◌/◌, ◌%◌, ◌==◌, Bool, nat_le}

-- its top bit says that the slot is the port's
abbrev pub is_owned : ℕ → Bool
is_owned word = nat_le 0x8000_0000 word

-- the bit below says that the host wants to hear when the port gives it back
abbrev pub is_flagged : ℕ → Bool
is_flagged word = word / 0x4000_0000 % 2 == 1

-- the low 22 bits are the address of the packet's text, which is even
abbrev pub text_of : ℕ → ℕ
text_of word = word % 0x0040_0000 / 2 * 2

-- the port gives it back: it isn't the port's, and the flag is set
abbrev pub given_back : ℕ → ℕ
given_back word = word % 0x4000_0000 + 0x4000_0000
