-- Where things lie in a communication area, and what a descriptor says (port: UQSSP, "Communication Area", "Ring
-- Entries").
use Rattle.std.specs.Prelude.{ℕ, ◌+◌, ◌-◌, ◌*◌, ◌/◌, ◌%◌, ◌^◌, ◌==◌, Bool, nat_le, nat_lt, if◌then◌else◌, Option, None, Some}
use Rattle.mscp_port.specs.declared.rings.Side.{Side}
use Rattle.mscp_port.specs.declared.rings.Side.TheVariants.{Responses, Commands}
use Rattle.mscp_port.specs.Areas.{Rings}

-- ---- the area

-- the base is named by the words of the second and the third step, whose lowest and top bit say something else
abbrev pub base_by : ℕ → ℕ → ℕ
base_by second third = third % 0x8000 * 0x1_0000 + second / 2 * 2

-- bits 8 to 10 of the first word are the logarithm of how many slots the ring of responses has, and bits 11 to 13 of
-- the commands'. In front of the base there is room for 8 bytes
abbrev pub area_by : ℕ → ℕ → ℕ → Option Rings
area_by first second third =
    if nat_lt (base_by second third) 8 then None
    else Some (record {
      base = base_by second third;
      responses = 2 ^ (first / 0x0100 % 8);
      commands = 2 ^ (first / 0x0800 % 8);
    })

abbrev pub slots_in : Rings → Side → ℕ
slots_in r Responses = r.responses
slots_in r Commands = r.commands

-- the ring of responses lies at the base, and that of commands behind it, four bytes a slot; behind the last slot comes
-- the first
abbrev pub slot_place : Rings → Side → ℕ → ℕ
slot_place r Responses n = r.base + n % r.responses * 4
slot_place r Commands n = r.base + (r.responses + n % r.commands) * 4

-- in front of the base lies the interrupt word of the responses, and in front of that the one of the commands
abbrev pub word_place : Rings → Side → ℕ
word_place r Responses = r.base - 2
word_place r Commands = r.base - 4

-- ---- a descriptor

-- the top bit makes the slot the port's
abbrev pub is_ports : ℕ → Bool
is_ports word = nat_le 0x8000_0000 word

-- by the next one the host wants to hear when it is given back
abbrev pub is_marked : ℕ → Bool
is_marked word = word / 0x4000_0000 % 2 == 1

-- the low 22 bits are the address of the text, which is even
abbrev pub text_place : ℕ → ℕ
text_place word = word % 0x0040_0000 / 2 * 2
