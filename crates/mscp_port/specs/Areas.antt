-- The communication area: where a host and its port meet in the host's memory (port: UQSSP, "Communication Area").
use Rattle.std.specs.Prelude.{ℕ, ◌+◌, ◌-◌, ◌*◌, ◌/◌, ◌%◌, ◌^◌, ◌≤◌, ◌<◌, ◌&&◌, Bool, nat_le, nat_lt, if◌then◌else◌, Option, None, Some}
use Rattle.mscp_port.specs.declared.rings.Side.{Side}
use Rattle.mscp_port.specs.declared.rings.Side.TheVariants.{Responses, Commands}

-- the base, and how many slots each ring has
pub record Rings : Type 0 where
  pub base : ℕ
  pub responses : ℕ
  pub commands : ℕ

-- what is true of each area: there is room in front of its base, and each ring has 1 to 128 slots
pub record AreRings (r : Rings) : Type 0 where
  pub room : 8 ≤ r.base
  pub low : r.base < 2 ^ 31
  pub response : 1 ≤ r.responses
  pub responses : r.responses ≤ 128
  pub command : 1 ≤ r.commands
  pub commands : r.commands ≤ 128

-- a ring has 2 ^ log slots
abbrev pub slots : ℕ → ℕ
slots log = 2 ^ log

-- the base that a host names: the low half by its second word, of which the lowest bit says something else, and
-- the high half by its third word, of which the top bit does
abbrev pub base_named : ℕ → ℕ → ℕ
base_named second third = third % 0x8000 * 0x1_0000 + second / 2 * 2

-- bits 8 to 10 of the first word are the logarithm of the responses' length, and bits 11 to 13 that of the
-- commands'
abbrev pub area_named : ℕ → ℕ → ℕ → Rings
area_named first second third = record {
  base = base_named second third;
  responses = slots (first / 0x0100 % 8);
  commands = slots (first / 0x0800 % 8);
}

-- the area that the words of the first three steps name, if there is room in front of its base
abbrev pub rings_named : ℕ → ℕ → ℕ → Option Rings
rings_named first second third =
    if nat_lt (base_named second third) 8 then None else Some (area_named first second third)

-- whether it is an area
abbrev pub are_rings : Rings → Bool
are_rings r =
    nat_le 8 r.base && nat_lt r.base 0x8000_0000
    && (nat_le 1 r.responses && nat_le r.responses 128)
    && (nat_le 1 r.commands && nat_le r.commands 128)

-- these rings, if they are an area
abbrev pub rings_of : Rings → Option Rings
rings_of r = if are_rings r then Some r else None

abbrev pub slots_of : Rings → Side → ℕ
slots_of r Responses = r.responses
slots_of r Commands = r.commands

-- where the slot of a ring lies that comes after so many others: the ring of responses at the base, that of
-- commands behind it, four bytes a slot, and behind the last slot comes the first
abbrev pub slot_in : Rings → Side → ℕ → ℕ
slot_in r Responses n = r.base + n % r.responses * 4
slot_in r Commands n = r.base + (r.responses + n % r.commands) * 4

-- where the interrupt word of a ring lies
abbrev pub word_of : Rings → Side → ℕ
word_of r Responses = r.base - 2
word_of r Commands = r.base - 4

-- the first byte behind the rings
abbrev pub end_of : Rings → ℕ
end_of r = r.base + (r.responses + r.commands) * 4

-- where the area begins, with a purge word or without
abbrev pub start_of : Rings → Bool → ℕ
start_of r purges = if purges then r.base - 8 else r.base - 4

-- so many bytes from an address on lie in the area
pub record IsInArea (r : Rings) (address count : ℕ) : Type 0 where
  pub from : r.base - 8 ≤ address
  pub to : address + count ≤ end_of r
