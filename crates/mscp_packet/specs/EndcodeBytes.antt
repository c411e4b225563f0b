-- The bytes of the endcodes, by the manual's names of their opcodes: an opcode with the top bit set (manual, "End
-- Messages").
use Rattle.std.specs.Prelude.{ℕ}

-- that bit. Alone it is the endcode of an opcode that isn't known (profile)
abbrev pub unknown : ℕ
unknown = 0x80

abbrev pub abort : ℕ
abort = 0x81

abbrev pub get_command_status : ℕ
get_command_status = 0x82

abbrev pub get_unit_status : ℕ
get_unit_status = 0x83

abbrev pub set_controller_characteristics : ℕ
set_controller_characteristics = 0x84

abbrev pub available : ℕ
available = 0x88

abbrev pub online : ℕ
online = 0x89

abbrev pub set_unit_characteristics : ℕ
set_unit_characteristics = 0x8A

abbrev pub determine_access_paths : ℕ
determine_access_paths = 0x8B

abbrev pub access : ℕ
access = 0x90

abbrev pub compare_controller_data : ℕ
compare_controller_data = 0x91

abbrev pub erase : ℕ
erase = 0x92

abbrev pub flush : ℕ
flush = 0x93

abbrev pub compare_host_data : ℕ
compare_host_data = 0xA0

abbrev pub read : ℕ
read = 0xA1

abbrev pub write : ℕ
write = 0xA2

-- an attention message, that a unit became available (manual, "Attention Messages")
abbrev pub available_attention : ℕ
available_attention = 0x40
