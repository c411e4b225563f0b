-- The bytes of the opcodes, by the manual's names (manual, "Command Messages").
use Rattle.std.specs.Prelude.{ℕ}

abbrev pub abort : ℕ
abort = 1

abbrev pub get_command_status : ℕ
get_command_status = 2

abbrev pub get_unit_status : ℕ
get_unit_status = 3

abbrev pub set_controller_characteristics : ℕ
set_controller_characteristics = 4

abbrev pub available : ℕ
available = 8

abbrev pub online : ℕ
online = 9

abbrev pub set_unit_characteristics : ℕ
set_unit_characteristics = 10

abbrev pub determine_access_paths : ℕ
determine_access_paths = 11

abbrev pub access : ℕ
access = 16

abbrev pub compare_controller_data : ℕ
compare_controller_data = 17

abbrev pub erase : ℕ
erase = 18

abbrev pub flush : ℕ
flush = 19

abbrev pub replace : ℕ
replace = 20

abbrev pub format : ℕ
format = 24

abbrev pub compare_host_data : ℕ
compare_host_data = 32

abbrev pub read : ℕ
read = 33

abbrev pub write : ℕ
write = 34

-- FORMAT, as SIMH's disk numbers it
abbrev pub format_of_simh : ℕ
format_of_simh = 47
