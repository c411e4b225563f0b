-- The codes of statuses, by the manual's names (manual, "Status and Event Codes").
use Rattle.std.specs.Prelude.{ℕ}

abbrev pub success : ℕ
success = 0

abbrev pub invalid_command : ℕ
invalid_command = 1

abbrev pub aborted : ℕ
aborted = 2

abbrev pub unit_offline : ℕ
unit_offline = 3

abbrev pub unit_available : ℕ
unit_available = 4

abbrev pub media_format_error : ℕ
media_format_error = 5

abbrev pub write_protected : ℕ
write_protected = 6

abbrev pub compare_error : ℕ
compare_error = 7

abbrev pub data_error : ℕ
data_error = 8

abbrev pub host_buffer_access_error : ℕ
host_buffer_access_error = 9

abbrev pub controller_error : ℕ
controller_error = 10

abbrev pub drive_error : ℕ
drive_error = 11
