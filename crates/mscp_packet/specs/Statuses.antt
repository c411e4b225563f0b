-- The statuses of ends, by their names. The low five bits are the code, the rest the sub-code, which for an Invalid
-- Command tells at which byte the field at fault stands (manual, "Status and Event Codes").
use Rattle.std.specs.Prelude.{ℕ, ◌%◌, nat_eq, if◌then◌else◌, List, codes}
use Rattle.mscp_packet.specs.StatusCodes as code

-- Success
abbrev pub success : ℕ
success = 0x0000

-- Success, and the unit was online already
abbrev pub already_online : ℕ
already_online = 0x0100

-- Invalid Command: the message is shorter than a command of its opcode may be
abbrev pub invalid_length : ℕ
invalid_length = 0x0001

-- Invalid Command: the opcode, in byte 8, isn't known
abbrev pub invalid_opcode : ℕ
invalid_opcode = 0x0801

-- Invalid Command: the MSCP version, or the byte count of a transfer, both in bytes 12 and 13, isn't right
abbrev pub invalid_version : ℕ
invalid_version = 0x0C01

-- Invalid Command: the logical block number, from byte 28 on, isn't one of the unit's
abbrev pub invalid_block : ℕ
invalid_block = 0x1C01

-- Command Aborted
abbrev pub aborted : ℕ
aborted = 0x0002

-- Unit-Offline: the unit isn't configured
abbrev pub unit_offline : ℕ
unit_offline = 0x0003

-- Unit-Offline: no volume is in the unit, or its switch is off
abbrev pub no_volume : ℕ
no_volume = 0x0023

-- Unit-Available: the unit isn't online
abbrev pub unit_available : ℕ
unit_available = 0x0004

-- Write Protected: by the host
abbrev pub protected_by_host : ℕ
protected_by_host = 0x1006

-- Write Protected: by the hardware
abbrev pub protected : ℕ
protected = 0x2006

-- Compare Error: the bytes that were compared differ
abbrev pub different : ℕ
different = 0x0007

-- Host Buffer Access Error: the address of the data is odd
abbrev pub odd_address : ℕ
odd_address = 0x0029

-- Host Buffer Access Error: the count of the bytes is odd
abbrev pub odd_count : ℕ
odd_count = 0x0049

-- Host Buffer Access Error: not all of the memory is there
abbrev pub missing : ℕ
missing = 0x0069

-- Host Buffer Access Error: the memory has a parity error
abbrev pub parity : ℕ
parity = 0x0089

-- Host Buffer Access Error: the bus maps no memory there
abbrev pub unmapped : ℕ
unmapped = 0x00A9

-- Drive Error
abbrev pub drive_error : ℕ
drive_error = 0x000B

-- ---- in words

-- the code of a status
abbrev pub code_of : ℕ → ℕ
code_of status = status % 32

-- the manual's words for a status of a code
abbrev pub code_name : ℕ → List ℕ
code_name number =
    if nat_eq number code.success then codes "Success" else (
    if nat_eq number code.invalid_command then codes "Invalid Command" else (
    if nat_eq number code.aborted then codes "Command Aborted" else (
    if nat_eq number code.unit_offline then codes "Unit-Offline" else (
    if nat_eq number code.unit_available then codes "Unit-Available" else (
    if nat_eq number code.media_format_error then codes "Media Format Error" else (
    if nat_eq number code.write_protected then codes "Write Protected" else (
    if nat_eq number code.compare_error then codes "Compare Error" else (
    if nat_eq number code.data_error then codes "Data Error" else (
    if nat_eq number code.host_buffer_access_error then codes "Host Buffer Access Error" else (
    if nat_eq number code.controller_error then codes "Controller Error" else (
    if nat_eq number code.drive_error then codes "Drive Error" else codes "unknown status")))))))))))

-- the manual's words for a status: those of its code, and of its sub-code if that has some here
abbrev pub status_words : ℕ → List ℕ
status_words status =
    if nat_eq status already_online then codes "Success: already online" else (
    if nat_eq status invalid_length then codes "Invalid Command: message length" else (
    if nat_eq status invalid_opcode then codes "Invalid Command: opcode" else (
    if nat_eq status invalid_version then codes "Invalid Command: byte count, or MSCP version" else (
    if nat_eq status invalid_block then codes "Invalid Command: logical block number" else (
    if nat_eq status unit_offline then codes "Unit-Offline: unknown unit" else (
    if nat_eq status no_volume then codes "Unit-Offline: no volume" else (
    if nat_eq status protected_by_host then codes "Write Protected: by software" else (
    if nat_eq status protected then codes "Write Protected: by hardware" else (
    if nat_eq status odd_address then codes "Host Buffer Access Error: odd transfer address" else (
    if nat_eq status odd_count then codes "Host Buffer Access Error: odd byte count" else (
    if nat_eq status missing then codes "Host Buffer Access Error: non-existent memory" else (
    if nat_eq status parity then codes "Host Buffer Access Error: memory parity error" else (
    if nat_eq status unmapped then codes "Host Buffer Access Error: invalid page table entry" else (
    code_name (code_of status)))))))))))))))
