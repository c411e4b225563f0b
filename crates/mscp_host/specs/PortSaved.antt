-- The bytes that a host of a port is saved as. All numbers are little-endian.
use Rattle.std.specs.Prelude.{ℕ, ◌+◌, ◌*◌, ◌^◌, ◌<◌, Bool, if◌then◌else◌, List, [], ◌∷◌, ◌++◌, length, flat_map, All}
use Rattle.byteorder.specs.Endian.{little_bytes}
use Rattle.mscp_host.specs.declared.asked.Asked.{Asked}
use Rattle.mscp_host.specs.PortAccounts.{PortAccount}
use Rattle.mscp_host.specs.Saved.{HasRange, saved_bytes, saved_length}

-- the head takes so many bytes, and what is kept of a command beside what the host in it keeps
abbrev pub port_head_size : ℕ
port_head_size = 16

abbrev pub size_size : ℕ
size_size = 4

-- where the host in it begins, with so many commands outstanding
abbrev pub host_place : ℕ → ℕ
host_place commands = port_head_size + size_size * commands

-- and how long all is
abbrev pub port_saved_length : ℕ → ℕ
port_saved_length commands = host_place commands + saved_length commands

-- "MSCD", as a number
abbrev pub port_magic : ℕ
port_magic = 0x4443534D

abbrev pub port_version : ℕ
port_version = 1

-- what tells that it is a saved host of a port, of this version of the format, and of so many bytes
abbrev pub port_frame_bytes : ℕ → List ℕ
port_frame_bytes commands =
    little_bytes 4 port_magic ++ little_bytes 4 port_version ++ little_bytes 4 (port_saved_length commands)

abbrev pub flag_byte : Bool → ℕ
flag_byte holds = if holds then 1 else 0

-- how many bytes a command asks for
abbrev pub size_bytes : Asked → List ℕ
size_bytes asked = little_bytes 4 asked.bytes

-- all that a host of a port keeps: the commands in the order in which they were sent, and behind that the host of 64
-- credits in it
abbrev pub port_saved_bytes : PortAccount → List ℕ
port_saved_bytes p =
    port_frame_bytes (length p.asked)
    ++ little_bytes 2 p.credits
    ++ (flag_byte p.is_over ∷ [])
    ++ (length p.asked ∷ [])
    ++ flat_map size_bytes p.asked
    ++ saved_bytes p.account

-- ---- ranges

abbrev pub HasAskedRange : Asked → Type 0
HasAskedRange asked = asked.bytes < 2 ^ 32

-- all numbers fit their types
pub record HasPortRange (p : PortAccount) : Type 0 where
  pub account : HasRange p.account
  pub asked : All HasAskedRange p.asked
  pub credits : p.credits < 2 ^ 16
