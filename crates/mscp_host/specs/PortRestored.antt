-- What comes of bytes that a host of a port is to be made of: the host that they say, or why not.
use Rattle.std.specs.Prelude.{ℕ, Bool, not, ◌&&◌, nat_eq, nat_le, if◌then◌else◌, List, [], ◌∷◌, length, drop, slice_index, Option, Some, None, Result, Ok, Err}
use Rattle.std.specs.Str.{bytes_eq}
use Rattle.mscp_packet.specs.Number.{num}
use Rattle.mscp_host.specs.declared.asked.Asked.{Asked}
use Rattle.mscp_host.specs.declared.submission.Submission.{Submission}
use Rattle.mscp_host.specs.declared.restoring.RestoreFault.{RestoreFault}
use Rattle.mscp_host.specs.declared.restoring.RestoreFault.TheVariants as faults
use Rattle.mscp_host.specs.Accounts.{Account}
use Rattle.mscp_host.specs.PortAccounts.{PortAccount}
use Rattle.mscp_host.specs.Restored.{restored}
use Rattle.mscp_host.specs.PortSaved.{host_place, port_head_size, port_magic, port_saved_bytes, port_saved_length, port_version, size_size}

-- ---- what bytes say. Of bytes that are nobody's something is said, too

-- an outstanding command, with the bytes that it asks for
abbrev pub asked_with : Submission → ℕ → Asked
asked_with s bytes = record { reference = s.reference; unit = s.unit; opcode = s.opcode; bytes = bytes }

-- the outstanding commands, with the bytes that each asks for, in this order
abbrev pub asked_in : List ℕ → List Submission → List Asked
asked_in b [] = []
asked_in b (s ∷ rest) = asked_with s (num b 0 4) ∷ asked_in (drop size_size b) rest

-- how many commands are outstanding
abbrev pub asked_count : List ℕ → ℕ
asked_count b = slice_index b 15

-- the bytes of the host in it
abbrev pub host_part : List ℕ → List ℕ
host_part b = drop (host_place (asked_count b)) b

-- all that is said of a host of a port that has this host in it
abbrev pub port_account_in : List ℕ → Account → PortAccount
port_account_in b a = record {
  account = a;
  asked = asked_in (drop port_head_size b) a.outstanding;
  credits = num b 12 2;
  is_over = not (nat_eq (slice_index b 14) 0);
}

-- ---- why not

-- there is a head, and as many bytes as it tells, which are those of the parts that it tells
abbrev pub is_port_framed : List ℕ → Bool
is_port_framed b =
    nat_le port_head_size (length b)
    && (nat_eq (num b 8 4) (length b) && nat_eq (port_saved_length (asked_count b)) (length b))

-- why they have no head of a saved host of a port: the first that holds
abbrev pub port_head_fault : List ℕ → Option RestoreFault
port_head_fault b =
    if not (is_port_framed b) then Some faults.Length else (
    if not (nat_eq (num b 0 4) port_magic) then Some faults.Magic else (
    if not (nat_eq (num b 4 4) port_version) then Some faults.Version else None))

-- this host of a port, where the bytes are those that it is saved as
abbrev pub port_whose : List ℕ → PortAccount → Result PortAccount RestoreFault
port_whose b p = if bytes_eq (port_saved_bytes p) b then Ok p else Err faults.Form

-- with what comes of the bytes of the host in it, which has 64 credits
abbrev pub port_restored_with : List ℕ → Result Account RestoreFault → Result PortAccount RestoreFault
port_restored_with b (Err fault) = Err fault
port_restored_with b (Ok a) = if nat_eq a.credits 64 then port_whose b (port_account_in b a) else Err faults.Credits

abbrev pub port_restored_unless : Option RestoreFault → List ℕ → Result PortAccount RestoreFault
port_restored_unless (Some fault) b = Err fault
port_restored_unless None b = port_restored_with b (restored (host_part b))

-- the host of a port that bytes say, whose bytes they are, or why they are none's
abbrev pub port_restored : List ℕ → Result PortAccount RestoreFault
port_restored b = port_restored_unless (port_head_fault b) b
