-- What comes of bytes that a host is to be made of: the host that they say, or why not.
use Rattle.std.specs.Prelude.{ℕ, Bool, not, ◌&&◌, nat_eq, nat_lt, nat_le, if◌then◌else◌, List, length, drop, slice_index, Option, Some, None, Result, Ok, Err}
use Rattle.std.specs.Str.{bytes_eq}
use Rattle.mscp_packet.specs.Number.{num}
use Rattle.mscp_packet.specs.Parts.{parts_in}
use Rattle.mscp_host.specs.declared.submission.Submission.{Submission}
use Rattle.mscp_host.specs.declared.watch.Watch.{Watch}
use Rattle.mscp_host.specs.declared.restoring.RestoreFault.{RestoreFault}
use Rattle.mscp_host.specs.declared.restoring.RestoreFault.TheVariants as faults
use Rattle.mscp_host.specs.Accounts.{Account}
use Rattle.mscp_host.specs.Apart.{are_apart}
use Rattle.mscp_host.specs.Sound.{waiting}
use Rattle.mscp_host.specs.Watched.{are_told, is_watched}
use Rattle.mscp_host.specs.Saved.{head_size, magic, saved_bytes, saved_length, submission_size, version}

-- ---- what bytes say. Of bytes that are nobody's something is said, too

-- what was last told
abbrev pub told_in : ℕ → ℕ → Option ℕ
told_in flag figure = if nat_eq flag 0 then None else Some figure

-- the submission in the bytes of one
abbrev pub submission_in : List ℕ → Submission
submission_in b = record {
  reference = num b 0 4;
  unit = num b 4 2;
  opcode = slice_index b 6;
  told = told_in (slice_index b 7) (num b 8 4);
}

-- the poll in flight
abbrev pub watch_in : ℕ → ℕ → ℕ → Option Watch
watch_in kind reference polled =
    if nat_eq kind 0 then None
    else Some (record { reference = reference; polled = polled; is_outstanding = nat_eq kind 2 })

-- how many submissions there are
abbrev pub count_in : List ℕ → ℕ
count_in b = slice_index b 16

-- the outstanding submissions
abbrev pub outstanding_in : List ℕ → List Submission
outstanding_in b = parts_in submission_in submission_size (count_in b) (drop head_size b)

-- all that is said of a host
abbrev pub account_in : List ℕ → Account
account_in b = record {
  credits = num b 12 4;
  outstanding = outstanding_in b;
  watch = watch_in (slice_index b 17) (num b 18 4) (num b 22 4);
}

-- ---- why not

-- there is a head, and as many bytes as it tells, which are those of the parts that it tells
abbrev pub is_framed : List ℕ → Bool
is_framed b =
    nat_le head_size (length b)
    && (nat_eq (num b 8 4) (length b) && nat_eq (saved_length (count_in b)) (length b))

-- why they have no head of a saved host, or one of more than a host holds: the first that holds
abbrev pub head_fault : List ℕ → Option RestoreFault
head_fault b =
    if not (is_framed b) then Some faults.Length else (
    if not (nat_eq (num b 0 4) magic) then Some faults.Magic else (
    if not (nat_eq (num b 4 4) version) then Some faults.Version else (
    if not (nat_le 2 (num b 12 4) && nat_le (num b 12 4) 64) then Some faults.Credits else (
    if nat_lt (num b 12 4) (count_in b) then Some faults.Outstanding else None))))

-- this host, where the bytes are those that it is saved as
abbrev pub whose : List ℕ → Account → Result Account RestoreFault
whose b a = if bytes_eq (saved_bytes a) b then Ok a else Err faults.Form

-- why no host has that: the first that holds
abbrev pub account_fault : Account → Option RestoreFault
account_fault a =
    if not (nat_lt (length (waiting a.outstanding)) a.credits) then Some faults.Outstanding else (
    if not (are_apart a.outstanding) then Some faults.Doubled else (
    if not (is_watched a.outstanding a.watch && are_told a.outstanding) then Some faults.Poll else None))

abbrev pub whose_unless : Option RestoreFault → List ℕ → Account → Result Account RestoreFault
whose_unless (Some fault) b a = Err fault
whose_unless None b a = whose b a

abbrev pub restored_unless : Option RestoreFault → List ℕ → Result Account RestoreFault
restored_unless (Some fault) b = Err fault
restored_unless None b = whose_unless (account_fault (account_in b)) b (account_in b)

-- the host that bytes say, whose bytes they are, or why they are none's
abbrev pub restored : List ℕ → Result Account RestoreFault
restored b = restored_unless (head_fault b) b
