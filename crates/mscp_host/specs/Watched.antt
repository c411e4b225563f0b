-- Polls that a host may have in flight, and what they may have told.
use Rattle.std.specs.Prelude.{ℕ, Bool, true, false, not, ◌&&◌, ◌||◌, nat_eq, if◌then◌else◌, List, find, Option, Some, None, is_none}
use Rattle.std.specs.List.{list_all, list_any}
use Rattle.mscp_packet.specs.Opcodes.{row_of}
use Rattle.mscp_packet.specs.declared.class.Opcode.TheVariants as codes
use Rattle.mscp_host.specs.declared.submission.Submission.{Submission}
use Rattle.mscp_host.specs.declared.watch.Watch.{Watch}
use Rattle.mscp_host.specs.Accounts.{has_reference, is_immediate}

-- the submission is a GET COMMAND STATUS of this number
abbrev pub is_status : ℕ → Submission → Bool
is_status number s = has_reference number s && nat_eq s.opcode (row_of codes.Status).byte

-- it is one to this unit
abbrev pub is_poll : ℕ → ℕ → Submission → Bool
is_poll number unit s = is_status number s && nat_eq s.unit unit

-- the oldest of the commands that aren't answered when they arrive
abbrev pub oldest_of : List Submission → Option Submission
oldest_of xs = find (λ s. not (is_immediate s.opcode)) xs

-- the command has this number, if there is one
abbrev pub is_numbered : ℕ → Option Submission → Bool
is_numbered number None = false
is_numbered number (Some s) = has_reference number s

-- the oldest of those commands has this number
abbrev pub is_oldest : ℕ → List Submission → Bool
is_oldest number xs = is_numbered number (oldest_of xs)

-- a poll of this number, to the unit of the command, is outstanding, if there is a command
abbrev pub is_polled : ℕ → List Submission → Option Submission → Bool
is_polled number xs None = false
is_polled number xs (Some s) = list_any (is_poll number s.unit) xs

-- the poll is about the oldest command, and to its unit; or about one that is outstanding no more, and that isn't the
-- poll itself
abbrev pub is_about_somebody : List Submission → Watch → Bool
is_about_somebody xs w =
    if w.is_outstanding then is_oldest w.polled xs && is_polled w.reference xs (oldest_of xs)
    else not (nat_eq w.polled w.reference)

-- where a poll is in flight, its own GET COMMAND STATUS is outstanding, and it is about somebody
abbrev pub is_watched : List Submission → Option Watch → Bool
is_watched xs None = true
is_watched xs (Some w) = list_any (is_status w.reference) xs && is_about_somebody xs w

-- a figure was told of no other command than the oldest
abbrev pub are_told : List Submission → Bool
are_told xs = list_all (λ s. is_none s.told || is_oldest s.reference xs) xs
