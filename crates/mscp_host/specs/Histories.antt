-- What a host did and was answered, moment by moment, and what it keeps: collected from that list by positions, whoever
-- its peer is. A command of a host is the moment in which it was sent, so a reference number that is used again names
-- another command.
use Rattle.std.specs.Prelude.{ℕ, Bool, true, false, not, ◌&&◌, nat_eq, nat_lt, if◌then◌else◌, List, map, filter, find, flat_map, slice_index_or, Option, Some, None, option_map, option_to_list, Result, Ok, Err}
use Rattle.std.specs.List.{last_or, list_any, range_with_len}
use Rattle.arrayvec.specs.ArrayVec.{ArrayVec}
use Rattle.mscp_packet.specs.declared.command.Command.{Command}
use Rattle.mscp_packet.specs.declared.command.Order.TheVariants as orders
use Rattle.mscp_packet.specs.declared.end.End.{End}
use Rattle.mscp_packet.specs.declared.reading.EndFault.{EndFault}
use Rattle.mscp_packet.specs.Commands.{opcode_byte}
use Rattle.mscp_host.specs.declared.submission.Submission.{Submission}
use Rattle.mscp_host.specs.declared.watch.Watch.{Watch}
use Rattle.mscp_host.specs.declared.news.HostFault.{HostFault}
use Rattle.mscp_host.specs.declared.news.News.{News}
use Rattle.mscp_host.specs.declared.news.News.TheVariants as news
use Rattle.mscp_host.specs.declared.news.Poll.{Poll}
use Rattle.mscp_host.specs.declared.news.Poll.TheVariants as polls
use Rattle.mscp_host.specs.Accounts.{Account, end_in, is_immediate, news_of_figure, status_end, told_in}

-- a call and its answer; an end that was read for the host (by one that hears a port), and what was said of it; or
-- something in which the host has no part
pub data Moment : Type 0 where
  Submit : Command → Result (ArrayVec ℕ) HostFault → Moment
  Ask : ℕ → Result Poll HostFault → Moment
  Receive : List ℕ → Result News HostFault → Moment
  Settle : End → News → Moment
  Other : Moment

-- oldest first
abbrev pub History : Type 0
History = List Moment

-- the moment at a position. Past the end there is none of the host
abbrev pub moment : History → ℕ → Moment
moment h j = slice_index_or h j Other

-- the positions before j, in order
abbrev pub before : ℕ → List ℕ
before j = range_with_len 0 j

-- ---- what one moment says

-- a command was sent
abbrev pub is_sent : Moment → Bool
is_sent (Submit command (Ok message)) = true
is_sent (Ask reference (Ok (polls.Ask message))) = true
is_sent m = false

-- it was a poll
abbrev pub is_poll : Moment → Bool
is_poll (Ask reference (Ok (polls.Ask message))) = true
is_poll m = false

-- the reference number of the command that is to be sent
abbrev pub reference_in : Moment → ℕ
reference_in (Submit command answer) = command.reference
reference_in (Ask reference answer) = reference
reference_in m = 0

-- its opcode byte: that of GET COMMAND STATUS where it is a poll (manual)
abbrev pub opcode_in : Moment → ℕ
opcode_in (Submit command answer) = opcode_byte command.order
opcode_in (Ask reference answer) = opcode_byte (orders.Status 0)
opcode_in m = 0

-- the unit that it names, if it is no poll
abbrev pub unit_in : Moment → ℕ
unit_in (Submit command answer) = command.unit
unit_in m = 0

-- what bytes are read as, if they are an end
abbrev pub end_or_none : Result End EndFault → Option End
end_or_none (Ok e) = Some e
end_or_none (Err fault) = None

-- the end that was heard, if the host didn't refuse it
abbrev pub end_heard : Moment → Option End
end_heard (Receive bytes (Ok n)) = end_or_none (end_in bytes)
end_heard (Settle e n) = Some e
end_heard m = None

-- what was said of it
abbrev pub news_heard : Moment → Option News
news_heard (Receive bytes (Ok n)) = Some n
news_heard (Settle e n) = Some n
news_heard m = None

-- it has this reference number
abbrev pub is_end_of : ℕ → Option End → Bool
is_end_of reference None = false
is_end_of reference (Some e) = nat_eq reference e.reference

-- the figure that an end tells, where it is that of a GET COMMAND STATUS (manual, "End Messages")
abbrev pub figure_in : Option End → Option ℕ
figure_in None = None
figure_in (Some e) = if nat_eq e.code status_end then option_map (λ told. told.1) (told_in e.body) else None

-- ---- commands

-- the reference number of the command i
abbrev pub reference : History → ℕ → ℕ
reference h i = reference_in (moment h i)

-- its opcode byte
abbrev pub opcode : History → ℕ → ℕ
opcode h i = opcode_in (moment h i)

-- its end is heard at k
abbrev pub is_ended : History → ℕ → ℕ → Bool
is_ended h i k = nat_lt i k && is_end_of (reference h i) (end_heard (moment h k))

-- a command was sent at i, before j, and before j its end wasn't heard (manual)
abbrev pub is_outstanding : History → ℕ → ℕ → Bool
is_outstanding h j i = nat_lt i j && is_sent (moment h i) && not (list_any (is_ended h i) (before j))

-- those that are outstanding before j, oldest first (manual)
unfoldable pub outstanding : History → ℕ → List ℕ
outstanding h j = filter (is_outstanding h j) (before j)

-- the command whose end is heard at k, if one is heard
abbrev pub handed_over : History → ℕ → Option ℕ
handed_over h k = find (λ i. is_end_of (reference h i) (end_heard (moment h k))) (outstanding h k)

-- ---- polls

-- the command that a poll at j is about: the oldest outstanding one that isn't answered when it arrives (manual, "Host
-- Command Timeouts")
abbrev pub asked_for : History → ℕ → Option ℕ
asked_for h j = find (λ i. not (is_immediate (opcode h i))) (outstanding h j)

-- its reference number, 0 if there is none
abbrev pub reference_found : History → Option ℕ → ℕ
reference_found h None = 0
reference_found h (Some i) = reference h i

-- its unit, 0 if there is none
abbrev pub unit_found : History → Option ℕ → ℕ
unit_found h None = 0
unit_found h (Some i) = unit_in (moment h i)

-- a command was found, and it is i
abbrev pub is_it : ℕ → Option ℕ → Bool
is_it i None = false
is_it i (Some x) = nat_eq x i

-- a poll about the command i was sent at p
abbrev pub asks_about : History → ℕ → ℕ → Bool
asks_about h i p = is_poll (moment h p) && is_it i (asked_for h p)

-- what the end of the command p, heard at k, tells of the command i: a figure, if p is a poll about it
abbrev pub figure_from : History → ℕ → ℕ → Option ℕ → Option ℕ
figure_from h i k None = None
figure_from h i k (Some p) = if asks_about h i p then figure_in (end_heard (moment h k)) else None

-- what is told of the command i at k, if something is
abbrev pub told_at : History → ℕ → ℕ → Option ℕ
told_at h i k = figure_from h i k (handed_over h k)

-- the last that was told of the command i before j, if something was
abbrev pub last_told : History → ℕ → ℕ → Option ℕ
last_told h j i = last_or None (flat_map (λ k. option_to_list (told_at h i k)) (before j))

-- ---- what the host keeps

-- the unit that the command i names: a poll names that of the command that it is about
abbrev pub unit_named : History → ℕ → Moment → ℕ
unit_named h i (Ask reference answer) = unit_found h (asked_for h i)
unit_named h i m = unit_in m

-- what is kept of the command i before j
abbrev pub submission_at : History → ℕ → ℕ → Submission
submission_at h j i = record {
  reference = reference h i;
  unit = unit_named h i (moment h i);
  opcode = opcode h i;
  told = last_told h j i;
}

-- a command was found, and it is outstanding before j
abbrev pub found_stands : History → ℕ → Option ℕ → Bool
found_stands h j None = false
found_stands h j (Some i) = is_outstanding h j i

-- what is kept of the poll p then
abbrev pub watch_at : History → ℕ → ℕ → Watch
watch_at h j p = record {
  reference = reference h p;
  polled = reference_found h (asked_for h p);
  is_outstanding = found_stands h j (asked_for h p);
}

-- the poll whose end wasn't heard before j, if there is one
abbrev pub in_flight : History → ℕ → Option ℕ
in_flight h j = find (λ p. is_poll (moment h p)) (outstanding h j)

-- all that a host of so many credits keeps before j: computed from the list, not from the host
abbrev pub account_at : ℕ → History → ℕ → Account
account_at credits h j = record {
  credits = credits;
  outstanding = map (submission_at h j) (outstanding h j);
  watch = option_map (watch_at h j) (in_flight h j);
}

-- ---- what is said

-- what was last told of the command that was found
abbrev pub last_found : History → ℕ → Option ℕ → Option ℕ
last_found h j None = None
last_found h j (Some i) = last_told h j i

-- what an end says at j that tells this figure of that command, if it answers a poll
abbrev pub says_of : History → ℕ → End → Option ℕ → Option ℕ → News
says_of h j e asked None = news.Ended e
says_of h j e asked (Some figure) =
    if found_stands h j asked then news_of_figure (last_found h j asked) figure else news.Late

-- what the end e of the command p says at j
abbrev pub news_at : History → ℕ → End → ℕ → News
news_at h j e p = says_of h j e (asked_for h p) (if is_poll (moment h p) then figure_in (Some e) else None)
