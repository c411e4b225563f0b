-- The totals of what went over the wire: each a count of its moments, or the most or the least at any time.
use Rattle.std.specs.Prelude.{ℕ, zero, suc, ◌+◌, ◌-◌, ◌<◌, Bool, true, false, nat_eq, nat_le, if◌then◌else◌, List, [], ◌∷◌, ◌++◌, length, count_by, max, min, take, slice_index, slice_index_or, slice_set, Option, Some, None}
use Rattle.mscp_packet.specs.OpcodeBytes as opcodes
use Rattle.mscp_packet.specs.Statuses.{code_of}
use Rattle.mscp_packet.specs.Number.{num}
use Rattle.mscp_wire.specs.Wire.{History, answer_by, answered_by, is_it, is_long, outstanding, polled_by}
use Rattle.mscp_wire.specs.declared.answer.Answer.{Answer}
use Rattle.mscp_wire.specs.declared.falls.Falls.{Falls}
use Rattle.mscp_wire.specs.declared.moment.Moment.{Moment}
use Rattle.mscp_wire.specs.declared.moment.Moment.TheVariants as moments
use Rattle.mscp_wire.specs.declared.sent.Asked.{Asked}
use Rattle.mscp_wire.specs.declared.sent.Asked.TheVariants.{Oldest}
use Rattle.mscp_wire.specs.declared.sent.Sent.{Sent}
use Rattle.mscp_wire.specs.declared.totals.Counts.{Counts}
use Rattle.mscp_wire.specs.declared.totals.Totals.{Totals}

-- ---- moments

-- a host sends a message
abbrev pub is_sent : Moment → Bool
is_sent (moments.Message via b time) = true
is_sent m = false

-- it is a GET COMMAND STATUS
abbrev pub is_poll : Moment → Bool
is_poll (moments.Message via b time) = nat_eq (slice_index b.items 8) opcodes.get_command_status
is_poll m = false

-- the controller answers
abbrev pub is_end : Moment → Bool
is_end (moments.End via b) = true
is_end m = false

-- it is initialised, or a connection closes
abbrev pub is_reset : Moment → Bool
is_reset moments.Reset = true
is_reset (moments.Closed via) = true
is_reset m = false

-- the opcode of the command that a host sends
abbrev pub opcode_sent : Moment → Option ℕ
opcode_sent (moments.Message via b time) = if nat_le 12 (length b.items) then Some (slice_index b.items 8) else None
opcode_sent m = None

-- the code of the status that the controller ends a command with
abbrev pub code_told : Moment → Option ℕ
code_told (moments.End via b) = if nat_le 12 (length b.items) then Some (code_of (num b.items 10 2)) else None
code_told m = None

-- ---- counts

-- how many moments of a history have each number below n
unfoldable pub tally : (Moment → Option ℕ) → ℕ → History → List ℕ
tally number zero h = []
tally number (suc n) h = tally number n h ++ count_by (λ m. is_it (number m) n) h ∷ []

-- one more is counted at a place, if there is one
abbrev pub counted_at : List ℕ → Option ℕ → List ℕ
counted_at xs None = xs
counted_at xs (Some place) = slice_set xs place (slice_index xs place + 1)

-- the greatest of f 0, f 1 .. before f n
unfoldable pub greatest : (ℕ → ℕ) → ℕ → ℕ
greatest f zero = 0
greatest f (suc n) = max (greatest f n) (f n)

-- the most commands that were outstanding at any time
unfoldable pub longest : History → ℕ
longest h = greatest (λ i. length (outstanding (take i h))) (length h + 1)

-- ---- falls of a figure

-- how far a figure is below the last one, if both are there. 0 says that the command isn't outstanding, and is no fall
abbrev pub fall_below : Option ℕ → Option ℕ → ℕ
fall_below (Some last) (Some figure) = if nat_eq figure 0 then 0 else last - figure
fall_below last figure = 0

-- how far the figure of the oldest command fell
abbrev pub fall_of : Asked → Option ℕ → ℕ
fall_of (Oldest last) figure = fall_below last figure
fall_of asked figure = 0

-- by the end of this command, if it is a poll
abbrev pub fall_polled : Sent → Answer → Option ℕ → ℕ
fall_polled y e None = 0
fall_polled y e (Some other) = fall_of y.asked e.figure

-- by the end of this command, if there is one
abbrev pub fall_found : Answer → Option Sent → ℕ
fall_found e None = 0
fall_found e (Some y) = fall_polled y e (polled_by y e)

-- by a moment, before which these are outstanding: 0 if it tells no figure, or the first of its command
abbrev pub fall_after : List Sent → Moment → ℕ
fall_after xs (moments.End via b) =
    if is_long b.items then fall_found (answer_by via b.items) (answered_by xs (answer_by via b.items)) else 0
fall_after xs m = 0

-- by the moment at a place of a history
abbrev pub fall : History → ℕ → ℕ
fall h i = fall_after (outstanding (take i h)) (slice_index_or h i moments.Reset)

-- the lesser of two, of which 0 is none
abbrev pub lesser : ℕ → ℕ → ℕ
lesser x y = if nat_eq x 0 then y else (if nat_eq y 0 then x else min x y)

-- the least of f 0, f 1 .. before f n, of which 0 is none
unfoldable pub least : (ℕ → ℕ) → ℕ → ℕ
least f zero = 0
least f (suc n) = lesser (least f n) (f n)

-- the least and the greatest fall in a history
abbrev pub falls_of : History → Falls
falls_of h = record { least = least (fall h) (length h); greatest = greatest (fall h) (length h) }

-- ---- all of them

-- the counts of a history
abbrev pub counts_of : History → Counts
counts_of h = record {
  moments = length h;
  messages = count_by is_sent h;
  polls = count_by is_poll h;
  ends = count_by is_end h;
  resets = count_by is_reset h;
}

-- the totals of a history
abbrev pub totals_of : History → Totals
totals_of h = record {
  counts = counts_of h;
  commands = tally opcode_sent 256 h;
  statuses = tally code_told 32 h;
  queue = longest h;
  falls = falls_of h;
}

-- none of the counts is so large
pub record AreFew (counts : Counts) (n : ℕ) : Type 0 where
  pub moments : counts.moments < n
  pub messages : counts.messages < n
  pub polls : counts.polls < n
  pub ends : counts.ends < n
  pub resets : counts.resets < n

-- no number of a list is so large
abbrev pub AreBelow : List ℕ → ℕ → Type 0
AreBelow numbers n = (k : ℕ) → slice_index numbers k < n

pub record IsFew (totals : Totals) (n : ℕ) : Type 0 where
  pub counts : AreFew totals.counts n
  pub commands : AreBelow totals.commands n
  pub statuses : AreBelow totals.statuses n
