-- Stricter rules of figures than the manual's, which a legal trace keeps: the figure of each command that a poll finds
-- is at least 1, and falls from poll to poll, whichever is the oldest and whatever unit is named. All else is as the
-- judge of the wire has it, but that nothing is asked of the states of units and of the controller.
use Rattle.mscp_shown.proofs.Common.{Answer, Bool, Connection, History, List, None, Option, Seen, Sent, Some, Told, [], answer_by, command_at, drop, false, find, fold, if◌then◌else◌, is_below, is_named, length, list_any, map, nat_eq, nat_lt, place_of, polled_by, sent_by, take, true, ℕ, ◌&&◌, ◌++◌, ◌+◌, ◌<◌, ◌||◌, ◌∷◌, ◌≡◌}
use Rattle.mscp_wire.specs.Wire as wire
use Rattle.mscp_wire.specs.Wire.{is_immediate}
use Rattle.mscp_wire.specs.declared.moment.Moment.{Moment}
use Rattle.mscp_wire.specs.declared.moment.Moment.TheVariants as moments

-- a command, once a figure was told of it, if it is the one that the poll is about
abbrev pub hears : Answer → Option ℕ → Sent → Sent
hears e None s = s
hears e (Some other) s = if is_named e.connection other s then record s { told = e.figure } else s

-- what is outstanding once the end of the command at a place came: those that came before it hear the figure that it
-- tells of them
abbrev pub after_end : List Sent → Answer → Option ℕ → List Sent
after_end xs e None = xs
after_end xs e (Some i) = map (hears e (polled_by (command_at xs i) e)) (take i xs) ++ drop (i + 1) xs

-- what is outstanding once a moment more came
abbrev pub after : List Sent → Moment → List Sent
after xs (moments.Message via b time) = xs ++ sent_by via b.items ∷ []
after xs (moments.End via b) = after_end xs (answer_by via b.items) (place_of xs (answer_by via b.items))
after xs moments.Reset = []
after xs (moments.Closed via) = xs

abbrev pub outstanding : History → List Sent
outstanding h = fold after [] h

-- a figure is right that is told of this command, if it came before the poll, unless the command is answered when it
-- arrives. Where no command of that number came before, it is 0, unless one came since
abbrev pub may_tell : Option ℕ → Bool → Option Sent → Bool
may_tell None stands asked = false
may_tell (Some figure) stands None = stands || nat_eq figure 0
may_tell (Some figure) stands (Some x) = is_immediate x.opcode || (nat_lt 0 figure && is_below x.told figure)

-- the figure that it tells is right, where its command is a poll
abbrev pub has_figure : List Sent → List Sent → Answer → Option ℕ → Bool
has_figure xs earlier e None = true
has_figure xs earlier e (Some other) =
    may_tell e.figure (list_any (is_named e.connection other) xs) (find (is_named e.connection other) earlier)

-- a host's message keeps its rules
pub record IsRightMessage (credits : Option ℕ) (xs : List Sent) (b : List ℕ) (s : Sent) : Type 0 where
  pub message : wire.is_message b ≡ true
  pub number : wire.is_new xs s ≡ true
  pub credit : wire.has_credit credits xs s ≡ true

-- an end keeps the rules: its command is at place i of those that are outstanding, and this was told of its unit
pub record IsRightEnd (xs : List Sent) (was : Seen) (b : List ℕ) (e : Answer) (i : ℕ) : Type 0 where
  pub length : wire.is_long b ≡ true
  pub outstanding : place_of xs e ≡ Some i
  pub unit : wire.names_unit (command_at xs i) e ≡ true
  pub endcode : wire.has_endcode (command_at xs i) e ≡ true
  pub status : wire.has_status (command_at xs i) e ≡ true
  pub aborted : wire.has_abort (drop (i + 1) xs) (command_at xs i) e ≡ true
  pub order : wire.passes_none (take i xs) (command_at xs i) e ≡ true
  pub success : wire.succeeds e (wire.other_of (command_at xs i) e) ≡ true
  pub about : wire.is_about e (wire.other_of (command_at xs i) e) ≡ true
  pub figure : has_figure xs (take i xs) e (polled_by (command_at xs i) e) ≡ true
  pub count : wire.has_count e (wire.count_of (command_at xs i) e) ≡ true
  pub identity : wire.is_same_unit was.unit e ≡ true

-- what was told of the unit that a moment's end names, whether it is settled or not, and of the controller
abbrev pub told_at : (Connection → ℕ → Told) → Option ℕ → Moment → Seen
told_at units known (moments.End via b) =
    record { unit = units via (answer_by via b.items).unit; controller = known }
told_at units known m = wire.seen_nothing

-- a moment is right, before which these are outstanding and this was told of its unit
abbrev pub IsRightAfter : Option ℕ → List Sent → Seen → Moment → Type 0
IsRightAfter credits xs unit (moments.Message via b time) = IsRightMessage credits xs b.items (sent_by via b.items)
IsRightAfter credits xs unit (moments.End via b) = (i : ℕ) × IsRightEnd xs unit b.items (answer_by via b.items) i
IsRightAfter credits xs unit moments.Reset = Unit {0}
-- no connection of a trace closes
IsRightAfter credits xs unit (moments.Closed via) = ⊥

abbrev pub IsRight : Option ℕ → History → Moment → Type 0
IsRight credits h m = IsRightAfter credits (outstanding h) (told_at (wire.told h) (wire.controller h) m) m

abbrev pub AreRight : Option ℕ → History → Type 0
AreRight credits h = (i : ℕ) → i < length h → IsRight credits (take i h) (wire.moment_at h i)

-- what an end says suits the state of its unit, and the controller
abbrev pub IsStated : Seen → Moment → Type 0
IsStated seen (moments.End via b) =
    (wire.suits_state seen.unit.state (answer_by via b.items) ≡ true)
    × (wire.fits seen.controller (answer_by via b.items).controller ≡ true)
IsStated seen m = Unit {0}

abbrev pub AreStated : History → Type 0
AreStated h =
    (i : ℕ) → i < length h
    → IsStated (told_at (wire.told (take i h)) (wire.controller (take i h)) (wire.moment_at h i))
    (wire.moment_at h i)
