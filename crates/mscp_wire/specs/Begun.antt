-- A log that begins in the middle. Hosts had sent commands before it, which it doesn't show. Up to the first reset
-- their ends may come, and what they do to units isn't known. So until then these rules aren't asked, and beside each
-- the definition that says of which ends:
--
--     Outstanding of the first end that has its number, if nothing before it has that             is_unnamed
--     Figure      of any: an older command may be outstanding. What is told of a command that
--                 the log sends is a doubt then                                                    is_slow
--     Identity    of a unit, until an AVAILABLE or an ONLINE that the log sends to it succeeds:
--     State       all that its host had sent to it before has ended then. A second host may have
--                 sent something, too                                                              is_sure
use Rattle.std.specs.Prelude.{ℕ, Bool, true, false, not, ◌&&◌, ◌||◌, nat_eq, List, Option, Some, None}
use Rattle.std.specs.List.{list_any}
use Rattle.mscp_packet.specs.EndcodeBytes as endcodes
use Rattle.mscp_packet.specs.StatusCodes as statuses
use Rattle.mscp_packet.specs.Number.{num}
use Rattle.mscp_drive.specs.declared.connection.Connection.{Connection}
use Rattle.mscp_wire.specs.Wire.{History, answer_by, broken_by, is_message, other_side, same_connection, status_code}
use Rattle.mscp_wire.specs.declared.answer.Answer.{Answer}
use Rattle.mscp_wire.specs.declared.moment.Moment.{Moment}
use Rattle.mscp_wire.specs.declared.moment.Moment.TheVariants as moments
use Rattle.mscp_wire.specs.declared.rule.Rule.{Rule}
use Rattle.mscp_wire.specs.declared.rule.Rule.TheVariants as rules

-- ---- what the log shows

-- the packet in these bytes has this number, and is of this connection
abbrev pub has_name : Connection → List ℕ → Connection → ℕ → Bool
has_name other b via reference = same_connection other via && nat_eq (num b 0 4) reference

-- a message has it
abbrev pub sends : Connection → ℕ → Moment → Bool
sends via reference (moments.Message other b time) = has_name other b.items via reference
sends via reference m = false

-- a message or an end has it
abbrev pub names : Connection → ℕ → Moment → Bool
names via reference (moments.Message other b time) = has_name other b.items via reference
names via reference (moments.End other b) = has_name other b.items via reference
names via reference m = false

-- it is of this connection, or that closes
abbrev pub is_on : Connection → Moment → Bool
is_on via (moments.Message other b time) = same_connection other via
is_on via (moments.End other b) = same_connection other via
is_on via (moments.Closed other) = same_connection other via
is_on via moments.Reset = false

-- the controller is initialised
abbrev pub is_initial : Moment → Bool
is_initial moments.Reset = true
is_initial m = false

-- an end says that an AVAILABLE or an ONLINE of a unit succeeded
abbrev pub turns_unit : ℕ → Answer → Bool
turns_unit unit e =
    (nat_eq e.code endcodes.available || nat_eq e.code endcodes.online) && nat_eq (status_code e) statuses.success
    && nat_eq e.unit unit

abbrev pub has_turned : Connection → ℕ → Moment → Bool
has_turned via unit (moments.End other b) = same_connection other via && turns_unit unit (answer_by other b.items)
has_turned via unit m = false

-- ---- which ends are spared

-- a log that begins in the middle, if this is true, is still there after these moments
abbrev pub is_middle : Bool → History → Bool
is_middle begun h = begun && not (list_any is_initial h)

-- neither these moments nor these ends have the number of an end
abbrev pub is_unnamed : History → History → Answer → Bool
is_unnamed h strangers e =
    not (list_any (names e.connection e.reference) h) && not (list_any (names e.connection e.reference) strangers)

-- one of these moments or ends is of this connection
abbrev pub has_met : History → History → Connection → Bool
has_met h strangers via = list_any (is_on via) h || list_any (is_on via) strangers

-- all that the host of a connection had sent to a unit before the log has ended, and it is the only host
abbrev pub is_sure : History → History → Answer → Bool
is_sure h strangers e =
    list_any (has_turned e.connection e.unit) h && not (has_met h strangers (other_side e.connection))

-- a rule isn't asked of an end in the middle
abbrev pub spares_end : History → History → Answer → Rule → Bool
spares_end h strangers e rules.Outstanding = is_unnamed h strangers e
spares_end h strangers e rules.Figure = true
spares_end h strangers e rules.Identity = not (is_sure h strangers e)
spares_end h strangers e rules.State = not (is_sure h strangers e)
spares_end h strangers e rule = false

abbrev pub spares : History → History → Moment → Rule → Bool
spares h strangers (moments.End via b) rule =
    is_message b.items && spares_end h strangers (answer_by via b.items) rule
spares h strangers m rule = false

-- ---- which figures are doubtful

abbrev pub is_figure : Option Rule → Bool
is_figure (Some rules.Figure) = true
is_figure rule = false

-- one of these moments sends the command of this number, if that is there
abbrev pub has_sent : History → Connection → Option ℕ → Bool
has_sent h via None = false
has_sent h via (Some reference) = list_any (sends via reference) h

-- an end is about a command that one of these moments sends
abbrev pub is_about_sent : History → Moment → Bool
is_about_sent h (moments.End via b) = is_message b.items && has_sent h via (answer_by via b.items).parameter
is_about_sent h m = false

-- in the middle a poll of a command that the log sends tells a figure that would be wrong of the oldest one
abbrev pub is_slow : Bool → Option ℕ → History → Moment → Bool
is_slow begun credits h m = is_middle begun h && is_figure (broken_by credits h m) && is_about_sent h m
