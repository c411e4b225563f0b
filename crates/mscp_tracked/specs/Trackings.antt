-- What a tracked controller holds, and how each call changes it.
use Rattle.std.specs.Prelude.{◌≡◌, ℕ, ◌+◌, ◌%◌, ◌^◌, Bool, true, false, ◌&&◌, nat_eq, is_some, IfSome, List, length, slice_get, slice_index_or, Option, Some, None, option_map, Result, Ok, Err}
use Rattle.std.specs.List.{position}
use Rattle.mscp_packet.specs.declared.command.Order.{Order}
use Rattle.mscp_packet.specs.declared.command.Order.TheVariants as orders
use Rattle.mscp_packet.specs.Commands.{command_of}
use Rattle.mscp_drive.specs.Both.{of}
use Rattle.mscp_drive.specs.Settings.{IsValid, Settings}
use Rattle.mscp_drive.specs.declared.block.Block.{Block}
use Rattle.mscp_drive.specs.declared.connection.Connection.{Connection}
use Rattle.mscp_queue.specs.declared.name.Name.{Name}
use Rattle.mscp_queue.specs.declared.report.Report.{Report}
use Rattle.mscp_queue.specs.declared.report.Report.TheVariants.{Idle, Served}
use Rattle.mscp_queue.specs.declared.upcoming.Upcoming.{Upcoming}
use Rattle.mscp_queue.specs.declared.view.Choice.{Choice}
use Rattle.mscp_queue.specs.Names.{name_on}
use Rattle.mscp_queue.specs.Records.{Record, has_name}
use Rattle.mscp_queue.specs.Serving.{place_begun}
use Rattle.mscp_controller.specs.Holdings.{Foretells, Holdings, IsBalanced, Steps, after_message, answer_to_message, begun_step, fresh}
use Rattle.mscp_controller.specs.Holdings as plain
use Rattle.mscp_controller.specs.declared.entry.NotBegun.{NotBegun}
use Rattle.mscp_controller.specs.declared.entry.SendFault.{SendFault}
use Rattle.mscp_controller.specs.declared.entry.Sent.{Sent}
use Rattle.mscp_tracked.specs.declared.tracked.Beginning.{Beginning}
use Rattle.mscp_tracked.specs.declared.tracked.Ended.{Ended}
use Rattle.mscp_tracked.specs.declared.tracked.Finished.{Finished}
use Rattle.mscp_tracked.specs.declared.tracked.Taken.{Taken}
use Rattle.mscp_tracked.specs.Cookies.{Cookies, cookie_in, no_cookies, reported, sent, taken}

-- a controller, the cookies of its commands and ends, and how many beginnings it told: the serial given last
pub record Tracking (K : Type 0) : Type 0 where
  pub controller : Holdings K
  pub cookies : Cookies
  pub beginnings : ℕ

-- each list of cookies is as long as the controller's list beside it
pub record AreBeside {K : Type 0} (h : Holdings K) (k : Cookies) : Type 0 where
  pub waiting : length k.waiting ≡ length h.waiting
  pub first : length k.untaken.first ≡ length h.untaken.first
  pub second : length k.untaken.second ≡ length h.untaken.second

-- what is true of each, whatever came to it
pub record IsTracked {K : Type 0} (h : Holdings K) (k : Cookies) : Type 0 where
  pub beside : AreBeside h k
  pub valid : IsValid h.settings
  pub account : IsBalanced h

-- one to which nothing came so far, and that told so many beginnings before
abbrev pub new_after : {K : Type 0} → ℕ → Settings → K → Tracking K
new_after beginnings c picker = record {
  controller = fresh c picker;
  cookies = no_cookies;
  beginnings = beginnings;
}

-- ---- a message

-- the number of the command that an order names to be aborted, if it is an ABORT
abbrev pub number_aborted : Order → Option ℕ
number_aborted (orders.Abort other) = Some other
number_aborted order = None

-- the place of the waiting command of this number of a connection, if one is meant and waits
abbrev pub place_of : Connection → List Record → Option ℕ → Option ℕ
place_of via rs None = None
place_of via rs (Some other) = position (has_name (name_on via other)) rs

-- the place of the waiting command that an order of a connection names to be aborted, if there is one
abbrev pub place_aborted : Connection → List Record → Order → Option ℕ
place_aborted via rs order = place_of via rs (number_aborted order)

-- the cookies after a message of a connection with this one, to which this was answered. A refusal changes nothing
abbrev pub cookies_sent : {K : Type 0} → Connection → Tracking K → List ℕ → ℕ → Result Sent SendFault → Cookies
cookies_sent via t b cookie (Err fault) = t.cookies
cookies_sent via t b cookie (Ok became) =
    sent via became (place_aborted via t.controller.waiting (command_of b).order) cookie t.cookies

-- what is held after it
abbrev pub after_message_with : {K : Type 0} → Connection → Tracking K → List ℕ → ℕ → Tracking K
after_message_with via t b cookie = record t {
  controller = after_message via t.controller b;
  cookies = cookies_sent via t b cookie (answer_to_message via t.controller b);
}

-- ---- a begin

-- the cookie of what was begun, 0 where nothing was
abbrev pub cookie_begun : {K : Type 0} → Tracking K → ℕ
cookie_begun t = cookie_in t.cookies.waiting (place_begun t.controller.waiting t.controller.begun)

-- what is told of a step that is begun
abbrev pub beginning_of : {K : Type 0} → Tracking K → Upcoming → Beginning
beginning_of t upcoming = record { upcoming = upcoming; serial = t.beginnings; cookie = cookie_begun t }

-- what is begun, if something is
abbrev pub beginning : {K : Type 0} → Tracking K → Option Beginning
beginning t = option_map (beginning_of t) (begun_step t.controller)

-- the serial after this one
abbrev pub next_serial : ℕ → ℕ
next_serial serial = (serial + 1) % 2 ^ 64

-- how many beginnings were told, once this one was, if one was
abbrev pub counted : {X : Type 0} → Option X → ℕ → ℕ
counted None beginnings = beginnings
counted (Some told) beginnings = next_serial beginnings

-- something is begun anew, if a command waits: it has the next serial
pub record BeginsAnew {K : Type 0} (picks : List Choice → ℕ → Type 0)
    (old : Tracking K) (told : Option Beginning) (new : Tracking K) : Type 0 where
  pub begins : Foretells picks old.controller (option_map (λ b. b.upcoming) told) new.controller
  pub cookies : new.cookies ≡ old.cookies
  pub count : new.beginnings ≡ counted told old.beginnings

-- where this was begun before, nothing changes
abbrev pub BeginsAfter : {K : Type 0} → Option Name → (List Choice → ℕ → Type 0)
    → Tracking K → Option Beginning → Tracking K → Type 0
BeginsAfter (Some name) picks old told new = new ≡ old
BeginsAfter None picks old told new = BeginsAnew picks old told new

-- what a begin may tell, and what is held after it: what is begun then is told
pub record Begins {K : Type 0} (picks : List Choice → ℕ → Type 0)
    (old : Tracking K) (told : Option Beginning) (new : Tracking K) : Type 0 where
  pub tells : told ≡ beginning new
  pub left : BeginsAfter old.controller.begun picks old told new

-- ---- a step

-- the place of the command that was served, if one was
abbrev pub place_served : List Record → Report → Option ℕ
place_served rs Idle = None
place_served rs (Served via reference unit lbn started seek ended) = position (has_name (name_on via reference)) rs

-- the step that was reported is the one that was told: of this command, and of this block
abbrev pub IsReportOf : Upcoming → Report → Type 0
IsReportOf u Idle = ⊥
IsReportOf u (Served via reference unit lbn started seek ended) =
    (via ≡ u.connection) × (reference ≡ u.command.reference) × (unit ≡ u.command.unit) × (lbn ≡ u.lbn)
    × (started ≡ nat_eq u.done 0)

-- what a step may report, and what is held after it: the cookie told is that of the command that was served, and goes
-- to its end
pub record Serves {K : Type 0} (picks : List Choice → ℕ → Type 0) (k : Block)
    (old : Tracking K) (finished : Finished) (new : Tracking K) : Type 0 where
  pub steps : Steps picks k old.controller finished.report new.controller
  -- what was begun is served as it was told
  pub told : IfSome (begun_step old.controller) (λ u. IsReportOf u finished.report)
  pub cookie : finished.cookie ≡ cookie_in old.cookies.waiting (place_served old.controller.waiting finished.report)
  pub cookies : new.cookies ≡ reported (place_served old.controller.waiting finished.report) finished.report old.cookies
  pub count : new.beginnings ≡ old.beginnings

-- what a finish may answer that means what is begun, if it is begun, and what is held after it: otherwise it fails and
-- changes nothing
abbrev pub Finishes : {K : Type 0} → (List Choice → ℕ → Type 0) → Bool → Block
    → Tracking K → Result Finished NotBegun → Tracking K → Type 0
Finishes picks is_meant k old (Ok finished) new = (is_meant ≡ true) × Serves picks k old finished new
Finishes picks is_meant k old (Err not_begun) new = (is_meant ≡ false) × (new ≡ old)

-- something is begun, and this is its serial
abbrev pub has_serial : {K : Type 0} → ℕ → Tracking K → Bool
has_serial serial t = is_some t.controller.begun && nat_eq t.beginnings serial

-- ---- a take

-- the oldest end of a connection that wasn't taken, and the cookie of its command
abbrev pub oldest_end : {K : Type 0} → Connection → Tracking K → Option Ended
oldest_end via t = option_map
    (λ end. record { end = end; cookie = slice_index_or (of via t.cookies.untaken) 0 0 })
    (slice_get (of via t.controller.untaken) 0)

-- the same as bytes
abbrev pub end_taken : {K : Type 0} → Connection → Tracking K → Option Taken
end_taken via t = option_map
    (λ bytes. record { end = bytes; cookie = slice_index_or (of via t.cookies.untaken) 0 0 })
    (plain.end_taken via t.controller)

-- what is held after it was taken, if there is one
abbrev pub after_take : {K : Type 0} → Connection → Tracking K → Tracking K
after_take via t = record t { controller = plain.after_take via t.controller; cookies = taken via t.cookies }
