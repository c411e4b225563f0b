-- The promise of a run, whole, with room for so many commands, a budget of Q blocks and transfers of at most L blocks.
-- For every configuration, picker and list of events, `run` answers a legal trace: untaken and waiting commands of each
-- connection never exceed its credits, none passes a sequential command of its unit, none is passed by more than Q
-- blocks; every waiting command's status figure falls at each step, never rises between steps, and each queued command
-- ends within `room * L + Q` steps. What one connection's host sends or takes changes nothing of the other's account.
-- Nothing here names a picker: whatever it picks of what may start, the promise holds.
use Rattle.std.specs.Prelude.{◌≡◌, ◌≢◌, ◌↔◌, ℕ, ◌+◌, ◌<◌, ◌≤◌, true, List, [], ◌∷◌, ◌++◌, length, filter, take, zip, All, Contains, slice_get, Some}
use Rattle.mscp_packet.specs.declared.command.Command.{Command}
use Rattle.mscp_packet.specs.declared.command.Order.TheVariants as orders
use Rattle.mscp_packet.specs.declared.end.End.{End}
use Rattle.mscp_packet.specs.declared.end.EndBody.TheVariants as bodies
use Rattle.mscp_packet.specs.Ends.{IsOfKind}
use Rattle.mscp_packet.specs.Statuses.{success}
use Rattle.mscp_drive.specs.declared.event.Event.{Event}
use Rattle.mscp_controller.specs.declared.entry.Entry.{Entry}
use Rattle.mscp_drive.specs.Settings.{Settings, IsValid, bound, credits_of}
use Rattle.mscp_drive.specs.declared.connection.Connection.{Connection}
use Rattle.mscp_queue.specs.Names.{name_on}
use Rattle.mscp_queue.specs.Outcomes.{end_with}
use Rattle.mscp_controller.specs.History.{Moment, Trace, moment, answers, comes_by, is_step, Service, service_in, WhenStarted}
use Rattle.mscp_controller.specs.Commands.{in_service, is_idle, name, service_name, sent_command, waiting, waiting_by, steps_after}
use Rattle.mscp_controller.specs.Passing.{is_free, is_startable, passed}
use Rattle.mscp_controller.specs.Figures.{figure, figure_of}
use Rattle.mscp_controller.specs.Account.{balance, ends, outstanding, untaken}
use Rattle.mscp_controller.specs.Legal.{IsLegal}

-- ---- words

-- R holds of every part of t from its beginning, of the whole of it too
abbrev pub Always : Trace → (Trace → Type 0) → Type 0
Always t R = (i : ℕ) → i ≤ length t → R (take i t)

-- R holds at each moment of t, of what came before it, of itself, and of what there is with it
abbrev pub AtEach : Trace → (Trace → Moment → Trace → Type 0) → Type 0
AtEach t R = (i : ℕ) → i < length t → R (take i t) (moment t i) (take (i + 1) t)

-- R holds of each command that waits after t
abbrev pub EachWaiting : Trace → (ℕ → Type 0) → Type 0
EachWaiting t R = (x : ℕ) → Contains (waiting t) x → R x

-- ---- starts and polls

-- the waiting command of the name that is served stays behind no other (manual, "Command Categories and
-- Execution Order")
abbrev pub IsFreeStart : Trace → Service → Type 0
IsFreeStart t s = EachWaiting t (λ y. name t y ≡ service_name s → is_free t y ≡ true)

-- the end of a GET COMMAND STATUS that asks for the command of this reference number, and is told this figure (manual)
abbrev pub poll_end : Command → ℕ → ℕ → End
poll_end command reference figure = end_with command success (bodies.Status reference figure)

-- where m answers a poll of a connection, its ends are those before it and one more: the poll's own, with the figure of
-- the command of that connection that it names, 0 where none of that reference number waits (manual, "Host Command
-- Timeouts")
abbrev pub TellsFigure : Settings → Trace → Moment → Trace → Type 0
TellsFigure c before m after =
    (via : Connection) (reference : ℕ) → answers via m.1 ≡ true → (sent_command m).order ≡ orders.Status reference
    → ends c via after ≡ ends c via before
    ++ poll_end (sent_command m) reference (figure_of c before (name_on via reference)) ∷ []

-- ---- the other connection

-- the account of this connection's host is as it was
pub record IsUntouched (c : Settings) (via : Connection) (before after : Trace) : Type 0 where
  pub balance : balance c via after ≡ balance c via before
  pub untaken : untaken c via after ≡ untaken c via before
  pub outstanding : outstanding c via after ≡ outstanding c via before

-- where m comes from a host, the account of the other connection's is as it was
abbrev pub LeavesOther : Settings → Trace → Moment → Trace → Type 0
LeavesOther c before m after =
    (via other : Connection) → comes_by m.0 ≡ Some via → other ≢ via → IsUntouched c other before after

-- ---- the promise

-- what each legal trace promises (profile)
pub record Promise (c : Settings) (t : Trace) : Type 0 where
  -- untaken ends and waiting commands of each connection never exceed its credits (manual, "Flow Control")
  pub credits : Always t (λ p. (via : Connection)
      → length (waiting_by via p) + length (untaken c via p) ≤ credits_of c via)
  -- what comes from the host of one connection leaves the account of the other's as it was (profile)
  pub other : AtEach t (LeavesOther c)
  -- none passes a sequential command of its unit, and a sequential command passes none of its unit (manual, "Command
  -- Categories and Execution Order")
  pub fences : AtEach t (λ before m after. WhenStarted (IsFreeStart before) (service_in m.1))
  -- at most one command is in service at a time (profile)
  pub one_served : Always t (λ p. length (filter (in_service p) (waiting p)) ≤ 1)
  -- if something waits and nothing is in service, the oldest that waits may start: so something always may (profile)
  pub oldest_starts : Always t (λ p. (x : ℕ) → slice_get (waiting p) 0 ≡ Some x → is_idle p ≡ true
      → is_startable c p x ≡ true)
  -- none is passed by more than the budget, in blocks (profile)
  pub passed : Always t (λ p. EachWaiting p (λ x. passed p x ≤ c.budget))
  -- every waiting command's status figure falls at each step (profile)
  pub falls : AtEach t (λ before m after. is_step m.0 ≡ true →
      EachWaiting before (λ x. figure c after x < figure c before x))
  -- it never rises between steps, whatever comes (profile)
  pub never_rises : AtEach t (λ before m after. EachWaiting before (λ x. figure c after x ≤ figure c before x))
  -- each queued command ends within the bound: one that still waits has seen fewer steps (profile)
  pub within : Always t (λ p. EachWaiting p (λ x. steps_after p x < bound c))
  -- a figure is at least 1 exactly where its command waits (profile)
  pub positive : Always t (λ p. (x : ℕ) → Contains (waiting p) x ↔ (1 ≤ figure c p x))
  -- and at most the bound (profile)
  pub small : Always t (λ p. (x : ℕ) → figure c p x ≤ bound c)
  -- the figure that is found for a waiting command's name is the command's own (profile)
  pub own : Always t (λ p. EachWaiting p (λ x. figure_of c p (name p x) ≡ figure c p x))
  -- each poll that is answered is told the figure of the command that it names (manual, "Host Command Timeouts")
  pub polled : AtEach t (TellsFigure c)
  -- each end has the body of its endcode (manual, "End Messages")
  pub shaped : (via : Connection) → All IsOfKind (ends c via t)

-- what is promised of these events and the entries that a run answers to them (profile)
pub record Headline (c : Settings) (events : List Event) (entries : List Entry) : Type 0 where
  -- there is one entry an event (profile)
  pub answers : length entries ≡ length events
  -- each answer is right after what came before it (manual)
  pub legal : IsLegal c (zip events entries)
  -- and so all that a legal trace promises holds (profile)
  pub promise : Promise c (zip events entries)

-- the law: every legal trace of a valid configuration keeps the promise, whoever answered it (profile)
abbrev pub LegalTracesMakeProgress : Type 0
LegalTracesMakeProgress = (c : Settings) (t : Trace) → IsValid c → IsLegal c t → Promise c t
