-- A talk of two hosts with a controller, and what of it is each host's own.
use Rattle.std.specs.Prelude.{ℕ, if◌then◌else◌, List, take, map, flat_map, slice_index_or, Option, Some, None, option_to_list, Ok, Err}
use Rattle.mscp_packet.specs.declared.command.Command.{Command}
use Rattle.mscp_drive.specs.declared.connection.Connection.{Connection}
use Rattle.mscp_drive.specs.declared.connection.Connection.TheVariants.{First, Second}
use Rattle.mscp_drive.specs.declared.event.Event.TheVariants as events
use Rattle.mscp_drive.specs.Settings.{Settings, credits_of}
use Rattle.mscp_drive.specs.Both.{Both}
use Rattle.mscp_queue.specs.Names.{name_on, same_connection}
use Rattle.mscp_controller.specs.declared.entry.Entry.TheVariants as entries
use Rattle.mscp_controller.specs.History.{Moment, Trace}
use Rattle.mscp_controller.specs.Figures.{figure_of}
use Rattle.mscp_host.specs.declared.news.Poll.TheVariants as polls
use Rattle.mscp_host.specs.Accounts.{Account}
use Rattle.mscp_host.specs.Histories as host
use Rattle.mscp_host.specs.Histories.{History, Ask, Other, Receive, Submit, asked_for, reference_found}
use Rattle.mscp_sim.specs.declared.conversing.Turn.{Turn}
use Rattle.mscp_sim.specs.declared.conversing.Turn.TheVariants as turns
use Rattle.mscp_sim.specs.declared.conversing.Heard.{Heard}
use Rattle.mscp_sim.specs.declared.conversing.Heard.TheVariants as hears

-- a turn, what was heard in it, and the moment of the controller's trace that it made, if it made one (profile)
pub record Said : Type 0 where
  pub turn : Turn
  pub heard : Heard
  pub moment : Option Moment

-- the turns of a talk, oldest first (profile). The code's `Talk` has what was heard and the moments as two lists
abbrev pub Talk : Type 0
Talk = List Said

-- what was said at a position. Past the end it is nothing (profile)
abbrev pub said : Talk → ℕ → Said
said talk j = slice_index_or talk j (record { turn = turns.Take First; heard = hears.Quiet; moment = None })

-- the controller's trace
abbrev pub trace_of : Talk → Trace
trace_of talk = flat_map (λ s. option_to_list s.moment) talk

-- ---- what the host of one connection did and was answered

-- where it submits: its message is the one that came to the controller
abbrev pub submits_in : Command → Heard → Option Moment → host.Moment
submits_in command (hears.Refused fault) moment = Submit command (Err fault)
submits_in command (hears.Submitted sent) (Some (events.Send via message, entry)) = Submit command (Ok message)
submits_in command heard moment = Other

-- where it polls
abbrev pub asks_in : ℕ → Heard → Option Moment → host.Moment
asks_in reference (hears.Refused fault) moment = Ask reference (Err fault)
asks_in reference hears.Nothing moment = Ask reference (Ok polls.Nothing)
asks_in reference hears.Busy moment = Ask reference (Ok polls.Busy)
asks_in reference hears.Asked (Some (events.Send via message, entry)) = Ask reference (Ok (polls.Ask message))
asks_in reference heard moment = Other

-- where it is handed an end, or none
abbrev pub receives_in : Heard → Option Moment → host.Moment
receives_in (hears.News news) (Some (event, entries.Taken via (Some bytes))) = Receive bytes.items (Ok news)
receives_in heard moment = Other

-- in a turn. In a step, and in a turn of the other connection, it has no part
abbrev pub heard_by : Connection → Turn → Heard → Option Moment → host.Moment
heard_by via (turns.Submit other command) heard moment =
    if same_connection other via then submits_in command heard moment else Other
heard_by via (turns.Poll other reference) heard moment =
    if same_connection other via then asks_in reference heard moment else Other
heard_by via (turns.Step block) heard moment = Other
heard_by via (turns.Take other) heard moment = if same_connection other via then receives_in heard moment else Other

-- its history: each turn is a moment of it
abbrev pub history : Connection → Talk → History
history via talk = map (λ s. heard_by via s.turn s.heard s.moment) talk

-- what the poll in turn p is told: the figure of the command that it is about after the trace so far (manual, "Host
-- Command Timeouts")
abbrev pub figure_told : Settings → Connection → Talk → ℕ → ℕ
figure_told c via talk p =
    figure_of c (trace_of (take p talk))
    (name_on via (reference_found (history via talk) (asked_for (history via talk) p)))

-- all that it keeps before turn j: computed from its history, not from the host
abbrev pub account_at : Settings → Connection → Talk → ℕ → Account
account_at c via talk j = host.account_at (credits_of c via) (history via talk) j

-- all that both keep
abbrev pub accounts_at : Settings → Talk → ℕ → Both Account
accounts_at c talk j = record { first = account_at c First talk j; second = account_at c Second talk j }
