-- What is promised of two hosts and a controller that talk.
use Rattle.std.specs.Prelude.{◌≡◌, ◌≢◌, ◌↔◌, ℕ, ◌+◌, ◌<◌, true, List, length, map, Option, Some, None, Result, Ok, Err}
use Rattle.arrayvec.specs.ArrayVec.{ArrayVec}
use Rattle.mscp_drive.specs.declared.connection.Connection.{Connection}
use Rattle.mscp_queue.specs.declared.report.Report.{Report}
use Rattle.mscp_queue.specs.declared.view.Choice.{Choice}
use Rattle.mscp_controller.specs.declared.entry.Sent.{Sent}
use Rattle.mscp_drive.specs.declared.event.Event.TheVariants as events
use Rattle.mscp_controller.specs.declared.entry.Entry.TheVariants as entries
use Rattle.mscp_drive.specs.Settings.{Settings}
use Rattle.mscp_drive.specs.Both.{Both, of, put}
use Rattle.mscp_controller.specs.History.{Trace}
use Rattle.mscp_controller.specs.Headline.{Promise}
use Rattle.mscp_controller.specs.Legal.{IsLegal, IsPicked}
use Rattle.mscp_controller.specs.Sweeping.{IsSweeping, Sweeps}
use Rattle.mscp_host.specs.declared.news.HostFault.{HostFault}
use Rattle.mscp_host.specs.declared.news.News.{News}
use Rattle.mscp_host.specs.declared.news.News.TheVariants as news
use Rattle.mscp_host.specs.declared.news.Poll.{Poll}
use Rattle.mscp_host.specs.declared.news.Poll.TheVariants as polls
use Rattle.mscp_host.specs.Accounts.{Account, heard, polls_oldest, submits}
use Rattle.mscp_sim.specs.declared.conversing.Turn.{Turn}
use Rattle.mscp_sim.specs.declared.conversing.Turn.TheVariants as turns
use Rattle.mscp_sim.specs.declared.conversing.Heard.{Heard}
use Rattle.mscp_sim.specs.declared.conversing.Heard.TheVariants as hears
use Rattle.mscp_host.specs.Histories.{asks_about, end_heard, figure_in, handed_over, moment}
use Rattle.mscp_host.specs.Law.{Stands}
use Rattle.mscp_sim.specs.Talks.{Said, Talk, accounts_at, figure_told, history, said, trace_of}

-- ---- one turn

-- a host said this, and nothing came to the controller
abbrev pub IsKeptBack : Said → Heard → Type 0
IsKeptBack s told = (s.heard ≡ told) × (s.moment ≡ None)

-- this message of a connection came to the controller, which took it in as that
abbrev pub IsSent : Connection → Said → ArrayVec ℕ → Sent → Type 0
IsSent via s message sent = s.moment ≡ Some (events.Send via message, entries.Sent via (Ok sent))

-- what is heard where the host answers so to a command that is to be submitted (manual, "Flow Control")
abbrev pub IsSubmitted : Connection → Said → Result (ArrayVec ℕ) HostFault → Type 0
IsSubmitted via s (Err fault) = IsKeptBack s (hears.Refused fault)
IsSubmitted via s (Ok message) = (sent : Sent) × (s.heard ≡ hears.Submitted sent) × IsSent via s message sent

-- and to a poll (manual, "Host Command Timeouts"; one at a time is the profile's)
abbrev pub IsPolled : Connection → Said → Result Poll HostFault → Type 0
IsPolled via s (Err fault) = IsKeptBack s (hears.Refused fault)
IsPolled via s (Ok polls.Nothing) = IsKeptBack s hears.Nothing
IsPolled via s (Ok polls.Busy) = IsKeptBack s hears.Busy
IsPolled via s (Ok (polls.Ask message)) = (sent : Sent) × (s.heard ≡ hears.Asked) × IsSent via s message sent

-- what is heard of an end that is handed over, or of none, and what the host keeps then
abbrev pub IsHanded : Account → Option (ArrayVec ℕ) → Heard → Account → Type 0
IsHanded old None told new = (told ≡ hears.Quiet) × (new ≡ old)
IsHanded old (Some b) told new = (news : News) × (told ≡ hears.News news) × (heard old b.items ≡ (Ok news, new))

-- what is heard in this turn, where the hosts keep this, and what they keep then: the rules of a host, and the other
-- host keeps what it kept. The controller refuses nothing that a host sends, and no host refuses an end (profile)
abbrev pub IsHeard : Both Account → Turn → Said → Both Account → Type 0
IsHeard old (turns.Submit via command) s new =
    IsSubmitted via s (submits (of via old) command).0 × (new ≡ put via (submits (of via old) command).1 old)
IsHeard old (turns.Poll via reference) s new = IsPolled via s (polls_oldest (of via old) reference).0
    × (new ≡ put via (polls_oldest (of via old) reference).1 old)
IsHeard old (turns.Step k) s new =
    (report : Report) × (s.heard ≡ hears.Stepped report)
    × (s.moment ≡ Some (events.Step k, entries.Stepped report)) × (new ≡ old)
IsHeard old (turns.Take via) s new =
    (end : Option (ArrayVec ℕ)) × (kept : Account) × (s.moment ≡ Some (events.Take via, entries.Taken via end))
    × IsHanded (of via old) end s.heard kept × (new ≡ put via kept old)

-- ---- what is promised

-- the turn is a step
abbrev pub IsStepTurn : Turn → Type 0
IsStepTurn (turns.Step block) = Unit {0}
IsStepTurn turn = ⊥

-- a step lies between turn q and each poll of this connection about the command i that came before it (profile)
abbrev pub StepsSincePolls : Connection → Talk → ℕ → ℕ → Type 0
StepsSincePolls via talk i q =
    (p : ℕ) → p < q → asks_about (history via talk) i p ≡ true
    → (k : ℕ) × (p < k) × (k < q) × IsStepTurn (said talk k).turn

-- a step lies between any two polls about one command (profile)
abbrev pub StepsBetweenPolls : Talk → Type 0
StepsBetweenPolls talk =
    (via : Connection) (i q : ℕ) → q < length talk → asks_about (history via talk) i q ≡ true
    → StepsSincePolls via talk i q

-- what is promised of a talk of these turns in which this was heard, and of the controller's trace
pub record AreTwoEnds (picks : List Choice → ℕ → Type 0) (c : Settings) (ts : List Turn) (hs : List Heard) (t : Trace) :
    Type 0 where
  -- one thing is heard in each turn, and each thing that comes to the controller is a moment of the trace
  pub talk : Talk
  pub turns : map (λ s. s.turn) talk ≡ ts
  pub heard : map (λ s. s.heard) talk ≡ hs
  pub trace : trace_of talk ≡ t
  -- each answer of the controller is right after what came before it (manual)
  pub legal : IsLegal c t
  -- and so all that a legal trace promises holds (profile)
  pub promise : Promise c t
  -- each start is one that the picker may pick (profile)
  pub picked : IsPicked c picks t
  -- where the picker sweeps, it is the one of least cost, and of those the oldest (profile)
  pub swept : Sweeps picks → IsSweeping c t
  -- what is heard in each turn is what the rules of a host say of what the hosts keep then. The controller refuses
  -- nothing, and no host refuses an end (profile)
  pub says : (j : ℕ) → j < length talk → IsHeard (accounts_at c talk j) (said talk j).turn (said talk j)
      (accounts_at c talk (j + 1))
  -- the end of a poll tells the figure of its command in the trace when the poll came (manual, "Host Command Timeouts")
  pub figures : (via : Connection) (j i p : ℕ) → j < length talk → handed_over (history via talk) j ≡ Some p
      → asks_about (history via talk) i p ≡ true
      → figure_in (end_heard (moment (history via talk) j)) ≡ Some (figure_told c via talk p)
  -- Reset is said exactly where the answer of one connection or of the other stands (profile)
  pub resets : (j : ℕ) → j < length talk
      → ((said talk j).heard ≡ hears.News news.Reset) ↔ ((via : Connection) × Stands (history via talk) j)
  -- Lost is never said (profile)
  pub no_lost : (j : ℕ) → j < length talk → (said talk j).heard ≢ hears.News news.Lost
  -- Reset isn't said of the answer to a poll where a step lies between it and each one before about its command
  -- (profile)
  pub falls : (via : Connection) (j i q : ℕ) → j < length talk → handed_over (history via talk) j ≡ Some q
      → asks_about (history via talk) i q ≡ true → StepsSincePolls via talk i q
      → (said talk j).heard ≢ hears.News news.Reset
  -- and so it is never said where a step lies between any two polls about one command (profile)
  pub no_reset : StepsBetweenPolls talk → (j : ℕ) → j < length talk → (said talk j).heard ≢ hears.News news.Reset
