-- One turn after the other, and what the hosts and the controller keep and hold then. The functions of `conversing`
-- that aren't public are told by these.
use Rattle.std.specs.Prelude.{◌≡◌, ℕ, ◌<◌, ◌^◌, List, [], ◌∷◌, ◌++◌, map, slice_get, Option, Some, None}
use Rattle.arrayvec.specs.ArrayVec.{ArrayVec}
use Rattle.mscp_packet.specs.declared.end.End.{End}
use Rattle.mscp_packet.specs.Ends.{IsEnd}
use Rattle.mscp_queue.specs.declared.view.Choice.{Choice}
use Rattle.mscp_drive.specs.declared.event.Event.TheVariants as events
use Rattle.mscp_controller.specs.declared.entry.Entry.TheVariants as entries
use Rattle.mscp_drive.specs.Both.{Both, of}
use Rattle.mscp_controller.specs.History.{Moment, Trace}
use Rattle.mscp_controller.specs.Holdings.{Answers, Holdings}
use Rattle.mscp_host.specs.Accounts.{Account}
use Rattle.mscp_sim.specs.declared.conversing.Turn.{Turn}
use Rattle.mscp_sim.specs.declared.conversing.Turn.TheVariants as turns
use Rattle.mscp_sim.specs.declared.conversing.Heard.{Heard}
use Rattle.mscp_sim.specs.Matches.{Match}
use Rattle.mscp_sim.specs.Talks.{Talk, Said, trace_of}
use Rattle.mscp_sim.specs.TwoEnds.{IsHeard}

-- what may be answered to what comes to the controller in a turn, and what it holds then
abbrev pub AnswersTurn : {K : Type 0} → (List Choice → ℕ → Type 0) → Holdings K → Option Moment → Holdings K → Type 0
AnswersTurn picks old None new = new ≡ old
AnswersTurn picks old (Some moment) new = Answers picks old moment.0 moment.1 new

-- the numbers of a turn fit their types, and the bytes of an end that is handed over are a message of it
abbrev pub IsSound : {K : Type 0} → Holdings K → Turn → Option Moment → Type 0
IsSound h (turns.Submit via command) moment = (command.reference < 2 ^ 32) × (command.unit < 2 ^ 16)
IsSound h (turns.Poll via reference) moment = reference < 2 ^ 32
IsSound h (turns.Step k) moment = Unit {0}
IsSound h (turns.Take via) moment =
    (b : ArrayVec ℕ) (end : End) → moment ≡ Some (events.Take via, entries.Taken via (Some b))
    → slice_get (of via h.untaken) 0 ≡ Some end → IsEnd b.items end

-- what is said in this turn, and what the hosts and the controller keep and hold then
abbrev pub Says : {K : Type 0}
    → (List Choice → ℕ → Type 0) → Both Account → Holdings K → Said → Both Account → Holdings K → Type 0
Says picks a h s a' h' = IsHeard a s.turn s a' × AnswersTurn picks h s.moment h' × IsSound h s.turn s.moment

-- the same in one turn, of which this was returned: what was heard, and the moment
abbrev pub Goes : {K : Type 0} → (List Choice → ℕ → Type 0)
    → Both Account → Holdings K → Turn → Heard × Option Moment → Both Account → Holdings K → Type 0
Goes picks a h turn told a' h' =
    Says picks a h (record { turn = turn; heard = told.0; moment = told.1 }) a' h' × Match a' h'

-- one turn after the other
abbrev pub Converses : {K : Type 0}
    → (List Choice → ℕ → Type 0) → Both Account → Holdings K → Talk → Both Account → Holdings K → Type 0
Converses picks a h [] a' h' = (a' ≡ a) × (h' ≡ h)
Converses {K} picks a h (s ∷ talk) a' h' =
    (next : Both Account) × (left : Holdings K) × Says picks a h s next left × Converses picks next left talk a' h'

-- these turns go on so, and the lists of what was heard and of the trace grow by that
pub record GoesOn {K : Type 0} (picks : List Choice → ℕ → Type 0) (a : Both Account) (h : Holdings K) (ts : List Turn)
    (old new : List Heard × Trace) (a' : Both Account) (h' : Holdings K) : Type 0 where
  pub talk : Talk
  pub turns : map (λ s. s.turn) talk ≡ ts
  pub heard : new.0 ≡ old.0 ++ map (λ s. s.heard) talk
  pub trace : new.1 ≡ old.1 ++ trace_of talk
  pub says : Converses picks a h talk a' h'
  pub match : Match a' h'
