-- What a host of a port did and was answered, moment by moment, whoever the port is.
use Rattle.std.specs.Prelude.{◌≡◌, ℕ, List, [], ◌∷◌, Result, Ok}
use Rattle.arrayvec.specs.ArrayVec.{ArrayVec}
use Rattle.mscp_packet.specs.declared.command.Command.{Command}
use Rattle.mscp_host.specs.declared.asked.Asked.{Asked}
use Rattle.mscp_host.specs.declared.envelope.Envelope.{Envelope}
use Rattle.mscp_host.specs.declared.heard.Heard.{Heard}
use Rattle.mscp_host.specs.declared.heard.Heard.TheVariants as heards
use Rattle.mscp_host.specs.declared.message.HearFault.{HearFault}
use Rattle.mscp_host.specs.declared.news.HostFault.{HostFault}
use Rattle.mscp_host.specs.declared.news.Poll.{Poll}
use Rattle.mscp_host.specs.declared.news.Poll.TheVariants as polls
use Rattle.mscp_packet.specs.declared.end.End.{End}
use Rattle.mscp_host.specs.declared.message.Message.{Message}
use Rattle.mscp_host.specs.declared.message.Message.TheVariants as messages
use Rattle.mscp_host.specs.declared.news.News.{News}
use Rattle.mscp_host.specs.declared.news.News.TheVariants as news
use Rattle.mscp_host.specs.Histories as hosts
use Rattle.mscp_host.specs.Histories.{History, Moment, moment, opcode_in, reference_in, unit_named}
use Rattle.mscp_host.specs.Messages.{message_in}
use Rattle.mscp_host.specs.PortAccounts.{PortAccount, as_read, bytes_of, hears, port_polls, port_submits}
use Rattle.mscp_host.specs.PortRestored.{port_restored}
use Rattle.mscp_host.specs.PortSaved.{port_saved_bytes}

-- a call and its answer; a host that was saved as these bytes, and goes on as the one that was made of them; or
-- something in which the host has no part
pub data PortMoment : Type 0 where
  Submit : Command → Result (ArrayVec ℕ) HostFault → PortMoment
  Ask : ℕ → Result Poll HostFault → PortMoment
  Hear : Envelope → List ℕ → Result Heard HearFault → PortMoment
  Resume : List ℕ → PortMoment
  Other : PortMoment

-- oldest first
abbrev pub PortHistory : Type 0
PortHistory = List PortMoment

-- what a save tells of a host
pub record IsSavedAs (p : PortAccount) (b : List ℕ) : Type 0 where
  pub bytes : b ≡ port_saved_bytes p
  pub back : port_restored b ≡ Ok p

-- the answer is that of the call, and what is kept then
abbrev pub PortAnswers : PortAccount → PortMoment → PortAccount → Type 0
PortAnswers old (Submit command answer) new = port_submits old command ≡ (answer, new)
PortAnswers old (Ask reference answer) new = port_polls old reference ≡ (answer, new)
PortAnswers old (Hear v b answer) new = hears old v b ≡ (answer, new)
PortAnswers old (Resume b) new = IsSavedAs old b × (port_restored b ≡ Ok new)
PortAnswers old Other new = new ≡ old

-- one after the other
abbrev pub PortAnswered : PortAccount → PortHistory → PortAccount → Type 0
PortAnswered old [] new = new ≡ old
PortAnswered old (m ∷ rest) new = (next : PortAccount) × PortAnswers old m next × PortAnswered next rest new

-- ---- what one moment says

-- the credits that were told: those of an envelope that wasn't refused
abbrev pub told_in : PortMoment → ℕ
told_in (Hear v b (Ok heard)) = v.credits
told_in m = 0

-- how many commands were sent
abbrev pub sent_in : PortMoment → ℕ
sent_in (Submit command (Ok message)) = 1
sent_in (Ask reference (Ok (polls.Ask message))) = 1
sent_in m = 0

-- how many ends that is
abbrev pub ends_in : Heard → ℕ
ends_in (heards.Available unit) = 0
ends_in (heards.Attention code unit) = 0
ends_in heards.Logged = 0
ends_in (heards.Credits credits) = 0
ends_in heard = 1

-- how many ends were heard
abbrev pub ended_in : PortMoment → ℕ
ended_in (Hear v b (Ok heard)) = ends_in heard
ended_in m = 0

-- ---- what a host of 64 credits did then

-- what it said of an end
abbrev pub news_in : End → Heard → News
news_in e (heards.First figure) = news.First figure
news_in e (heards.Progress figure) = news.Progress figure
news_in e heards.Late = news.Late
news_in e heards.Reset = news.Reset
news_in e heards.Lost = news.Lost
news_in e heard = news.Ended e

abbrev pub seen_message : Result Message HearFault → Heard → Moment
seen_message (Ok (messages.End e)) heard = hosts.Settle (as_read e) (news_in (as_read e) heard)
seen_message r heard = hosts.Other

-- a command that was sent, a poll that was sent, an end that was heard, or something in which it has no part
abbrev pub seen : PortMoment → Moment
seen (Submit command (Ok message)) = hosts.Submit command (Ok message)
seen (Ask reference (Ok (polls.Ask message))) = hosts.Ask reference (Ok (polls.Ask message))
seen (Hear v b (Ok heard)) = seen_message (message_in v b) heard
seen m = hosts.Other

-- how many bytes the command asks for that was sent
abbrev pub bytes_in : Moment → ℕ
bytes_in (hosts.Submit command answer) = bytes_of command.order
bytes_in m = 0

-- what is kept of the command i, that was sent in a moment
abbrev pub asked_in : History → ℕ → Moment → Asked
asked_in s i m =
    record { reference = reference_in m; unit = unit_named s i m; opcode = opcode_in m; bytes = bytes_in m }

abbrev pub asked_at : History → ℕ → Asked
asked_at s i = asked_in s i (moment s i)
