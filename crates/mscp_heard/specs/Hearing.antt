-- What a host hears through a port: the ends of its own commands.
use Rattle.std.specs.Prelude.{◌≡◌, ◌≢◌, ◌<◌, ◌∷◌, [], ℕ, All, false, find, List, Some, Result, Ok, Err}
use Rattle.mscp_packet.specs.declared.end.End.{End}
use Rattle.mscp_drive.specs.Settings.{IsValid, Settings}
use Rattle.mscp_drive.specs.declared.connection.Connection.TheVariants.{First}
use Rattle.mscp_controller.specs.Calls.{AnsweredCalls, Call as Made}
use Rattle.mscp_controller.specs.Holdings.{Holdings, fresh, outstanding_of}
use Rattle.mscp_host.specs.declared.asked.Asked.{Asked}
use Rattle.mscp_host.specs.declared.envelope.Envelope.{Envelope}
use Rattle.mscp_host.specs.declared.heard.Heard.{Heard}
use Rattle.mscp_host.specs.declared.heard.Heard.TheVariants as heards
use Rattle.mscp_host.specs.declared.message.HearFault.{HearFault}
use Rattle.mscp_host.specs.declared.message.HearFault.TheVariants as faults
use Rattle.mscp_host.specs.declared.message.Message.TheVariants as messages
use Rattle.mscp_host.specs.Messages.{message_in}
use Rattle.mscp_host.specs.PortAccounts.{PortAccount, fresh_of_port, is_of, is_too_much}
use Rattle.mscp_host.specs.PortHistories.{Hear, PortAnswered, PortAnswers}
use Rattle.mscp_port.specs.declared.hardware.Hardware.{Hardware}
use Rattle.mscp_port.specs.declared.port.Port.{Port}
use Rattle.mscp_port.specs.Calls.{IsMadeOf}
use Rattle.mscp_port.specs.Histories.{Answered, Picking}
use Rattle.mscp_ported.specs.Asking.{AsksForBlocks}
use Rattle.mscp_ported.specs.Awaited.{ReadsBytes}
use Rattle.mscp_ported.specs.Passing.{ServesBetweenPolls}
use Rattle.mscp_ported.specs.Talk.{AsksAlways}
use Rattle.mscp_heard.specs.Deeds.{AreJoined, Deed, Did, HaveNumbers, IsCopyOf, IsTextOf, calls_in, did}

-- what a host that kept this hears in an envelope and a text, and says of it
pub record HearsItsOwn (old : PortAccount) (v : Envelope) (b : List ℕ) (answer : Result Heard HearFault) : Type 0 where
  -- each end has the number of a command that the host sent, and whose end it hasn't heard; and counts no more bytes
  -- than that asked for
  pub ends : (e : End) → message_in v b ≡ Ok (messages.End e)
      → (asked : Asked) × (find (is_of e.reference) old.asked ≡ Some asked) × (is_too_much e.body asked.bytes ≡ false)
  -- what is refused is such an end, as Unknown: nothing is cut, unreadable, of another connection or of another type
  pub refused : (fault : HearFault) → answer ≡ Err fault
      → (fault ≡ faults.Unknown) × ((e : End) × (message_in v b ≡ Ok (messages.End e)))
  -- and so it never says that too many bytes were moved
  pub moved : (e : End) (asked : Asked) → answer ≢ Ok (heards.MovedTooMuch e asked)

-- the law of two ends: a port was made over a controller, which had answered some calls before and has nothing of its
-- host's; it is told of actions only after they were wanted, and what it reads are bytes. It reads the messages of a
-- host, in the order in which that sent them, and the host hears the port's packets, in order; when IP is written the
-- host is a new one. Then each end that it hears is that of a command of its own
abbrev pub HostsHearTheirOwnEnds : {K : Type 0} → Picking K → K → Type 0
HostsHearTheirOwnEnds {K} picks picker =
    (c : Settings) (before : List Made) (controller : Holdings K) (hardware : Hardware) (credits : ℕ)
    (start p : Port K) (deeds : List Deed) (old new : PortAccount) (v : Envelope) (b : List ℕ)
    (answer : Result Heard HearFault) → IsValid c
    → AnsweredCalls (picks picker) (fresh c picker) before controller → outstanding_of First controller ≡ []
    → IsMadeOf hardware credits controller start → AsksAlways (calls_in deeds) → ReadsBytes (calls_in deeds)
    → HaveNumbers deeds → (a : Answered picks start (calls_in deeds) p)
    → AreJoined IsTextOf picks start p (Did (Hear v b answer) ∷ deeds) a → PortAnswered fresh_of_port (did deeds) old
    → PortAnswers old (Hear v b answer) new → HearsItsOwn old v b answer

-- ---- nothing is refused

-- the law of copies: of such a port, whose units have blocks: if each text that it reads has the opcode and the first
-- parameter of its message, its host refuses nothing that it hears
abbrev pub HostsRefuseNothing : {K : Type 0} → Picking K → K → Type 0
HostsRefuseNothing {K} picks picker =
    (c : Settings) (before : List Made) (controller : Holdings K) (hardware : Hardware) (credits : ℕ)
    (start p : Port K) (deeds : List Deed) (old new : PortAccount) (v : Envelope) (b : List ℕ)
    (answer : Result Heard HearFault) (fault : HearFault) → IsValid c → All (λ unit. 0 < unit.size) c.units
    → AnsweredCalls (picks picker) (fresh c picker) before controller → outstanding_of First controller ≡ []
    → IsMadeOf hardware credits controller start → AsksAlways (calls_in deeds) → ReadsBytes (calls_in deeds)
    → HaveNumbers deeds → (a : Answered picks start (calls_in deeds) p)
    → AreJoined IsCopyOf picks start p (Did (Hear v b answer) ∷ deeds) a → PortAnswered fresh_of_port (did deeds) old
    → PortAnswers old (Hear v b answer) new → answer ≢ Err fault

-- ---- no command is lost, and none begins anew

-- the law of progress: of such a port and host: if between any two polls about one command, as the port's controller
-- took them, a step of a command was told, or the command waits no more, its host hears neither that a command lost its
-- figure nor that a figure didn't fall: neither Lost nor Reset
abbrev pub HostsHearNoReset : {K : Type 0} → Picking K → K → Type 0
HostsHearNoReset {K} picks picker =
    (c : Settings) (before : List Made) (controller : Holdings K) (hardware : Hardware) (credits : ℕ)
    (start p : Port K) (deeds : List Deed) (old new : PortAccount) (v : Envelope) (b : List ℕ)
    (answer : Result Heard HearFault) → IsValid c → All (λ unit. 0 < unit.size) c.units
    → AnsweredCalls (picks picker) (fresh c picker) before controller → outstanding_of First controller ≡ []
    → IsMadeOf hardware credits controller start → AsksAlways (calls_in deeds) → ReadsBytes (calls_in deeds)
    → HaveNumbers deeds → (a : Answered picks start (calls_in deeds) p)
    → AreJoined IsCopyOf picks start p (Did (Hear v b answer) ∷ deeds) a
    → ServesBetweenPolls picks start p (calls_in deeds) a → PortAnswered fresh_of_port (did deeds) old
    → PortAnswers old (Hear v b answer) new → (answer ≢ Ok heards.Reset) × (answer ≢ Ok heards.Lost)

-- the law of service: of such a port and host: if whoever calls the port asks for blocks each time that it asks what is
-- wanted, the host hears neither Lost nor Reset
abbrev pub ServedHostsHearNoReset : {K : Type 0} → Picking K → K → Type 0
ServedHostsHearNoReset {K} picks picker =
    (c : Settings) (before : List Made) (controller : Holdings K) (hardware : Hardware) (credits : ℕ)
    (start p : Port K) (deeds : List Deed) (old new : PortAccount) (v : Envelope) (b : List ℕ)
    (answer : Result Heard HearFault) → IsValid c → All (λ unit. 0 < unit.size) c.units
    → AnsweredCalls (picks picker) (fresh c picker) before controller → outstanding_of First controller ≡ []
    → IsMadeOf hardware credits controller start → AsksAlways (calls_in deeds) → ReadsBytes (calls_in deeds)
    → HaveNumbers deeds → (a : Answered picks start (calls_in deeds) p)
    → AreJoined IsCopyOf picks start p (Did (Hear v b answer) ∷ deeds) a → AsksForBlocks (calls_in deeds)
    → PortAnswered fresh_of_port (did deeds) old → PortAnswers old (Hear v b answer) new
    → (answer ≢ Ok heards.Reset) × (answer ≢ Ok heards.Lost)
