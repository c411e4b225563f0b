-- Which rules of the wire are kept by all that a port's log shows.
use Rattle.std.specs.Prelude.{All, ◌≡◌, ◌≢◌, ◌⊎◌, ◌<◌, ◌≤◌, ◌^◌, ℕ, Bool, true, false, [], ◌∷◌, List, length, take, Option, Some}
use Rattle.mscp_packet.specs.StatusCodes as codes
use Rattle.mscp_packet.specs.Statuses.{code_of}
use Rattle.mscp_drive.specs.Settings.{IsValid, Settings}
use Rattle.mscp_drive.specs.declared.connection.Connection.TheVariants.{First}
use Rattle.mscp_controller.specs.Calls.{AnsweredCalls, Call as Made}
use Rattle.mscp_controller.specs.Holdings.{Holdings, fresh, outstanding_of}
use Rattle.mscp_port.specs.declared.action.Outcome.{Outcome}
use Rattle.mscp_port.specs.declared.action.Outcome.TheVariants as outcomes
use Rattle.mscp_port.specs.declared.hardware.Hardware.{Hardware}
use Rattle.mscp_port.specs.declared.port.Port.{Port}
use Rattle.mscp_port.specs.Calls.{IsMadeOf}
use Rattle.mscp_port.specs.Histories.{Answered, Call, Picking, Went}
use Rattle.mscp_ported.specs.Asking.{AsksForBlocks}
use Rattle.mscp_ported.specs.Awaited.{ReadsBytes}
use Rattle.mscp_ported.specs.Passing.{ServesBetweenPolls}
use Rattle.mscp_ported.specs.Talk.{AsksAlways}
use Rattle.mscp_wire.specs.Wire.{History, IsRight, broken_by, moment_at}
use Rattle.mscp_wire.specs.declared.moment.Moment.{Moment}
use Rattle.mscp_wire.specs.declared.moment.Moment.TheVariants as moments
use Rattle.mscp_wire.specs.declared.rule.Rule.{Rule}
use Rattle.mscp_wire.specs.declared.rule.Rule.TheVariants as rules
use Rattle.mscp_logged.specs.Logged.{logged}

-- no moment of a history breaks this rule
abbrev pub Keeps : Rule → Option ℕ → History → Type 0
Keeps rule credits h = (i : ℕ) → i < length h → broken_by credits (take i h) (moment_at h i) ≢ Some rule

-- the host keeps its rules: each message of a history is right
abbrev pub is_message : Moment → Bool
is_message (moments.Message via b time) = true
is_message m = false

abbrev pub HostIsRight : Option ℕ → History → Type 0
HostIsRight credits h =
    (i : ℕ) → i < length h → is_message (moment_at h i) ≡ true → IsRight credits (take i h) (moment_at h i)

-- what is told of a block that failed is what a drive or a medium may have: a code from Media Format Error to Drive
-- Error (manual, "Status and Event Codes")
abbrev pub IsFaultTold : Outcome → Type 0
IsFaultTold (outcomes.Failed status) =
    (status < 2 ^ 16) × (codes.media_format_error ≤ code_of status) × (code_of status ≤ codes.drive_error)
IsFaultTold outcome = Unit {0}

-- the same of all that a port is told
abbrev pub TellsFaults : List Call → Type 0
TellsFaults [] = Unit {0}
TellsFaults (Went outcome result ∷ earlier) = IsFaultTold outcome × TellsFaults earlier
TellsFaults (call ∷ earlier) = TellsFaults earlier

-- this is true of a port, whatever it is set to and told: it was made over a controller, which had answered some calls
-- before and has nothing of its host's; it is told of actions only after they were wanted, and what it reads are bytes
abbrev pub OfPorts : {K : Type 0} (picks : Picking K) (picker : K) (Claim : Settings → (start p : Port K)
    (calls : List Call) → Answered picks start calls p → Type 0) → Type 0
OfPorts {K} picks picker Claim =
    (c : Settings) (before : List Made) (controller : Holdings K) (hardware : Hardware) (credits : ℕ)
    (start p : Port K) (calls : List Call) → IsValid c
    → AnsweredCalls (picks picker) (fresh c picker) before controller → outstanding_of First controller ≡ []
    → IsMadeOf hardware credits controller start → AsksAlways calls → ReadsBytes calls
    → (a : Answered picks start calls p) → Claim c start p calls a

-- and this of its log
abbrev pub OfLogs : {K : Type 0} → Picking K → K → (Settings → List Call → History → Type 0) → Type 0
OfLogs picks picker Claim =
    OfPorts picks picker (λ c start p calls a. Claim c calls (logged picks start p calls a))

-- ---- the laws

-- the law of length: each end of such a log is as long as its endcode asks
abbrev pub PortsSendLongEnds : {K : Type 0} → Picking K → K → Type 0
PortsSendLongEnds picks picker = OfLogs picks picker (λ c calls h. (limit : Option ℕ) → Keeps rules.Length limit h)

-- the law of answers: while the host's messages are right, each end answers a command that is outstanding
abbrev pub PortsAnswerWhatIsOutstanding : {K : Type 0} → Picking K → K → Type 0
PortsAnswerWhatIsOutstanding picks picker =
    OfLogs picks picker (λ c calls h. (limit : Option ℕ) → HostIsRight limit h → Keeps rules.Outstanding limit h)

-- a rule that hangs on what drives tell of blocks that failed
abbrev pub is_of_drives : Rule → Bool
is_of_drives rules.Status = true
is_of_drives rules.Aborted = true
is_of_drives rules.Count = true
is_of_drives rules.State = true
is_of_drives rule = false

-- and one that hangs on steps: a figure falls by them alone
abbrev pub is_of_polls : Rule → Bool
is_of_polls rules.Figure = true
is_of_polls rule = false

-- the law of ports: while the host's messages are right, and if no unit is without a block, no moment breaks a rule;
-- for those that hang on drives, if what is told of blocks that failed is what these may tell; and for the one that
-- hangs on steps, if one is told between any two polls of one command, as the controller takes them, or if blocks are
-- asked for each time that it is asked what is wanted
abbrev pub PortsAreRight : {K : Type 0} → Picking K → K → Type 0
PortsAreRight picks picker = OfPorts picks picker (λ c start p calls a. (limit : Option ℕ) (rule : Rule)
    → All (λ unit. 0 < unit.size) c.units → HostIsRight limit (logged picks start p calls a)
    → (is_of_drives rule ≡ true → TellsFaults calls)
    → (is_of_polls rule ≡ true → ServesBetweenPolls picks start p calls a ⊎ AsksForBlocks calls)
    → Keeps rule limit (logged picks start p calls a))
