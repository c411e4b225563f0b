-- What a port holds of the messages whose ends are awaited, and in which order their ends pass on to the host (manual,
-- "End Messages", "GET COMMAND STATUS").
use Rattle.std.specs.Prelude.{◌≡◌, ◌≢◌, ◌⊎◌, ◌<◌, ◌≤◌, ◌==◌, ◌++◌, ◌∷◌, [], ℕ, All, false, if◌then◌else◌, List, filter, length, map, flat_map, slice_index, Ok}
use Rattle.std.specs.List.{AllByRecursion}
use Rattle.mscp_packet.specs.EndcodeBytes as endcodes
use Rattle.mscp_packet.specs.Number.{num}
use Rattle.mscp_packet.specs.OpcodeBytes as opcodes
use Rattle.mscp_packet.specs.declared.end.End.{End}
use Rattle.mscp_packet.specs.declared.end.EndBody.{EndBody}
use Rattle.mscp_packet.specs.declared.end.EndBody.TheVariants as bodies
use Rattle.mscp_drive.specs.Both.{of}
use Rattle.mscp_drive.specs.Settings.{IsValid, Settings}
use Rattle.mscp_drive.specs.declared.connection.Connection.TheVariants.{First}
use Rattle.mscp_controller.specs.Calls.{AnsweredCalls, Call as Made}
use Rattle.mscp_controller.specs.Holdings.{Holdings, fresh, outstanding_of}
use Rattle.mscp_port.specs.declared.hardware.Hardware.{Hardware}
use Rattle.mscp_port.specs.declared.port.OutgoingKind.{OutgoingKind}
use Rattle.mscp_port.specs.declared.port.OutgoingKind.TheVariants as kinds
use Rattle.mscp_port.specs.declared.port.Port.{Port}
use Rattle.mscp_port.specs.Calls.{IsMadeOf}
use Rattle.mscp_ported.specs.Departures.{begins}
use Rattle.mscp_ported.specs.Fair.{TellsStep}
use Rattle.mscp_port.specs.Histories.{Answered, Call, Picking, WasRead, WriteIp}
use Rattle.mscp_ported.specs.Awaited.{ReadsBytes, awaited, has_number, taken_by}
use Rattle.mscp_ported.specs.Figures.{figure_on}
use Rattle.mscp_ported.specs.Talk.{AsksAlways, is_dead}
use Rattle.mscp_ported.specs.Told.{Said, accepted_by, said_in}

-- ---- what is held

-- the controller holds an end of this number for the host
abbrev pub HoldsEnd : {K : Type 0} → Port K → ℕ → Type 0
HoldsEnd p number = filter (λ (e : End). e.reference == number) (of First p.controller.untaken) ≢ []

-- of this number: the command of an awaited message waits, with a figure of 1 or more, or the controller holds its end,
-- and not both; and nothing is there without such a message
pub record HoldsAwaited {K : Type 0} (p : Port K) (texts : List (List ℕ)) (number : ℕ) : Type 0 where
  pub there : filter (has_number number) texts ≢ [] → (1 ≤ figure_on p number) ⊎ HoldsEnd p number
  pub waits : 1 ≤ figure_on p number → filter (has_number number) texts ≢ []
  pub ended : HoldsEnd p number → filter (has_number number) texts ≢ []
  pub one : 1 ≤ figure_on p number → HoldsEnd p number → ⊥

-- ---- what passes on

-- an end that is to be heard: its number, and the figure that it tells, 0 if it is no poll's
pub record Pending : Type 0 where
  pub number : ℕ
  pub figure : ℕ

abbrev pub figure_in : EndBody → ℕ
figure_in (bodies.Status other figure) = figure
figure_in body = 0

abbrev pub pending_end : End → Pending
pending_end e = record { number = e.reference; figure = figure_in e.body }

-- a text that is said is a poll's end by its code
abbrev pub pending_said : OutgoingKind → List ℕ → List Pending
pending_said kinds.Attention text = []
pending_said kinds.End text = record {
  number = num text 0 4;
  figure = if slice_index text 8 == endcodes.get_command_status then num text 16 4 else 0;
} ∷ []
pending_said kinds.UtilitiesEnd text = []

abbrev pub pending_in : Said → List Pending
pending_in s = pending_said s.kind s.text

abbrev pub pending_held : {K : Type 0} → Port K → List Pending
pending_held p = map pending_end (of First p.controller.untaken)

-- by a call a poll about the command of this number is taken
abbrev pub TakesPoll : {K : Type 0} → ℕ → Call → Port K → Type 0
TakesPoll number (WasRead bytes (Ok done)) old =
    (taken_by (WasRead bytes (Ok done)) old ≡ bytes ∷ []) × (slice_index bytes 8 ≡ opcodes.get_command_status)
    × (16 ≤ length bytes) × (num bytes 12 4 ≡ number)
TakesPoll number call old = ⊥

-- by a call ends come to be heard behind all that were: of a message that is accepted, or of commands that waited. A
-- poll that is taken brings its own, with the figure of the command that it names
pub record PassesOn {K : Type 0} (call : Call) (old new : Port K) : Type 0 where
  pub more : List Pending
  pub behind : flat_map pending_in (map said_in (begins old.outgoing new.outgoing)) ++ pending_held new
      ≡ pending_held old ++ more
  pub of_these : AllByRecursion (λ (e : Pending). ((text : List ℕ) × (accepted_by call old ≡ text ∷ [])
      × (num text 0 4 ≡ e.number)) ⊎ (1 ≤ figure_on old e.number)) more
  pub poll : (bytes : List ℕ) (done : Unit) → call ≡ WasRead bytes (Ok done)
      → TakesPoll (num bytes 12 4) call old
      → more ≡ record { number = num bytes 0 4; figure = figure_on old (num bytes 12 4) } ∷ []

-- ---- between polls

-- since a poll about the command of this number was taken last, a step was told; or none was taken
abbrev pub IsServedSince : {K : Type 0} (picks : Picking K) (start p : Port K) (calls : List Call)
    → Answered picks start calls p → ℕ → Type 0
IsServedSince picks start p [] a number = Unit {0}
IsServedSince picks start p (WriteIp ∷ earlier) a number = Unit {0}
IsServedSince picks start p (call ∷ earlier) a number =
    TellsStep call a.0
    ⊎ ((TakesPoll number call a.0 → ⊥) × IsServedSince picks start a.0 earlier a.1 number)

-- between any two polls about one command, as they were taken, a step of a command was told, if the command waits still
abbrev pub ServesBetweenPolls : {K : Type 0} (picks : Picking K) (start p : Port K) (calls : List Call)
    → Answered picks start calls p → Type 0
ServesBetweenPolls picks start p [] a = Unit {0}
ServesBetweenPolls picks start p (call ∷ earlier) a =
    ((number : ℕ) → TakesPoll number call a.0 → 1 ≤ figure_on a.0 number
    → IsServedSince picks start a.0 earlier a.1 number)
    × ServesBetweenPolls picks start a.0 earlier a.1

-- ---- the laws

-- the law of what is held: a port was made over a controller, which had answered some calls before and has nothing of
-- its host's. Whoever calls the port, what it reads being bytes: it holds the commands or the ends of all messages that
-- are awaited, and no others of the host's
abbrev pub PortsHoldWhatIsAwaited : {K : Type 0} → Picking K → K → Type 0
PortsHoldWhatIsAwaited {K} picks picker =
    (c : Settings) (before : List Made) (controller : Holdings K) (hardware : Hardware) (credits : ℕ)
    (start p : Port K) (calls : List Call) → IsValid c
    → AnsweredCalls (picks picker) (fresh c picker) before controller → outstanding_of First controller ≡ []
    → IsMadeOf hardware credits controller start → ReadsBytes calls → (a : Answered picks start calls p)
    → (number : ℕ) → HoldsAwaited p (awaited picks start p calls a) number

-- the law of order: of such a port, whose units have blocks, and whose holder tells of actions only after they were
-- wanted: while there is no fatal
-- error and the host writes no IP, ends pass on to the host in the order in which they came
abbrev pub PortsPassEndsOn : {K : Type 0} → Picking K → K → Type 0
PortsPassEndsOn {K} picks picker =
    (c : Settings) (before : List Made) (controller : Holdings K) (hardware : Hardware) (credits : ℕ)
    (start p : Port K) (call : Call) (calls : List Call) → IsValid c → All (λ unit. 0 < unit.size) c.units
    → AnsweredCalls (picks picker) (fresh c picker) before controller → outstanding_of First controller ≡ []
    → IsMadeOf hardware credits controller start → AsksAlways (call ∷ calls) → ReadsBytes (call ∷ calls)
    → (a : Answered picks start (call ∷ calls) p) → call ≢ WriteIp → is_dead p.stage ≡ false
    → PassesOn call a.0 p
