-- Of which message each end is that goes out to a host: of one that its controller took, and that had none so far
-- (manual, "End Messages").
use Rattle.std.specs.Prelude.{◌≡◌, ◌≢◌, ◌⊎◌, ◌≤◌, Some, None, slice_index, ◌==◌, ◌&&◌, ◌∷◌, [], ℕ, Bool, false, not, filter, is_none, is_ok, ◌<◌, ◌^◌, if◌then◌else◌, List, length, Ok}
use Rattle.mscp_packet.specs.EndcodeBytes as endcodes
use Rattle.mscp_packet.specs.Number.{num}
use Rattle.mscp_drive.specs.Settings.{IsValid, Settings}
use Rattle.mscp_drive.specs.declared.connection.Connection.TheVariants.{First}
use Rattle.mscp_controller.specs.Calls.{AnsweredCalls, Call as Made}
use Rattle.mscp_controller.specs.Holdings.{Holdings, answer_to_message, fresh, outstanding_of}
use Rattle.mscp_packet.specs.Ends.{end_length, kind_of_code}
use Rattle.mscp_packet.specs.declared.end.BodyKind.{BodyKind}
use Rattle.mscp_packet.specs.declared.end.BodyKind.TheVariants.{Moved}
use Rattle.mscp_port.specs.declared.hardware.Hardware.{Hardware}
use Rattle.mscp_port.specs.declared.port.Outgoing.{Outgoing}
use Rattle.mscp_port.specs.declared.port.OutgoingKind.TheVariants as kinds
use Rattle.mscp_ported.specs.Departures.{begins}
use Rattle.mscp_port.specs.declared.port.Port.{Port}
use Rattle.mscp_port.specs.declared.task.Task.{Task}
use Rattle.mscp_port.specs.declared.task.Task.TheVariants as tasks
use Rattle.mscp_port.specs.Calls.{IsMadeOf}
use Rattle.mscp_packet.specs.Opcodes.{is_transfer_opcode}
use Rattle.mscp_port.specs.Histories.{Answered, Call, Picking, WasRead, WriteIp}
use Rattle.mscp_ported.specs.Answers.{own_answer, text_handed, volume_named}
use Rattle.mscp_ported.specs.Ends.{ends_said_by}
use Rattle.mscp_ported.specs.Talk.{is_dead, since}
use Rattle.mscp_ported.specs.Told.{accepted_by}

-- ---- messages whose ends are awaited

-- this text is one that the port may not answer itself, and that its controller takes
abbrev pub is_taken_text : {K : Type 0} → Port K → List ℕ → Task → Bool
is_taken_text old b (tasks.Text slot size foreign) =
    is_none (own_answer foreign (volume_named old b) b)
    && is_ok (answer_to_message First old.controller (text_handed old.controller.settings.units b))
is_taken_text old b task = false

abbrev pub taken_by : {K : Type 0} → Call → Port K → List (List ℕ)
taken_by (WasRead bytes (Ok done)) old = if is_taken_text old bytes old.task then bytes ∷ [] else []
taken_by call old = []

-- the message has this reference number
abbrev pub has_number : ℕ → List ℕ → Bool
has_number n b = num b 0 4 == n

-- READ, WRITE, COMPARE HOST DATA, ERASE and ACCESS are transfers, and bytes 12 to 15 of a message of one say how many
-- bytes it asks for
abbrev pub is_transfer : ℕ → Bool
is_transfer opcode = is_transfer_opcode opcode

abbrev pub bytes_in : List ℕ → ℕ
bytes_in b = if is_transfer (slice_index b 8) then num b 12 4 else 0

-- those that have other numbers than these ends
abbrev pub without_ends : List (List ℕ) → List (List ℕ) → List (List ℕ)
without_ends [] texts = texts
without_ends (e ∷ ends) texts = without_ends ends (filter (λ t. not (has_number (num e 0 4) t)) texts)

-- the messages that the controller took since all was forgotten last, and whose ends didn't begin to go out
abbrev pub awaited : {K : Type 0} (picks : Picking K) (start p : Port K) (calls : List Call)
    → Answered picks start calls p → List (List ℕ)
awaited picks start p [] a = []
awaited picks start p (call ∷ earlier) a =
    since p.stage call (without_ends (ends_said_by call a.0 p) (awaited picks start a.0 earlier a.1))
    (taken_by call a.0)

-- ---- bytes

-- what is read is bytes
abbrev pub ReadsBytes : List Call → Type 0
ReadsBytes [] = Unit {0}
ReadsBytes (WasRead bytes result ∷ earlier) = ((i : ℕ) → slice_index bytes i < 2 ^ 8) × ReadsBytes earlier
ReadsBytes (call ∷ earlier) = ReadsBytes earlier

-- ---- what a call deals with

-- a text is an end: its code has the top bit, and it has all bytes that an end of its code has
pub record IsWhole (text : List ℕ) : Type 0 where
  pub long : 12 ≤ length text
  pub short : length text ≤ 64
  pub top : endcodes.unknown ≤ slice_index text 8
  pub body : (kind : BodyKind) → kind_of_code (slice_index text 8) ≡ Some kind → end_length kind ≤ length text

-- nothing is accepted, and nothing begins to go out
pub record IsQuiet {K : Type 0} (call : Call) (old new : Port K) : Type 0 where
  pub begun : begins old.outgoing new.outgoing ≡ []
  pub accepted : accepted_by call old ≡ []
  pub taken : taken_by call old ≡ []
  pub ended : ends_said_by call old new ≡ []

-- news of a unit begin to go out
pub record IsNews {K : Type 0} (call : Call) (old new : Port K) : Type 0 where
  pub out : Outgoing
  pub nothing : old.outgoing ≡ None
  pub begun : new.outgoing ≡ Some out
  pub kind : out.kind ≡ kinds.Attention
  pub code : slice_index out.bytes.items 8 ≡ endcodes.available_attention
  pub long : (12 ≤ length out.bytes.items) × (length out.bytes.items ≤ 64)
  pub accepted : accepted_by call old ≡ []
  pub taken : taken_by call old ≡ []
  pub ended : ends_said_by call old new ≡ []

-- the end of one of these messages begins to go out, the only one of its number. A transfer's counts no more bytes than
-- the message asks for
pub record IsEnding {K : Type 0} (messages : List (List ℕ)) (call : Call) (old new : Port K) : Type 0 where
  pub out : Outgoing
  pub nothing : old.outgoing ≡ None
  pub begun : new.outgoing ≡ Some out
  pub kind : out.kind ≡ kinds.End
  pub accepted : accepted_by call old ≡ []
  pub taken : taken_by call old ≡ []
  pub ended : ends_said_by call old new ≡ out.bytes.items ∷ []
  pub message : List ℕ
  pub only : filter (has_number (num out.bytes.items 0 4)) messages ≡ message ∷ []
  pub counts : kind_of_code (slice_index out.bytes.items 8) ≡ Some Moved
      → num out.bytes.items 12 4 ≤ bytes_in message
  pub whole : IsWhole out.bytes.items

-- a message is read, and the controller takes it
pub record IsTaking {K : Type 0} (call : Call) (old new : Port K) : Type 0 where
  pub message : List ℕ
  pub read : (done : Unit) × (call ≡ WasRead message (Ok done))
  pub begun : begins old.outgoing new.outgoing ≡ []
  pub accepted : accepted_by call old ≡ message ∷ []
  pub taken : taken_by call old ≡ message ∷ []
  pub ended : ends_said_by call old new ≡ []

-- or the port answers it itself
pub record IsAnswering {K : Type 0} (call : Call) (old new : Port K) : Type 0 where
  pub message : List ℕ
  pub read : (done : Unit) × (call ≡ WasRead message (Ok done))
  pub out : Outgoing
  pub nothing : old.outgoing ≡ None
  pub begun : new.outgoing ≡ Some out
  pub accepted : accepted_by call old ≡ message ∷ []
  pub taken : taken_by call old ≡ []
  pub ended : ends_said_by call old new ≡ []

abbrev pub Deals : {K : Type 0} → List (List ℕ) → Call → Port K → Port K → Type 0
Deals messages call old new =
    IsQuiet call old new ⊎ IsNews call old new ⊎ IsEnding messages call old new ⊎ IsTaking call old new
    ⊎ IsAnswering call old new

-- the law of ends: a port was made over a controller, which had answered some calls before and has nothing of its
-- host's. Whoever calls the port, what it reads being bytes: each call that is no write of IP, and behind which there
-- is no fatal error, deals with no more than one thing; and an end of the controller's that begins to go out is that
-- of a message which the controller took, and whose end didn't go out before
abbrev pub PortsEndWhatTheyTook : {K : Type 0} → Picking K → K → Type 0
PortsEndWhatTheyTook {K} picks picker =
    (c : Settings) (before : List Made) (controller : Holdings K) (hardware : Hardware) (credits : ℕ)
    (start p : Port K) (call : Call) (calls : List Call) → IsValid c
    → AnsweredCalls (picks picker) (fresh c picker) before controller → outstanding_of First controller ≡ []
    → IsMadeOf hardware credits controller start → ReadsBytes (call ∷ calls)
    → (a : Answered picks start (call ∷ calls) p) → call ≢ WriteIp → is_dead p.stage ≡ false
    → (is_dead a.0.stage ≡ false) × Deals (awaited picks start a.0 calls a.1) call a.0 p
