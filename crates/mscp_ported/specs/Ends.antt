-- With which fields an end leaves: they are decided as its command ends, of what its unit has then, also where the end
-- leaves much later (manual, "End Messages", "Status and Event Codes", "Unit Flags").
use Rattle.std.specs.Prelude.{◌≡◌, ℕ, Bool, ◌+◌, ◌%◌, ◌==◌, ◌&&◌, ◌||◌, ◌++◌, ◌∷◌, [], not, if◌then◌else◌, List, drop, length, map, replicate, Option, None, Some, Result, Ok, Err, nat_le, ◌-◌}
use Rattle.byteorder.specs.Endian.{little_bytes}
use Rattle.mscp_packet.specs.EndcodeBytes as endcodes
use Rattle.mscp_packet.specs.Ends.{end_bytes}
use Rattle.mscp_packet.specs.StatusCodes as codes
use Rattle.mscp_packet.specs.Statuses as statuses
use Rattle.mscp_packet.specs.Statuses.{code_of}
use Rattle.mscp_packet.specs.declared.command.MoveKind.{MoveKind}
use Rattle.mscp_packet.specs.declared.end.End.{End}
use Rattle.mscp_packet.specs.declared.end.EndBody.{EndBody}
use Rattle.mscp_packet.specs.declared.end.EndBody.TheVariants as bodies
use Rattle.mscp_drive.specs.Both.{of}
use Rattle.mscp_drive.specs.Settings.{IsValid, Settings}
use Rattle.mscp_drive.specs.Shape.{Shape}
use Rattle.mscp_drive.specs.UnitList.{unit_found}
use Rattle.mscp_drive.specs.declared.block.Block.TheVariants as blocks
use Rattle.mscp_drive.specs.declared.connection.Connection.TheVariants.{First}
use Rattle.mscp_queue.specs.declared.upcoming.Upcoming.{Upcoming}
use Rattle.mscp_controller.specs.Calls.{AnsweredCalls, Call as Made}
use Rattle.mscp_controller.specs.Holdings.{Holdings, fresh}
use Rattle.mscp_port.specs.declared.action.Outcome.{Outcome}
use Rattle.mscp_port.specs.declared.buffers.Buffer.{Buffer}
use Rattle.mscp_port.specs.declared.hardware.Hardware.{Hardware}
use Rattle.mscp_port.specs.declared.port.Outgoing.{Outgoing}
use Rattle.mscp_port.specs.declared.port.OutgoingKind.{OutgoingKind}
use Rattle.mscp_port.specs.declared.port.OutgoingKind.TheVariants as kinds
use Rattle.mscp_port.specs.declared.port.Port.{Port}
use Rattle.mscp_port.specs.declared.task.Task.{Task}
use Rattle.mscp_port.specs.declared.task.Task.TheVariants as tasks
use Rattle.mscp_port.specs.declared.verdict.Verdict.{Verdict}
use Rattle.mscp_port.specs.declared.verdict.Verdict.TheVariants as verdicts
use Rattle.mscp_port.specs.declared.volumes.Volume.{Volume}
use Rattle.mscp_port.specs.Blocks.{kept_of}
use Rattle.mscp_port.specs.Calls.{IsMadeOf}
use Rattle.mscp_port.specs.Histories.{Answered, Call, Next, Picking, WasRead, Went}
use Rattle.mscp_port.specs.Moved.{block_begun, part_now}
use Rattle.mscp_port.specs.Volumes.{volume_found}
use Rattle.mscp_ported.specs.Answers.{asks_nothing}
use Rattle.mscp_ported.specs.Making.{told_as}
use Rattle.mscp_ported.specs.Talk.{since}
use Rattle.mscp_ported.specs.UnitFlags.{flags_of_unit}

-- ---- what is decided

-- what an end says that only its port knows
pub record Fields : Type 0 where
  pub code : ℕ
  pub status : ℕ
  pub flags : ℕ
  pub media : ℕ
  pub size : ℕ

-- Unit-Offline, no volume; Unit-Available; or Success
abbrev pub state_of_unit : Volume → ℕ
state_of_unit v =
    if not v.is_there then statuses.no_volume else if not v.is_mounted then statuses.unit_available
    else statuses.success

-- an end's code is its command's opcode with the top bit: that which the controller gives it, but of a command that
-- asks nothing of a disk, of which the controller got an ACCESS
abbrev pub code_with : Option Buffer → ℕ → ℕ
code_with None code = code
code_with (Some b) code = if asks_nothing b.opcode then b.opcode + endcodes.unknown else code

-- by what the port keeps of its command
abbrev pub code_said : {K : Type 0} → Port K → End → ℕ
code_said old e = code_with (kept_of First e.reference old.buffers.items) e.code

abbrev pub ends_nothing : ℕ → Bool
ends_nothing code = nat_le endcodes.unknown code && asks_nothing (code - endcodes.unknown)

-- such a command succeeds, unless it was aborted. Of any other a step that had no volume is Unit-Offline, one that its
-- unit wasn't online for is Unit-Available; a GET UNIT STATUS says the unit's state, and an ONLINE whether it found the
-- unit online already
abbrev pub status_by : Verdict → ℕ → ℕ → Volume → ℕ
status_by verdicts.NoVolume code status v = statuses.no_volume
status_by verdicts.NotOnline code status v = statuses.unit_available
status_by (verdicts.Served block) code status v =
    if code == endcodes.get_unit_status && (status == statuses.success || status == statuses.unit_available) then
    state_of_unit v
    else if code == endcodes.online && (status == statuses.success || status == statuses.already_online) then
    (if v.is_mounted then statuses.already_online else statuses.success)
    else status

abbrev pub status_said : Verdict → ℕ → ℕ → Volume → ℕ
status_said verdict code status v =
    if ends_nothing code then (if status == statuses.aborted then statuses.aborted else statuses.success)
    else status_by verdict code status v

-- with this code and status: of a SET CONTROLLER CHARACTERISTICS the host's flags are told, of a command to a unit the
-- unit's flags, and type and size of its volume, or the unit's if there is none
abbrev pub fields_of_unit : ℕ → ℕ → Option Shape → Volume → Fields
fields_of_unit code status None v = record { code = code; status = status; flags = 0; media = 0; size = 0 }
fields_of_unit code status (Some unit) v = record {
  code = code;
  status = status;
  flags = flags_of_unit v;
  media = if v.is_there then v.media else unit.media;
  size = if v.is_there then v.size else unit.size;
}

abbrev pub fields_with : ℕ → ℕ → End → Option Shape → ℕ → Volume → Fields
fields_with code status e unit flags v =
    if e.code == endcodes.set_controller_characteristics then record {
      code = code;
      status = status;
      flags = 0x8000 + flags % 0x8000;
      media = 0;
      size = 0;
    }
    else fields_of_unit code status unit v

-- in the port as it is then, where the unit had this volume before
abbrev pub fields_by : {K : Type 0} → Verdict → Volume → ℕ → Port K → End → Fields
fields_by verdict before code p e = fields_with code (status_said verdict code e.status before) e
    (unit_found p.controller.settings.units e.unit) p.flags (volume_found p.controller.settings.units p.volumes e.unit)

-- ---- when

pub record Leaving : Type 0 where
  pub end : End
  pub fields : Fields

-- the ends that came for the host's connection
abbrev pub come : {K : Type 0} → Port K → Port K → List End
come old new = drop (length (of First old.controller.untaken)) (of First new.controller.untaken)

-- how a step went whose block's action went so
abbrev pub verdict_with : Outcome → Result (ℕ × ℕ) Verdict → Verdict
verdict_with outcome (Ok part) = verdicts.Served (told_as outcome)
verdict_with outcome (Err verdict) = verdict

abbrev pub verdict_of : {K : Type 0} → Port K → Outcome → Option (Upcoming × MoveKind × ℕ) → Verdict
verdict_of old outcome None = verdicts.Served (blocks.Bad statuses.drive_error)
verdict_of old outcome (Some m) = verdict_with outcome (part_now old m.0 m.1 m.2)

abbrev pub verdict_in : {K : Type 0} → Port K → Outcome → Task → Verdict
verdict_in old outcome (tasks.Step verdict) = verdict
verdict_in old outcome task = verdict_of old outcome (block_begun old)

abbrev pub answer_left : {K : Type 0} → Port K → Port K → End → Leaving
answer_left old new e = record {
  end = e;
  fields = fields_by (verdicts.Served blocks.Good)
      (volume_found new.controller.settings.units new.volumes e.unit) (code_said old e) new e;
}

abbrev pub step_left : {K : Type 0} → Verdict → Port K → Port K → End → Leaving
step_left verdict old new e = record {
  end = e;
  fields = fields_by verdict (volume_found old.controller.settings.units old.volumes e.unit) (code_said old e) new e;
}

-- the ends that came by a call, with what was decided of them: answers to a message, or the end of a step's command
abbrev pub came_by : {K : Type 0} → Call → Port K → Port K → List Leaving
came_by (WasRead bytes (Ok done)) old new = map (answer_left old new) (come old new)
came_by (Went outcome (Ok done)) old new =
    map (step_left (verdict_in old outcome old.task) old new) (come old new)
came_by call old new = []

-- since all was forgotten last, the first one first
abbrev pub came : {K : Type 0} (picks : Picking K) (start p : Port K) (calls : List Call)
    → Answered picks start calls p → List Leaving
came picks start p [] a = []
came picks start p (call ∷ earlier) a = since p.stage call (came picks start a.0 earlier a.1) (came_by call a.0 p)

-- ---- what is said

-- an end of the disk's that begins to go out, as something is wanted, is one of the controller's
abbrev pub end_said : OutgoingKind → List ℕ → List (List ℕ)
end_said kinds.Attention text = []
end_said kinds.End text = text ∷ []
end_said kinds.UtilitiesEnd text = []

abbrev pub ends_begun : Option Outgoing → Option Outgoing → List (List ℕ)
ends_begun None (Some o) = end_said o.kind o.bytes.items
ends_begun before after = []

abbrev pub ends_said_by : {K : Type 0} → Call → Port K → Port K → List (List ℕ)
ends_said_by (Next blocks action bytes) old new = ends_begun old.outgoing new.outgoing
ends_said_by call old new = []

abbrev pub ends_said : {K : Type 0} (picks : Picking K) (start p : Port K) (calls : List Call)
    → Answered picks start calls p → List (List ℕ)
ends_said picks start p [] a = []
ends_said picks start p (call ∷ earlier) a =
    since p.stage call (ends_said picks start a.0 earlier a.1) (ends_said_by call a.0 p)

-- ---- bytes

-- bytes 0 to 11: reference number, unit, endcode and status
abbrev pub head_text : End → Fields → List ℕ
head_text e f =
    little_bytes 4 e.reference ++ little_bytes 2 e.unit ++ (0 ∷ 0 ∷ e.code ∷ 0 ∷ []) ++ little_bytes 2 f.status

-- 12 to 35: multi-unit, unit flags, identifier, type of media, and shadow unit
abbrev pub unit_text : Fields → Shape → List ℕ
unit_text f unit =
    (little_bytes 2 unit.number ++ little_bytes 2 f.flags ++ little_bytes 4 0 ++ little_bytes 8 unit.id
    ++ little_bytes 4 f.media)
    ++ (little_bytes 2 unit.number ++ little_bytes 2 0)

-- 36 to 43: the volume's size, and the unit's serial number
abbrev pub online_text : End → Fields → Shape → List ℕ
online_text e f unit = (head_text e f ++ unit_text f unit) ++ little_bytes 4 f.size ++ little_bytes 4 unit.serial

-- 36 to 47: track, group and cylinder
abbrev pub status_text : End → Fields → Shape → List ℕ
status_text e f unit =
    (head_text e f ++ unit_text f unit) ++ little_bytes 2 unit.track ++ little_bytes 2 unit.group
    ++ little_bytes 2 unit.cylinder ++ replicate 6 0

-- 12 to 31: the controller's flags, timeout, versions and identifier
abbrev pub controller_text : End → Fields → Hardware → ℕ → ℕ → List ℕ
controller_text e f h timeout id =
    head_text e f ++ little_bytes 2 0 ++ little_bytes 2 f.flags ++ little_bytes 2 timeout
    ++ (h.software ∷ h.version ∷ []) ++ little_bytes 8 id ++ little_bytes 4 0

-- any other end leaves as the controller gave it, with that status
abbrev pub plain_text : End → Fields → List ℕ
plain_text e f = end_bytes (record e { status = f.status })

-- Success, Unit-Offline and Unit-Available tell of the unit
abbrev pub is_of_unit : ℕ → Bool
is_of_unit status =
    code_of status == codes.success || code_of status == codes.unit_offline || code_of status == codes.unit_available

abbrev pub text_with : EndBody → End → Fields → Option Shape → Hardware → List ℕ
text_with (bodies.Online id media size serial) e f (Some unit) h =
    if is_of_unit f.status then online_text e f unit else plain_text e f
text_with (bodies.UnitStatus id media track group cylinder) e f (Some unit) h =
    if is_of_unit f.status then status_text e f unit else plain_text e f
text_with (bodies.Controller timeout id) e f unit h =
    if f.status == statuses.success then controller_text e f h timeout id else plain_text e f
text_with body e f unit h = plain_text e f

-- that of a command which asks nothing has just 12 bytes
abbrev pub short_text : End → Fields → List ℕ
short_text e f =
    little_bytes 4 e.reference ++ little_bytes 2 e.unit ++ (0 ∷ 0 ∷ f.code ∷ 0 ∷ []) ++ little_bytes 2 f.status

abbrev pub text_left : End → Fields → Option Shape → Hardware → List ℕ
text_left e f unit h = if ends_nothing f.code then short_text e f else text_with e.body e f unit h

abbrev pub end_text : Hardware → List Shape → Leaving → List ℕ
end_text h units l = text_left l.end l.fields (unit_found units l.end.unit) h

-- ---- the law

-- the law of ends: a port was made over a controller, which had answered some calls before and holds no end of its
-- host's. Whoever calls the port: since all was forgotten last, the ends that came for its host began to go out in the
-- order in which they came, each once, with the fields that were decided as it came, but for those that the controller
-- holds still
abbrev pub PortsSayWhatWasDecided : {K : Type 0} → Picking K → K → Type 0
PortsSayWhatWasDecided {K} picks picker =
    (c : Settings) (before : List Made) (controller : Holdings K) (hardware : Hardware) (credits : ℕ)
    (start p : Port K) (calls : List Call) → IsValid c
    → AnsweredCalls (picks picker) (fresh c picker) before controller → of First controller.untaken ≡ []
    → IsMadeOf hardware credits controller start → (a : Answered picks start calls p)
    → (gone : List Leaving) × (waits : List Leaving) × (came picks start p calls a ≡ gone ++ waits)
    × (map (λ l. l.end) waits ≡ of First p.controller.untaken)
    × (ends_said picks start p calls a ≡ map (end_text hardware c.units) gone)
