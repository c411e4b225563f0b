-- A log of the wire: what its lines say, and what they tell. No judge is in these definitions.
use Rattle.std.specs.Prelude.{◌≡◌, ℕ, ◌+◌, ◌-◌, ◌*◌, ◌^◌, ◌/◌, ◌==◌, Bool, true, false, not, nat_eq, nat_lt, ◌&&◌, ◌||◌, if◌then◌else◌, List, [], ◌∷◌, ◌++◌, length, take, drop, position, codes, slice_index, Option, Some, None, is_none, Result, Ok, Err}
use Rattle.std.specs.Str.{bytes_eq}
use Rattle.mscp_packet.specs.EndcodeBytes as endcodes
use Rattle.arrayvec.specs.ArrayVec.{ArrayVec}
use Rattle.mscp_drive.specs.declared.connection.Connection.{Connection}
use Rattle.mscp_drive.specs.declared.connection.Connection.TheVariants.{First, Second}
use Rattle.mscp_packet.specs.Number.{num}
use Rattle.mscp_packet.specs.Steps.{◌>>=◌}
use Rattle.mscp_reader.specs.Grammar.{only_number, said_at}
use Rattle.mscp_reader.specs.Lexical.{wide}
use Rattle.mscp_reader.specs.Requests.{bytes_in, none, one}
use Rattle.mscp_reader.specs.declared.fault.Cause.{Cause}
use Rattle.mscp_reader.specs.declared.fault.Cause.TheVariants as causes
use Rattle.mscp_wire.specs.Begun.{is_middle, spares}
use Rattle.mscp_wire.specs.Wire.{History, broken_by}
use Rattle.mscp_wire.specs.declared.line.Said.{Said}
use Rattle.mscp_wire.specs.declared.line.Said.TheVariants as says
use Rattle.mscp_wire.specs.declared.moment.Moment.{Moment}
use Rattle.mscp_wire.specs.declared.moment.Moment.TheVariants as moments
use Rattle.mscp_wire.specs.declared.rule.Rule.{Rule}
use Rattle.mscp_wire.specs.declared.rule.Rule.TheVariants as rules

-- ---- when it happened

-- a number of digits that stand behind a point, in the last of nine places
abbrev pub scaled : ℕ → Result ℕ Cause → Option ℕ
scaled places (Ok n) = Some (n * 10 ^ places)
scaled places (Err cause) = None

-- a fraction of a second, in nanoseconds, by its 1 to 9 digits
abbrev pub fraction_of : List ℕ → Option ℕ
fraction_of digits = if nat_lt 9 (length digits) then None else scaled (9 - length digits) (wide digits)

-- whole seconds and a fraction, in nanoseconds
abbrev pub seconds_of : Result ℕ Cause → Option ℕ → Option ℕ
seconds_of (Ok seconds) (Some fraction) = Some (seconds * 1000000000 + fraction)
seconds_of seconds fraction = None

-- a time in nanoseconds, by its digits, in which a point stands at this place, if one does
abbrev pub time_by : List ℕ → Option ℕ → Option ℕ
time_by digits None = seconds_of (wide digits) (Some 0)
time_by digits (Some i) = seconds_of (wide (take i digits)) (fraction_of (drop (i + 1) digits))

-- a byte is a point
abbrev pub is_point : ℕ → Bool
is_point b = nat_eq b 46

-- the time in nanoseconds that digits tell: of seconds, and of a fraction behind a point. Any other word tells none
abbrev pub time_of : List ℕ → Option ℕ
time_of digits = time_by digits (position is_point digits)

-- ---- a line

-- a word is a time: it begins with '@'
abbrev pub is_time : List ℕ → Bool
is_time [] = false
is_time (b ∷ bytes) = b == 64

-- the words of a line without its time, which may stand first
unfoldable pub without_time : List (List ℕ) → List (List ℕ)
without_time [] = []
without_time (word ∷ rest) = if is_time word then rest else word ∷ rest

-- the time that a line tells, if its first word is one
unfoldable pub time_in : List (List ℕ) → Option ℕ
time_in [] = None
time_in (word ∷ rest) = if is_time word then time_of (drop 1 word) else None

-- the bytes of these digits: 1 to 64 of them
abbrev pub packet_of : List ℕ → Result (ArrayVec ℕ) Cause
packet_of [] = Err causes.Hex
packet_of (b ∷ bytes) = Ok (record { items = b ∷ bytes })

-- the one word that is left is the digits of a packet
unfoldable pub packet : List (List ℕ) → Result (ArrayVec ℕ) Cause
packet fields = one fields >>= λ digits. packet_of (bytes_in digits)

-- an envelope is of a message, or an end, of the disk's connection: both its type and its connection are 0. The low
-- four bits beside the type are credits
abbrev pub is_disks : List ℕ → Bool
is_disks envelope =
    nat_lt 3 (length envelope) && nat_eq (slice_index envelope 2 / 16) 0 && nat_eq (slice_index envelope 3) 0

-- as many bytes of a message as its envelope says
abbrev pub cut : ArrayVec ℕ → ℕ → Result (ArrayVec ℕ) Cause
cut message count =
    if nat_eq count 0 || nat_lt (length message.items) count then Err causes.Hex
    else Ok (record { items = take count message.items })

-- the message behind an envelope, if it is the disk's
abbrev pub message_in : List ℕ → List ℕ → Result (Option (ArrayVec ℕ)) Cause
message_in envelope digits =
    if not (nat_eq (length envelope) 4) then Err causes.Hex else (
    if not (is_disks envelope) then Ok None
    else (cut (record { items = bytes_in digits }) (num envelope 0 2) >>= λ b. Ok (Some b)))

-- the same by the digits of a whole packet: four bytes of an envelope, and then the message
abbrev pub enveloped : List ℕ → Result (Option (ArrayVec ℕ)) Cause
enveloped digits =
    if nat_lt (length digits) 8 then Err causes.Hex else message_in (bytes_in (take 8 digits)) (drop 8 digits)

-- the one word that is left is the digits of such a packet
unfoldable pub whole_packet : List (List ℕ) → Result (Option (ArrayVec ℕ)) Cause
whole_packet fields = one fields >>= enveloped

-- what the controller sends is an attention message, which answers no command (manual, "Attention Messages")
abbrev pub is_attention : List ℕ → Bool
is_attention b = nat_eq (slice_index b 8) endcodes.available_attention

-- it sends one, or an end
abbrev pub sends : Connection → ArrayVec ℕ → Said
sends via b = if is_attention b.items then says.Attention via b else says.Happens (moments.End via b)

-- a packet of a host, or of the controller, says nothing if it isn't the disk's
abbrev pub sent_whole : Option ℕ → Connection → Option (ArrayVec ℕ) → Said
sent_whole time via None = says.Nothing
sent_whole time via (Some b) = says.Happens (moments.Message via b time)

abbrev pub sends_whole : Connection → Option (ArrayVec ℕ) → Said
sends_whole via None = says.Nothing
sends_whole via (Some b) = sends via b

-- a message or an end of a connection at this time, or that it closes, by the first word
unfoldable pub happens_on : Option ℕ → Connection → List (List ℕ) → Result Said Cause
happens_on time via [] = Err causes.Count
happens_on time via (word ∷ fields) =
    if bytes_eq word (codes "send") then (packet fields >>= λ b. Ok (says.Happens (moments.Message via b time))) else (
    if bytes_eq word (codes "end") then (packet fields >>= λ b. Ok (sends via b)) else (
    if bytes_eq word (codes "from") then (whole_packet fields >>= λ b. Ok (sent_whole time via b)) else (
    if bytes_eq word (codes "to") then (whole_packet fields >>= λ b. Ok (sends_whole via b)) else (
    if bytes_eq word (codes "reset") then (none fields >>= λ f. Ok (says.Happens (moments.Closed via)))
    else Err causes.Word))))

-- what the words of a line say, behind its time
unfoldable pub said_by : Option ℕ → List (List ℕ) → Result Said Cause
said_by time [] = Ok says.Nothing
said_by time (word ∷ fields) =
    if bytes_eq word (codes "second") then happens_on time Second fields else (
    if bytes_eq word (codes "reset") then (none fields >>= λ f. Ok (says.Happens moments.Reset)) else (
    if bytes_eq word (codes "credits") then (only_number fields >>= λ c. Ok (says.Credits c)) else (
    if bytes_eq word (codes "begun") then (none fields >>= λ f. Ok says.Begun)
    else happens_on time First (word ∷ fields))))

-- what the line of this number says
unfoldable pub line_says : ℕ → List ℕ → Result Said Cause
line_says number line = said_at number line >>= λ words. said_by (time_in words) (without_time words)

-- ---- a log

-- how many credits each host has, if that is told, whether the log begins in the middle, what went over the wire so
-- far, the numbers of the lines that told it, and the ends of commands that the log doesn't send
pub record Log : Type 0 where
  pub credits : Option ℕ
  pub begun : Bool
  pub moments : History
  pub lines : List ℕ
  pub strangers : History

abbrev pub nothing : Log
nothing = record { credits = None; begun = false; moments = []; lines = []; strangers = [] }

-- nothing was said so far: the credits may be told
abbrev pub is_fresh : Log → Bool
is_fresh log = is_none log.credits && nat_eq (length log.moments) 0

-- and that the log begins in the middle, which is told before them
abbrev pub is_first : Log → Bool
is_first log = not log.begun && is_fresh log

-- the first rule that a moment breaks, if it breaks one that is asked of it
abbrev pub spared : Log → Moment → Rule → Bool
spared log m rule = is_middle log.begun log.moments && spares log.moments log.strangers m rule

abbrev pub broken_unless : Log → Moment → Option Rule → Option Rule
broken_unless log m None = None
broken_unless log m (Some rule) = if spared log m rule then None else Some rule

abbrev pub broken_in : Log → Moment → Option Rule
broken_in log m = broken_unless log m (broken_by log.credits log.moments m)

-- it is the end of a command that the log doesn't send
abbrev pub is_outstanding : Rule → Bool
is_outstanding rules.Outstanding = true
is_outstanding rule = false

abbrev pub is_strange : Log → Moment → Option Rule → Bool
is_strange log m None = false
is_strange log m (Some rule) = is_outstanding rule && spared log m rule

abbrev pub is_stranger : Log → Moment → Bool
is_stranger log m = is_strange log m (broken_by log.credits log.moments m)

-- a log to which such an end is added
abbrev pub with_stranger : Log → Moment → Log
with_stranger log m = record log { strangers = log.strangers ++ m ∷ [] }

-- a log to which the line of this number adds a moment
abbrev pub with_moment : ℕ → Log → Moment → Log
with_moment number log m = record log { moments = log.moments ++ m ∷ []; lines = log.lines ++ number ∷ [] }

-- which one it is
abbrev pub with_either : ℕ → Log → Moment → Log
with_either number log m = if is_stranger log m then with_stranger log m else with_moment number log m

-- a log to which the line of this number adds what it says, right or not
abbrev pub with_said : ℕ → Log → Said → Result Log Cause
with_said number log says.Nothing = Ok log
with_said number log (says.Attention via b) = Ok log
with_said number log (says.Credits c) =
    if is_fresh log then Ok (record log { credits = Some c }) else Err causes.Word
with_said number log says.Begun =
    if is_first log then Ok (record log { begun = true; strangers = [] }) else Err causes.Word
with_said number log (says.Happens m) = Ok (with_either number log m)

-- the same of the line of this number
unfoldable pub with_line : ℕ → Log → List ℕ → Result Log Cause
with_line number log line = line_says number line >>= with_said number log

-- the same of lines that so many stand before
unfoldable pub with_lines : ℕ → Log → List (List ℕ) → Result Log Cause
with_lines before log [] = Ok log
with_lines before log (line ∷ rest) = with_line (before + 1) log line >>= λ next. with_lines (before + 1) next rest

-- ---- which lines are right

-- the first rule that what a line says breaks, if it breaks one
abbrev pub broken_said : Log → Result Said Cause → Option Rule
broken_said log (Ok (says.Happens m)) = broken_in log m
broken_said log said = None

-- each of these lines, which so many stand before, breaks no rule after those before it
unfoldable pub AreRightLines : ℕ → Log → List (List ℕ) → Type 0
AreRightLines before log [] = Unit {0}
AreRightLines before log (line ∷ rest) =
    (broken_said log (line_says (before + 1) line) ≡ None)
    × ((next : Log) → with_line (before + 1) log line ≡ Ok next → AreRightLines (before + 1) next rest)
