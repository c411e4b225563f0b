-- What is written of a log of the wire that is shown: each line that says something, in words.
use Rattle.std.specs.Prelude.{◌≡◌, ℕ, ◌+◌, nat_lt, List, [], ◌∷◌, ◌++◌, codes, length, if◌then◌else◌, Option, Some, None, Result, Ok, Err}
use Rattle.std.specs.Fmt.{decimal}
use Rattle.std.specs.Io.KnownBytes.{Appends}
use Rattle.hex.specs.Hex.{encode_lower}
use Rattle.mscp_packet.specs.Steps.{◌>>=◌}
use Rattle.mscp_reader.specs.Lexical.{lines}
use Rattle.mscp_reader.specs.Outcome.{Fails, in_line}
use Rattle.mscp_reader.specs.declared.fault.Cause.TheVariants as causes
use Rattle.mscp_reader.specs.declared.fault.ReadFault.{ReadFault}
use Rattle.mscp_reader.specs.declared.fault.ScriptFault.{ScriptFault}
use Rattle.mscp_script.specs.Simulated.{IsGiven}
use Rattle.mscp_text.specs.Shown.{shown}
use Rattle.mscp_text.specs.declared.packet.ShowFault.{ShowFault}
use Rattle.mscp_text.specs.declared.packet.ShowFault.TheVariants as faults_of_text
use Rattle.mscp_wire.specs.Log.{line_says}
use Rattle.mscp_wire.specs.declared.line.Said.{Said}
use Rattle.mscp_wire.specs.declared.line.Said.TheVariants as says
use Rattle.mscp_wire.specs.declared.moment.Moment.{Moment}
use Rattle.mscp_wire.specs.declared.moment.Moment.TheVariants as moments
use Rattle.mscp_drive.specs.declared.connection.Connection.{Connection}
use Rattle.mscpjudge.specs.Foreign.{foreign_of, foreign_text}
use Rattle.mscpjudge.specs.Ports.{line_kind}
use Rattle.mscpjudge.specs.Times.{at_text, line_time}
use Rattle.mscpjudge.specs.Wired.{connection_name}
use Rattle.mscpjudge.specs.declared.fault.Fault.{Fault}
use Rattle.mscpjudge.specs.declared.fault.Fault.TheVariants as faults
use Rattle.mscpjudge.specs.declared.judging.Outcome.{Outcome}
use Rattle.mscpjudge.specs.declared.judging.Outcome.TheVariants as outcomes
use Rattle.mscpjudge.specs.declared.ports.Kind.{Kind}
use Rattle.mscpjudge.specs.declared.ports.Kind.TheVariants as kinds

-- why bytes are no packet, and their digits
abbrev pub unread_text : List ℕ → List ℕ → List ℕ
unread_text fault digits = fault ++ codes ": " ++ digits ++ codes "\n"

-- the line of a packet of these digits, or why it isn't one
abbrev pub packet_text : List ℕ → Result (List ℕ) ShowFault → List ℕ
packet_text digits (Ok text) = text
packet_text digits (Err faults_of_text.Short) = unread_text (codes "short") digits
packet_text digits (Err faults_of_text.Long) = unread_text (codes "long") digits
packet_text digits (Err faults_of_text.Code) = unread_text (codes "code") digits
packet_text digits (Err faults_of_text.Length) = unread_text (codes "length") digits
packet_text digits (Err faults_of_text.Hex) = unread_text (codes "hex") digits
packet_text digits (Err faults_of_text.OutOfMemory) = []

-- the same of these bytes
unfoldable pub known_text : List ℕ → List ℕ
known_text b = packet_text (encode_lower b) (shown (encode_lower b))

-- the line of these bytes, if their opcode is one of those that packets don't know, or if it isn't
abbrev pub text_by : Option ℕ → List ℕ → List ℕ
text_by (Some opcode) b = foreign_text b opcode
text_by None b = known_text b

-- what is said of these bytes
unfoldable pub bytes_text : List ℕ → List ℕ
bytes_text b = text_by (foreign_of b) b

-- what the controller sent a connection's host
abbrev pub sent_text : Connection → List ℕ → List ℕ
sent_text via b = connection_name via ++ codes "controller: " ++ bytes_text b

-- what happened: what a host or the controller sent, or a reset
abbrev pub moment_text : Moment → List ℕ
moment_text (moments.Message via b time) = connection_name via ++ codes "host: " ++ bytes_text b.items
moment_text (moments.End via b) = sent_text via b.items
moment_text moments.Reset = codes "reset\n"
moment_text (moments.Closed via) = connection_name via ++ codes "reset\n"

-- the number of a line, and its time
abbrev pub number_text : ℕ → Option ℕ → List ℕ
number_text number time = (codes "line " ++ decimal number) ++ at_text time ++ codes ": "

-- what the line of this number says
abbrev pub said_text : ℕ → Option ℕ → Said → List ℕ
said_text number time says.Nothing = []
said_text number time (says.Credits c) = number_text number time ++ (codes "credits " ++ decimal c) ++ codes "\n"
said_text number time says.Begun = number_text number time ++ codes "begun\n"
said_text number time (says.Happens m) = number_text number time ++ moment_text m
said_text number time (says.Attention via b) = number_text number time ++ sent_text via b.items

-- the same, or its fault
abbrev pub read_shown : ℕ → List ℕ → Result (List ℕ) ScriptFault
read_shown number line =
    in_line number (line_says number line) >>= λ said. Ok (said_text number (line_time number line) said)

-- the line of a port
abbrev pub named_text : ℕ → Option ℕ → ℕ → List ℕ
named_text number time port = number_text number time ++ (codes "port " ++ decimal port) ++ codes "\n"

-- a line that is this for the ports
abbrev pub kind_shown : ℕ → List ℕ → Kind → Result (List ℕ) ScriptFault
kind_shown number line (kinds.Names port) = Ok (named_text number (line_time number line) port)
kind_shown number line (kinds.Faulty cause) = Err (record { line = number; cause = cause })
kind_shown number line kind = read_shown number line

-- a line
unfoldable pub line_shown : ℕ → List ℕ → Result (List ℕ) ScriptFault
line_shown number line = kind_shown number line (line_kind number line)

-- what lines say behind this text, where so many lines stand before, or the first fault
unfoldable pub lines_shown : ℕ → List ℕ → List (List ℕ) → Result (List ℕ) ScriptFault
lines_shown before text [] = Ok text
lines_shown before text (line ∷ rest) =
    line_shown (before + 1) line >>= λ more. lines_shown (before + 1) (text ++ more) rest

-- what a whole log says
abbrev pub log_shown : List ℕ → Result (List ℕ) ScriptFault
log_shown bytes =
    if nat_lt 16777216 (length bytes) then Err (record { line = 0; cause = causes.Size })
    else lines_shown 0 [] (lines bytes)

-- what was returned of a line is what that says, appended
abbrev pub ShowsLine : {X : Type 0} → Result X ReadFault → Result (List ℕ) ScriptFault → List ℕ → List ℕ → Type 0
ShowsLine (Ok x) read old new = (more : List ℕ) × (read ≡ Ok more) × (new ≡ old ++ more)
ShowsLine (Err fault) read old new = Fails fault read

-- what is written is what the log that the reader gave says. Nothing is written on a fault, and a fault of the log is
-- that of what the reader gave; nothing is said where the write failed
abbrev pub TellsShown : Result Outcome Fault → Option (List ℕ) → Option (List ℕ) → Option (List ℕ) → Type 0
TellsShown (Ok outcome) known old new =
    IsGiven known (λ log. (text : List ℕ) × (log_shown log ≡ Ok text) × (outcome ≡ outcomes.Legal)
    × Appends old new text)
TellsShown (Err faults.Write) known old new = Unit {0}
TellsShown (Err (faults.Log fault)) known old new = (new ≡ old) × IsGiven known (λ log. log_shown log ≡ Err fault)
TellsShown (Err fault) known old new = new ≡ old
