-- What is said of a log of the wire: of a log without ports, and of each port of one with some.
use Rattle.std.specs.Prelude.{◌≡◌, ◌⊎◌, ℕ, zero, suc, ◌<◌, ◌≤◌, nat_le, Bool, true, false, if◌then◌else◌, List, [], ◌++◌, codes, Option, Some, None, Result, Ok, Err}
use Rattle.std.specs.Fmt.{decimal}
use Rattle.std.specs.Io.KnownBytes.{Appends}
use Rattle.mscp_reader.specs.declared.fault.ReadFault.{ReadFault}
use Rattle.mscp_reader.specs.declared.fault.ReadFault.TheVariants as reads
use Rattle.mscp_reader.specs.declared.fault.ScriptFault.{ScriptFault}
use Rattle.mscp_script.specs.Simulated.{IsGiven}
use Rattle.mscp_wire.specs.Log.{Log}
use Rattle.mscp_wire.specs.declared.log.Verdict.{Verdict}
use Rattle.mscp_wire.specs.declared.wrong.Wrong.{Wrong}
use Rattle.mscpjudge.specs.Credited.{ComesOf}
use Rattle.mscpjudge.specs.Found.{all_text, verdict_found}
use Rattle.mscpjudge.specs.Numbers.{fault_by, number_by}
use Rattle.mscpjudge.specs.Ports.{has_ports, number_in, occurs, port_fault, port_log}
use Rattle.mscpjudge.specs.Wired.{came_outcome, came_text, wire_text}
use Rattle.mscpjudge.specs.declared.fault.Fault.{Fault}
use Rattle.mscpjudge.specs.declared.fault.Fault.TheVariants as faults
use Rattle.mscpjudge.specs.declared.judging.Outcome.{Outcome}
use Rattle.mscpjudge.specs.declared.judging.Outcome.TheVariants as outcomes
use Rattle.mscpjudge.specs.declared.telling.Extent.{Extent}
use Rattle.mscpjudge.specs.declared.telling.Extent.TheVariants as extents
use Rattle.mscpjudge.specs.declared.telling.Telling.{Telling}
use Rattle.mscpjudge.specs.declared.telling.Told.{Told}

-- ---- one log

-- what is written of what came of a log, whose lines have these numbers among all: the first moment that isn't right,
-- or all that is wrong
abbrev pub extent_text : Extent → (ℕ → ℕ) → List ℕ → Result Log Wrong → Result (List ℕ) ScriptFault
extent_text extents.First number log came = Ok (came_text number log came)
extent_text extents.All number log came = all_text number log came

-- and of a verdict on it
abbrev pub verdict_by : {A : Type 0} → Extent → (ℕ → ℕ) → List ℕ → Verdict A → Result (List ℕ) ScriptFault
verdict_by extents.First number log verdict = Ok (wire_text number log verdict)
verdict_by extents.All number log verdict = verdict_found number log verdict

-- a log is judged so, and these lines say it
abbrev pub Answers : Extent → (ℕ → ℕ) → List ℕ → Outcome → List ℕ → Type 0
Answers extent number log outcome text =
    (came : Result Log Wrong) × ComesOf log (Ok came) × (outcome ≡ came_outcome came)
    × (extent_text extent number log came ≡ Ok text)

-- or it has this fault, in the line of this number in it: the first, unless a moment before it isn't right, or one
-- behind such a moment
abbrev pub IsFault : Extent → (ℕ → ℕ) → List ℕ → ScriptFault → Type 0
IsFault extent number log fault =
    ComesOf log (Err fault)
    ⊎ ((came : Result Log Wrong) × ComesOf log (Ok came) × (extent_text extent number log came ≡ Err fault))

-- what was returned of a log is what is said of it, unless memory ran out, and nothing else is
abbrev pub TellsOne : Extent → (ℕ → ℕ) → Result Told ReadFault → List ℕ → Type 0
TellsOne extent number (Ok told) log =
    Answers extent number log told.outcome told.text.items
    × ((fault : ScriptFault) → IsFault extent number log fault → ⊥)
TellsOne extent number (Err (reads.Script fault)) log =
    IsFault extent number log fault × ((other : ScriptFault) → IsFault extent number log other → other ≡ fault)
TellsOne extent number (Err reads.OutOfMemory) log = Unit {0}

-- ---- ports

-- the worse of two: some log isn't right
abbrev pub worse : Outcome → Outcome → Outcome
worse outcomes.Legal other = other
worse outcomes.Wrong other = outcomes.Wrong

-- the fault in the earlier line
abbrev pub earlier : Option ScriptFault → ScriptFault → ScriptFault
earlier None other = other
earlier (Some fault) other = if nat_le fault.line other.line then fault else other

-- the line above what is said of a port
abbrev pub port_text : ℕ → List ℕ
port_text port = codes "port " ++ decimal port ++ codes "\n"

-- a port that occurs is told behind what is said of those before it: by its log
pub record IsTold (extent : Extent) (bytes : List ℕ) (port : ℕ) (before : List ℕ) (others : Outcome) (outcome : Outcome)
    (text : List ℕ) : Type 0 where
  pub own : Outcome
  pub lines : List ℕ
  pub answers : Answers extent (number_in bytes port) (port_log bytes port) own lines
  pub outcome_is : outcome ≡ worse others own
  pub text_is : text ≡ before ++ port_text port ++ lines

-- of any other nothing is said
abbrev pub Goes : Bool → Extent → List ℕ → ℕ → List ℕ → Outcome → Outcome → List ℕ → Type 0
Goes true extent bytes port before others outcome text = IsTold extent bytes port before others outcome text
Goes false extent bytes port before others outcome text = (outcome ≡ others) × (text ≡ before)

-- what is said of all ports below this one, and how they are judged
unfoldable pub SaysBelow : ℕ → Extent → List ℕ → Outcome → List ℕ → Type 0
SaysBelow zero extent bytes outcome text = (outcome ≡ outcomes.Legal) × (text ≡ [])
SaysBelow (suc port) extent bytes outcome text =
    (others : Outcome) × (before : List ℕ) × SaysBelow port extent bytes others before
    × Goes (occurs bytes port) extent bytes port before others outcome text

-- a fault of the log of a port, by the number of its line among all
abbrev pub IsFaultAt : Extent → List ℕ → ℕ → ScriptFault → Type 0
IsFaultAt extent bytes port fault =
    (own : ScriptFault) × IsFault extent (number_in bytes port) (port_log bytes port) own
    × (fault ≡ fault_by (number_in bytes port) own)

-- a fault of a line that begins with the word `port`, or of the log of a port below this one
abbrev pub IsFaultBelow : ℕ → Extent → List ℕ → ScriptFault → Type 0
IsFaultBelow port extent bytes fault =
    (port_fault bytes ≡ Some fault)
    ⊎ ((p : ℕ) × (p < port) × (occurs bytes p ≡ true) × IsFaultAt extent bytes p fault)

-- no other stands in a line before it
abbrev pub IsFirstBelow : ℕ → Extent → List ℕ → ScriptFault → Type 0
IsFirstBelow port extent bytes fault =
    IsFaultBelow port extent bytes fault
    × ((other : ScriptFault) → IsFaultBelow port extent bytes other → fault.line ≤ other.line)

-- ---- the whole

-- a log is judged so, and these lines say it: without ports as it stands, and else of each of the eight ports that
-- occurs, and none has a fault
abbrev pub SaysBy : Bool → Extent → List ℕ → Outcome → List ℕ → Type 0
SaysBy false extent bytes outcome text = Answers extent (number_by []) bytes outcome text
SaysBy true extent bytes outcome text =
    SaysBelow 8 extent bytes outcome text × ((fault : ScriptFault) → IsFaultBelow 8 extent bytes fault → ⊥)

abbrev pub SaysAll : Extent → List ℕ → Outcome → List ℕ → Type 0
SaysAll extent bytes outcome text = SaysBy (has_ports bytes) extent bytes outcome text

-- or this is its fault: the first one of all ports
abbrev pub FailsBy : Bool → Extent → List ℕ → ScriptFault → Type 0
FailsBy false extent bytes fault = IsFault extent (number_by []) bytes fault
FailsBy true extent bytes fault = IsFirstBelow 8 extent bytes fault

abbrev pub FailsAll : Extent → List ℕ → ScriptFault → Type 0
FailsAll extent bytes fault = FailsBy (has_ports bytes) extent bytes fault

-- what was returned of a log is what is said of it, unless memory ran out
abbrev pub TellsBy : Bool → Extent → Result Told ReadFault → List ℕ → Type 0
TellsBy ported extent (Ok told) bytes = SaysBy ported extent bytes told.outcome told.text.items
TellsBy ported extent (Err (reads.Script fault)) bytes = FailsBy ported extent bytes fault
TellsBy ported extent (Err reads.OutOfMemory) bytes = Unit {0}

-- what is written is what is said of the log that the reader gave. Nothing is written on a fault, and a fault of the
-- log is that of what the reader gave; nothing is said where the write failed
abbrev pub TellsWire : Extent → Result Outcome Fault → Option (List ℕ) → Option (List ℕ) → Option (List ℕ) → Type 0
TellsWire extent (Ok outcome) known old new =
    IsGiven known (λ log. (text : List ℕ) × SaysAll extent log outcome text × Appends old new text)
TellsWire extent (Err faults.Write) known old new = Unit {0}
TellsWire extent (Err (faults.Log fault)) known old new =
    (new ≡ old) × IsGiven known (λ log. FailsAll extent log fault)
TellsWire extent (Err fault) known old new = new ≡ old

-- ---- what is kept

-- the first fault so far, or what is said of the ports below this one
abbrev pub Stands : ℕ → Extent → List ℕ → Option ScriptFault → Outcome → List ℕ → Type 0
Stands port extent bytes None outcome text =
    SaysBelow port extent bytes outcome text × ((fault : ScriptFault) → IsFaultBelow port extent bytes fault → ⊥)
Stands port extent bytes (Some fault) outcome text = IsFirstBelow port extent bytes fault

abbrev pub IsAt : ℕ → Extent → List ℕ → Telling → Type 0
IsAt port extent bytes telling =
    Stands port extent bytes telling.fault telling.told.outcome telling.told.text.items
