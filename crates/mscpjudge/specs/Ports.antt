-- The ports of a machine in a log of the wire: what a line is for them, which of them occur, and the lines of each.
use Rattle.std.specs.Prelude.{◌≡◌, ◌<◌, ℕ, ◌+◌, ◌-◌, nat_eq, nat_lt, Bool, true, false, ◌||◌, if◌then◌else◌, List, [], ◌∷◌, ◌++◌, codes, get_or, length, map, slice_index, Option, Some, None, Result, Ok, Err}
use Rattle.std.specs.Str.{bytes_eq}
use Rattle.mscp_reader.specs.Grammar.{only_number, said_at}
use Rattle.mscp_reader.specs.Lexical.{lines}
use Rattle.mscp_reader.specs.declared.fault.Cause.{Cause}
use Rattle.mscp_reader.specs.declared.fault.Cause.TheVariants as causes
use Rattle.mscp_reader.specs.declared.fault.ScriptFault.{ScriptFault}
use Rattle.mscp_wire.specs.Log.{without_time}
use Rattle.mscpjudge.specs.Numbers.{number_by}
use Rattle.mscpjudge.specs.declared.ports.Kind.{Kind}
use Rattle.mscpjudge.specs.declared.ports.Kind.TheVariants as kinds
use Rattle.mscpjudge.specs.declared.ports.Section.{Section}
use Rattle.mscpjudge.specs.declared.ports.Sections.{Sections}

-- ---- a line

-- a port has a number from 0 to 7
abbrev pub kind_of_number : Result ℕ Cause → Kind
kind_of_number (Ok n) = if nat_lt 7 n then kinds.Faulty causes.Number else kinds.Names n
kind_of_number (Err cause) = kinds.Faulty cause

-- what a line of these words, without a time, is for the ports: `port N` says that the lines behind it, up to the next
-- such line, went over the wire of port N
unfoldable pub kind_by : List (List ℕ) → Kind
kind_by [] = kinds.Bare
kind_by (word ∷ fields) =
    if bytes_eq word (codes "port") then kind_of_number (only_number fields) else kinds.Says

-- one that has no words, since it is at fault, is a line of its port; one too many is of none
abbrev pub kind_in : Result (List (List ℕ)) Cause → Kind
kind_in (Ok words) = kind_by (without_time words)
kind_in (Err causes.Lines) = kinds.Bare
kind_in (Err cause) = kinds.Says

-- what the line of this number is
unfoldable pub line_kind : ℕ → List ℕ → Kind
line_kind number line = kind_in (said_at number line)

-- it begins with the word `port`, right or not
abbrev pub is_port : Kind → Bool
is_port (kinds.Names n) = true
is_port (kinds.Faulty cause) = true
is_port kind = false

-- the port of the lines behind it, where it stands among those of this one
abbrev pub port_after : ℕ → Kind → ℕ
port_after at (kinds.Names n) = n
port_after at kind = at

-- ---- a log

-- lines have one that begins with the word `port`, where so many stand before them
unfoldable pub have_ports : ℕ → List (List ℕ) → Bool
have_ports before [] = false
have_ports before (line ∷ rest) = is_port (line_kind (before + 1) line) || have_ports (before + 1) rest

-- so does a log, if it isn't too large
abbrev pub has_ports : List ℕ → Bool
has_ports bytes = if nat_lt 16777216 (length bytes) then false else have_ports 0 (lines bytes)

-- the first fault of such a line, if one is at fault
abbrev pub fault_or : ℕ → Kind → Option ScriptFault → Option ScriptFault
fault_or number (kinds.Faulty cause) rest = Some (record { line = number; cause = cause })
fault_or number kind rest = rest

unfoldable pub fault_in : ℕ → List (List ℕ) → Option ScriptFault
fault_in before [] = None
fault_in before (line ∷ rest) = fault_or (before + 1) (line_kind (before + 1) line) (fault_in (before + 1) rest)

abbrev pub port_fault : List ℕ → Option ScriptFault
port_fault bytes = fault_in 0 (lines bytes)

-- ---- the lines of a port

-- a line still has a carriage return at its end
abbrev pub has_return : List ℕ → Bool
has_return line = nat_eq (slice_index line (length line - 1)) 13

-- a line and its end, of which one carriage return is dropped again
abbrev pub with_end : List ℕ → List ℕ
with_end line = line ++ (if has_return line then 13 ∷ 10 ∷ [] else 10 ∷ [])

-- what is known of a port: the log of its own lines, one behind another; the number that each of them has among all
-- lines; and whether it occurs
pub record Part : Type 0 where
  pub log : List ℕ
  pub numbers : List ℕ
  pub occurs : Bool

abbrev pub no_part : Part
no_part = record { log = []; numbers = []; occurs = false }

-- the line of this number is one of them
abbrev pub with_line : ℕ → List ℕ → Part → Part
with_line number line part =
    record part { log = part.log ++ with_end line; numbers = part.numbers ++ number ∷ [] }

-- the port occurs
abbrev pub shown : Part → Part
shown part = record part { occurs = true }

-- once the line of this number was read, where it stands among those of one port: a line that says something is that
-- port's own, and shows that it occurs, as does one that names it
abbrev pub part_after : ℕ → ℕ → ℕ → Kind → List ℕ → Part → Part
part_after port at number kinds.Says line part = if nat_eq at port then shown (with_line number line part) else part
part_after port at number (kinds.Names n) line part = if nat_eq n port then shown part else part
part_after port at number kind line part = part

-- the same of lines that so many stand before
unfoldable pub part_in : ℕ → ℕ → ℕ → Part → List (List ℕ) → Part
part_in port before at part [] = part
part_in port before at part (line ∷ rest) =
    part_in port (before + 1) (port_after at (line_kind (before + 1) line))
    (part_after port at (before + 1) (line_kind (before + 1) line) line part) rest

-- where there are so many lines: behind the last that is read one is at fault at each port, whatever stands there
abbrev pub part_end : ℕ → Part → Part
part_end count part = if nat_lt 1000000 count then with_line 1000001 (codes "?") part else part

-- what is known of a port by a log. Lines before the first `port` line are of port 0
abbrev pub part_of : List ℕ → ℕ → Part
part_of bytes port = part_end (length (lines bytes)) (part_in port 0 0 no_part (lines bytes))

-- it occurs; its log; and the number that a line of this has among all lines
abbrev pub occurs : List ℕ → ℕ → Bool
occurs bytes port = (part_of bytes port).occurs

abbrev pub port_log : List ℕ → ℕ → List ℕ
port_log bytes port = (part_of bytes port).log

abbrev pub number_in : List ℕ → ℕ → ℕ → ℕ
number_in bytes port = number_by (part_of bytes port).numbers

-- ---- what is kept

-- the first fault so far, or else that of the lines behind
abbrev pub first_fault : Option ScriptFault → Option ScriptFault → Option ScriptFault
first_fault None rest = rest
first_fault (Some fault) rest = Some fault

-- once the line of this number was read
abbrev pub fault_after : Option ScriptFault → ℕ → Kind → Option ScriptFault
fault_after old number kind = first_fault old (fault_or number kind None)

abbrev pub part_by : Section → Part
part_by section = record { log = section.log.items; numbers = section.numbers.items; occurs = section.occurs }

-- what is known of a port by the sections of all
abbrev pub part_at : List Section → ℕ → Part
part_at sections port = get_or (map part_by sections) port no_part

-- what is known of each port by a log
pub record IsSorted (bytes : List ℕ) (sections : Sections) : Type 0 where
  pub long : length sections.ports.items ≡ 8
  pub parts : (port : ℕ) → port < 8 → part_at sections.ports.items port ≡ part_of bytes port
  pub fault : sections.fault ≡ port_fault bytes
