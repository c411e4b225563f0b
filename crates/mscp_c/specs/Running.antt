-- What the calls that run a script and show a packet tell.
use Rattle.std.specs.Prelude.{◌≡◌, ◌*◌, ◌<◌, ◌≤◌, ℕ, ℤ, List, length, take, Ok, Err}
use Rattle.mscp_reader.specs.Grammar.{IsFault}
use Rattle.mscp_reader.specs.declared.fault.Cause.{Cause}
use Rattle.mscp_reader.specs.declared.fault.Cause.TheVariants as causes
use Rattle.mscp_reader.specs.declared.fault.ScriptFault.{ScriptFault}
use Rattle.mscp_text.specs.Shown.{shown}
use Rattle.mscp_text.specs.declared.packet.ShowFault.{ShowFault}
use Rattle.mscp_text.specs.declared.packet.ShowFault.TheVariants as words
use Rattle.mscp_c.specs.declared.status.TheConstants as status

-- the status of what is wrong in a line of a script
abbrev pub cause_code : Cause → ℤ
cause_code causes.Size = status.SCRIPT_SIZE
cause_code causes.Lines = status.SCRIPT_LINES
cause_code causes.Long = status.SCRIPT_LONG
cause_code causes.Byte = status.SCRIPT_BYTE
cause_code causes.Word = status.SCRIPT_WORD
cause_code causes.Count = status.SCRIPT_COUNT
cause_code causes.Number = status.SCRIPT_NUMBER
cause_code causes.Hex = status.SCRIPT_HEX
cause_code causes.Status = status.SCRIPT_STATUS
cause_code causes.Unit = status.SCRIPT_UNIT
cause_code causes.Config = status.SCRIPT_CONFIG
cause_code causes.Header = status.SCRIPT_HEADER
cause_code causes.Events = status.SCRIPT_EVENTS

-- the status of a packet that isn't shown
abbrev pub show_code : ShowFault → ℤ
show_code words.Hex = status.WORD_HEX
show_code words.Short = status.WORD_SHORT
show_code words.Long = status.WORD_LONG
show_code words.Code = status.WORD_CODE
show_code words.Length = status.WORD_LENGTH
show_code words.OutOfMemory = status.SMALL

-- so many bytes at the front of a room, which has room for twice as many, are such a text
pub record HasText (Is : List ℕ → Type 0) (room : List ℕ) (count : ℕ) : Type 0 where
  pub inside : 2 * count ≤ length room
  pub text : Is (take count room)

-- there is such a text, and a room hasn't room for it twice
pub record IsShort (Is : List ℕ → Type 0) (room : List ℕ) : Type 0 where
  pub text : List ℕ
  pub is : Is text
  pub short : length room < 2 * length text

-- the script's first fault is in this line, and this is the status of its cause
pub record TellsFault (script : List ℕ) (code : ℤ) (line : ℕ) : Type 0 where
  pub fault : ScriptFault
  pub first : IsFault script fault
  pub line_is : fault.line ≡ line
  pub cause : cause_code fault.cause ≡ code

-- the bytes are the line of the packet that a word is
abbrev pub IsLine : List ℕ → List ℕ → Type 0
IsLine word line = shown word ≡ Ok line

-- the word is no packet, and this is the status of why
pub record IsNoPacket (word : List ℕ) (code : ℤ) : Type 0 where
  pub fault : ShowFault
  pub wrong : shown word ≡ Err fault
  pub cause : show_code fault ≡ code
