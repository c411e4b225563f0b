-- What the words of a command line ask for.
use Rattle.std.specs.Prelude.{ℕ, if◌then◌else◌, List, [], ◌∷◌, codes, Option, Some, None, Result, Ok, Err}
use Rattle.std.specs.Str.{bytes_eq}
use Rattle.mscpjudge.specs.declared.choosing.Asked.{Asked}
use Rattle.mscpjudge.specs.declared.choosing.Call.{Call}
use Rattle.mscpjudge.specs.declared.choosing.Call.TheVariants as calls
use Rattle.mscpjudge.specs.declared.fault.Fault.{Fault}
use Rattle.mscpjudge.specs.declared.fault.Fault.TheVariants.{Usage}

-- what is asked, and the name of the file that the log is in
pub record Asking : Type 0 where
  pub call : Call
  pub file : List ℕ

abbrev pub call_named : List ℕ → Result Call Fault
call_named word =
    if bytes_eq word (codes "legal") then Ok calls.Legal else (
    if bytes_eq word (codes "host") then Ok calls.Host else (
    if bytes_eq word (codes "wire") then Ok calls.Wire else Err Usage))

-- what a word behind it asks for: of what went over the wire all that is wrong, or all in words
abbrev pub call_flagged : List ℕ → Option Call
call_flagged flag =
    if bytes_eq flag (codes "--all") then Some calls.All else (
    if bytes_eq flag (codes "--show") then Some calls.Show else None)

abbrev pub flagged : List ℕ → List ℕ → Option Call
flagged word flag = if bytes_eq word (codes "wire") then call_flagged flag else None

-- of this file
abbrev pub asked_of : List ℕ → Result Call Fault → Result Asking Fault
asked_of file (Ok call) = Ok (record { call = call; file = file })
asked_of file (Err fault) = Err fault

-- a flag and a file, or another word
abbrev pub asked_with : List ℕ → Option Call → Result Asking Fault → Result Asking Fault
asked_with file (Some call) other = Ok (record { call = call; file = file })
asked_with file None other = other

-- what the words ask for, without the program's name. The file - is standard input
abbrev pub chosen : List (List ℕ) → Result Asking Fault
chosen [] = asked_of (codes "-") (Ok calls.Legal)
chosen (word ∷ []) = asked_of (codes "-") (call_named word)
chosen (word ∷ second ∷ []) = asked_with (codes "-") (flagged word second) (asked_of second (call_named word))
chosen (word ∷ flag ∷ file ∷ []) = asked_with file (flagged word flag) (Err Usage)
chosen words = Err Usage

-- as it is seen here
abbrev pub seen : Asked → Asking
seen a = record { call = a.call; file = a.file.now }
