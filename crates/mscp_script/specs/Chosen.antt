-- What the words of a command line ask for.
use Rattle.std.specs.Prelude.{ℕ, if◌then◌else◌, List, [], ◌∷◌, codes, Result, Ok, Err}
use Rattle.std.specs.Str.{bytes_eq}
use Rattle.mscp_script.specs.declared.choosing.Deed.{Deed}
use Rattle.mscp_script.specs.declared.choosing.Deed.TheVariants as deeds
use Rattle.mscp_script.specs.declared.choosing.LineFault.{LineFault}
use Rattle.mscp_script.specs.declared.choosing.LineFault.TheVariants as faults

-- a deed as its texts: the command and its operand
pub data Call : Type 0 where
  Run : List ℕ → Call
  Packet : List ℕ → Call

-- what the words ask for, without the program's name (profile)
abbrev pub chosen : List (List ℕ) → Result Call LineFault
chosen [] = Ok (Run (codes "-"))
chosen (command ∷ operand ∷ []) =
    if bytes_eq command (codes "run") then Ok (Run operand) else (
    if bytes_eq command (codes "packet") then Ok (Packet operand) else Err faults.Usage)
chosen words = Err faults.Usage

-- a deed as it is seen here
abbrev pub seen : Deed → Call
seen (deeds.Run file) = Run file.now
seen (deeds.Packet word) = Packet word.now
