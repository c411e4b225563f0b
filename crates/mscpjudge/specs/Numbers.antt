-- The numbers that lines of a log have among all lines, where the log is that of a port.
use Rattle.std.specs.Prelude.{ℕ, ◌-◌, nat_lt, if◌then◌else◌, List, [], ◌∷◌, slice_index}
use Rattle.mscp_reader.specs.declared.fault.Cause.{Cause}
use Rattle.mscp_reader.specs.declared.fault.Cause.TheVariants as causes
use Rattle.mscp_reader.specs.declared.fault.ScriptFault.{ScriptFault}

-- the number of a line, counted from 1, where the lines have these among all. Where none are told, each has its own
unfoldable pub number_by : List ℕ → ℕ → ℕ
number_by [] line = line
number_by (n ∷ numbers) line = slice_index (n ∷ numbers) (line - 1)

-- no log has a line of this number: whatever stands there, there are too many
abbrev pub cause_at : ℕ → Cause → Cause
cause_at number cause = if nat_lt 1000000 number then causes.Lines else cause

-- a fault, by the number of its line among all
abbrev pub fault_by : (ℕ → ℕ) → ScriptFault → ScriptFault
fault_by number fault = record { line = number fault.line; cause = cause_at (number fault.line) fault.cause }
