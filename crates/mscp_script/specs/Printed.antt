-- What the printing of a packet leaves in the writer.
use Rattle.std.specs.Prelude.{◌≡◌, ℕ, ◌+◌, List, Option, option_map, Result, Ok, Err, IsOk}
use Rattle.std.specs.Io.KnownBytes.{Appends}
use Rattle.mscp_text.specs.Shown.{Shows}
use Rattle.mscp_text.specs.declared.packet.ShowFault.{ShowFault}
use Rattle.mscp_script.specs.declared.fault.Fault.{Fault}
use Rattle.mscp_script.specs.declared.fault.Fault.TheVariants as faults

-- the line that is wanted is all that is written where there is no fault. Where there is none to write, its fault is
-- told and nothing is written. Nothing is said of what went out where the write failed (profile)
abbrev pub Prints : Result (Unit {0}) Fault
    → Result (List ℕ) ShowFault → Option (List ℕ) → Option (List ℕ) → Type 0
Prints (Ok done) wanted old new = (line : List ℕ) × (wanted ≡ Ok line) × Appends old new line
Prints (Err (faults.Packet fault)) wanted old new = Shows (λ (line : List ℕ). line) (Err fault) wanted × (new ≡ old)
Prints (Err faults.Write) wanted old new = IsOk wanted
Prints (Err fault) wanted old new = ⊥

-- where there is no fault it was written to once, and where there is no line never. Nothing is said where the write
-- failed (profile)
abbrev pub PrintsOnce : Result (Unit {0}) Fault → Option ℕ → Option ℕ → Type 0
PrintsOnce (Ok done) old new = new ≡ option_map (λ n. n + 1) old
PrintsOnce (Err faults.Write) old new = Unit {0}
PrintsOnce (Err fault) old new = new ≡ old
