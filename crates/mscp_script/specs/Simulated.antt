-- What a script leaves in the reader and in the writer.
use Rattle.std.specs.Prelude.{◌≡◌, ℕ, ◌+◌, List, zip, Option, option_map, Result, Ok, Err}
use Rattle.std.specs.Io.KnownBytes.{Appends}
use Rattle.mscp_drive.specs.declared.event.Event.{Event}
use Rattle.mscp_controller.specs.declared.entry.Entry.{Entry}
use Rattle.mscp_script.specs.declared.reading.ReadAllFault.{ReadAllFault}
use Rattle.mscp_script.specs.declared.reading.ReadAllFault.TheVariants as readings
use Rattle.mscp_reader.specs.declared.fault.ReadFault.{ReadFault}
use Rattle.mscp_reader.specs.declared.fault.ReadFault.TheVariants as scripts
use Rattle.mscp_script.specs.declared.simulation.SimFault.{SimFault}
use Rattle.mscp_script.specs.declared.simulation.SimFault.TheVariants as faults
use Rattle.mscp_drive.specs.Settings.{IsValid, Settings}
use Rattle.mscp_controller.specs.Headline.{Headline}
use Rattle.mscp_controller.specs.Sweeping.{IsSweeping}
use Rattle.mscp_script.specs.Text.{text}
use Rattle.mscp_reader.specs.Grammar.{Reads}
use Rattle.mscp_script.specs.Whole.{IsFront, IsRest, most_read}

-- the bytes are the text of a run of these events under this valid configuration, which has the headline, and in which
-- the sweep picks what starts (profile)
abbrev pub IsReportOf : Settings → List Event → List ℕ → Type 0
IsReportOf c events bytes =
    (entries : List Entry) × IsValid c × Headline c events entries × IsSweeping c (zip events entries)
    × (bytes ≡ text entries)

-- the bytes are the report of this script (profile)
abbrev pub IsReport : List ℕ → List ℕ → Type 0
IsReport script bytes = (c : Settings) × (events : List Event) × Reads script c events × IsReportOf c events bytes

-- R holds of the bytes that the reader gave; if those aren't known (a file, a terminal), of some bytes (profile)
abbrev pub IsGiven : Option (List ℕ) → (List ℕ → Type 0) → Type 0
IsGiven known R = (script : List ℕ) × IsFront most_read known script × R script

-- what a fault of the reading of all bytes is called in the end
abbrev pub sim_of_reading : ReadAllFault → SimFault
sim_of_reading readings.Read = faults.Read
sim_of_reading readings.OutOfMemory = faults.OutOfMemory

-- and a fault of the reading of a script
abbrev pub sim_of_script : ReadFault → SimFault
sim_of_script (scripts.Script fault) = faults.Script fault
sim_of_script scripts.OutOfMemory = faults.OutOfMemory

-- the report of the script that the reader gave is all that is written where there is no fault, nothing is written on a
-- fault, and nothing is said where the write failed (profile)
abbrev pub WritesReport : Result (Unit {0}) SimFault
    → Option (List ℕ) → Option (List ℕ) → Option (List ℕ) → Type 0
WritesReport (Ok done) known old new =
    IsGiven known (λ script. (bytes : List ℕ) × IsReport script bytes × Appends old new bytes)
WritesReport (Err faults.Write) known old new = Unit {0}
WritesReport (Err fault) known old new = new ≡ old

-- where there is no fault it was written to once, and on a fault never. Nothing is said where the write failed
-- (profile)
abbrev pub WritesOnce : Result (Unit {0}) SimFault → Option ℕ → Option ℕ → Type 0
WritesOnce (Ok done) old new = new ≡ option_map (λ n. n + 1) old
WritesOnce (Err faults.Write) old new = Unit {0}
WritesOnce (Err fault) old new = new ≡ old

-- where all was read, what comes after it is left in the reader. Nothing is said where a read failed, or memory
-- was wanted, which may be in the middle (profile)
abbrev pub LeavesRest : Result (Unit {0}) SimFault → Option (List ℕ) → Option (List ℕ) → Type 0
LeavesRest (Err faults.Read) old new = Unit {0}
LeavesRest (Err faults.OutOfMemory) old new = Unit {0}
LeavesRest result old new = IsRest most_read old new
