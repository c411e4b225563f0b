-- How the program ends.
use Rattle.std.specs.Prelude.{ℕ, List, [], ◌∷◌, ◌++◌, codes, Result, Ok, Err}
use Rattle.std.specs.Fmt.{decimal}
use Rattle.mscp_text.specs.declared.packet.ShowFault.{ShowFault}
use Rattle.mscp_text.specs.declared.packet.ShowFault.TheVariants as shows
use Rattle.mscp_script.specs.declared.simulation.SimFault.TheVariants as sims
use Rattle.mscp_reader.specs.Causes.{cause_word}
use Rattle.mscp_script.specs.declared.fault.Fault.{Fault}
use Rattle.mscp_script.specs.declared.fault.Fault.TheVariants.{Usage, Simulation, Packet, Open, Write, OutOfMemory}

-- the exit status of a fault: 1 for a script or a packet at fault, 2 for the command line, 3 for a device or memory
abbrev pub fault_status : Fault → ℕ
fault_status Usage = 2
fault_status (Simulation (sims.Script fault)) = 1
fault_status (Simulation fault) = 3
fault_status (Packet shows.OutOfMemory) = 3
fault_status (Packet fault) = 1
fault_status Open = 3
fault_status Write = 3
fault_status OutOfMemory = 3

-- what is said of a packet's fault
abbrev pub show_text : ShowFault → List ℕ
show_text shows.Hex = codes "packet: hex"
show_text shows.Short = codes "packet: short"
show_text shows.Long = codes "packet: long"
show_text shows.Code = codes "packet: code"
show_text shows.Length = codes "packet: length"
show_text shows.OutOfMemory = codes "out of memory"

-- what is said of a fault
abbrev pub fault_text : Fault → List ℕ
fault_text Usage = codes "usage: mscpq [run FILE | packet HEX]"
fault_text (Simulation (sims.Script fault)) =
    codes "line " ++ decimal fault.line ++ codes ": " ++ cause_word fault.cause
fault_text (Simulation sims.Read) = codes "cannot read"
fault_text (Simulation sims.Write) = codes "cannot write"
fault_text (Simulation sims.OutOfMemory) = codes "out of memory"
fault_text (Packet fault) = show_text fault
fault_text Open = codes "cannot read"
fault_text Write = codes "cannot write"
fault_text OutOfMemory = codes "out of memory"

-- the exit status: 0 where all was done
abbrev pub exit_status : Result (Unit {0}) Fault → ℕ
exit_status (Ok done) = 0
exit_status (Err fault) = fault_status fault

-- the line on standard error, with its line feed: nothing where all was done
abbrev pub error_line : Result (Unit {0}) Fault → List ℕ
error_line (Ok done) = []
error_line (Err fault) = fault_text fault ++ 10 ∷ []
