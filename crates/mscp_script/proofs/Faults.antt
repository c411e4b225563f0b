-- What a script's fault comes from, where a simulation ends with one.
use Rattle.mscp_script.proofs.Common.{arith, ◌≡◌, IsErrAnd, Result, Err, true≢false, ReadAllFault, ReadFault, ScriptFault, SimFault, sim_of_reading, sim_of_script}
use Rattle.mscp_reader.specs.declared.fault.ReadFault.TheVariants as scripts
use Rattle.mscp_script.specs.declared.simulation.SimFault.TheVariants as faults

abbrev fault_in : ScriptFault → SimFault → ScriptFault
fault_in other (faults.Script fault) = fault
fault_in other fault = other

-- what is known of an error is known of this one
error_is : (P : SimFault → Type 0) (result : Result (Unit {0}) SimFault) (fault : SimFault) → IsErrAnd result P
    → result ≡ Err fault → P fault
error_is P result fault h1 h2 = search arith

script_in : (x : ReadFault) (fault : ScriptFault) → faults.Script fault ≡ sim_of_script x → x ≡ scripts.Script fault
script_in x fault h1 = search (arith, true≢false)

-- the reading of all bytes brings no fault of a script, nor does a write
pub never_read : (result : Result (Unit {0}) SimFault) (x : ReadAllFault) (fault : ScriptFault)
    → IsErrAnd result (λ e. e ≡ sim_of_reading x) → result ≡ Err (faults.Script fault) → ⊥
never_read result x fault h e = search (arith, true≢false, error_is)

pub never_written : (result : Result (Unit {0}) SimFault) (fault : ScriptFault)
    → IsErrAnd result (λ e. e ≡ faults.Write) → result ≡ Err (faults.Script fault) → ⊥
never_written result fault h e = search (arith, true≢false, error_is)

-- it is that of the script
pub of_script : (result : Result (Unit {0}) SimFault) (x : ReadFault) (fault : ScriptFault)
    → IsErrAnd result (λ e. e ≡ sim_of_script x) → result ≡ Err (faults.Script fault) → x ≡ scripts.Script fault
of_script result x fault h e = script_in x fault (error_is (λ q. q ≡ sim_of_script x) result (faults.Script fault) h e)
