-- What comes of an init of a port.
use Rattle.std.specs.Prelude.{ℕ, ℤ, ◌||◌, Bool, true, false, List, Option, Some, None, is_none, nat_eq, nat_le, option_map, Result, Ok, Err}
use Rattle.mscp_memory.specs.PortHandles.{Handle, room_fault}
use Rattle.mscp_c.specs.declared.port_given.HardwareIn.{HardwareIn}
use Rattle.mscp_c.specs.declared.port_given.PortInitFault.{PortInitFault}
use Rattle.mscp_c.specs.declared.port_given.PortInitFault.TheVariants as faults
use Rattle.mscp_c.specs.declared.status.TheConstants.{DONE, BAD_BUS, BAD_HOST_CREDITS}
use Rattle.mscp_c.specs.declared.units.Limits.{Limits}
use Rattle.mscp_c.specs.declared.units.UnitIn.{UnitIn}
use Rattle.mscp_c.specs.declared.units.InitFault.TheVariants as controllers
use Rattle.mscp_c.specs.Given.{first_of}
use Rattle.mscp_c.specs.Made.{config_fault, init_fault_code, picker_fault}
use Rattle.mscp_c.specs.PortGiven.{hardware_given}

-- the fault, where this holds
abbrev pub refused_if : Bool → PortInitFault → Option PortInitFault
refused_if true fault = Some fault
refused_if false fault = None

-- why no port is made, if none is: the first that holds, in this order. A host may have a command outstanding, and the
-- controller's first connection has a credit more than its host may have commands
abbrev pub port_init_fault : Handle → Limits → List UnitIn → ℕ → HardwareIn → ℕ → Option PortInitFault
port_init_fault h l us picker hardware credits =
    first_of (option_map (λ fault. faults.Controller (controllers.Room fault)) (room_fault h)) (
    first_of (option_map faults.Controller (picker_fault picker)) (
    first_of (option_map faults.Controller (config_fault l us)) (
    first_of (refused_if (is_none (hardware_given hardware)) faults.Bus)
    (refused_if (nat_eq credits 0 || nat_le l.credits credits) faults.Credits))))

-- what is answered
abbrev pub port_init_answer : Option PortInitFault → Result (Unit {0}) PortInitFault
port_init_answer (Some fault) = Err fault
port_init_answer None = Ok tt

-- the status of a fault
abbrev pub port_fault_code : PortInitFault → ℤ
port_fault_code (faults.Controller fault) = init_fault_code fault
port_fault_code faults.Bus = BAD_BUS
port_fault_code faults.Credits = BAD_HOST_CREDITS

-- the status of an answer
abbrev pub port_init_code : Result (Unit {0}) PortInitFault → ℤ
port_init_code (Ok done) = DONE
port_init_code (Err fault) = port_fault_code fault
