-- What comes of an init.
use Rattle.std.specs.Prelude.{ℕ, ℤ, List, Option, Some, None, is_none, option_map, unwrap_or, Result, Ok, Err}
use Rattle.mscp_controller.specs.Holdings.{fresh}
use Rattle.mscp_drive.specs.Settings.{limit_fault}
use Rattle.mscp_memory.specs.ControllerHandles.{Handle, placed, room_fault}
use Rattle.mscp_memory.specs.declared.policy.Policy.TheVariants.{Oldest}
use Rattle.mscp_c.specs.declared.status.TheConstants.{DONE, BAD_PICKER}
use Rattle.mscp_c.specs.declared.units.Limits.{Limits}
use Rattle.mscp_c.specs.declared.units.UnitIn.{UnitIn}
use Rattle.mscp_c.specs.declared.units.InitFault.{InitFault}
use Rattle.mscp_c.specs.declared.units.InitFault.TheVariants as faults
use Rattle.mscp_c.specs.Given.{fault_if, first_of, policy_given, settings_given, units_fault}
use Rattle.mscp_c.specs.Statuses.{room_code, unit_code, units_code, limits_code}

-- why a number is refused as a picker's, if it is
abbrev pub picker_fault : ℕ → Option InitFault
picker_fault picker = fault_if (is_none (policy_given picker)) faults.Picker

-- why units and limits are refused, if they are: the first that holds, in this order
abbrev pub config_fault : Limits → List UnitIn → Option InitFault
config_fault l us = first_of (units_fault us) (option_map faults.Limits (limit_fault (settings_given l us)))

-- why no controller is made, if none is: the first that holds, in this order
abbrev pub init_fault : Handle → Limits → List UnitIn → ℕ → Option InitFault
init_fault h l us picker =
    first_of (option_map faults.Room (room_fault h)) (first_of (picker_fault picker) (config_fault l us))

-- what is answered
abbrev pub init_answer : Option InitFault → Result (Unit {0}) InitFault
init_answer (Some fault) = Err fault
init_answer None = Ok tt

-- the handle then: a controller of these limits, units and policy is in the room, to which nothing came so far. Where
-- the picker's number is none there is a fault
abbrev pub made_unless : Option InitFault → Handle → Limits → List UnitIn → ℕ → Handle
made_unless (Some fault) h l us picker = h
made_unless None h l us picker = placed h (fresh (settings_given l us) (unwrap_or (policy_given picker) Oldest))

-- the status of a fault
abbrev pub init_fault_code : InitFault → ℤ
init_fault_code (faults.Room fault) = room_code fault
init_fault_code faults.Picker = BAD_PICKER
init_fault_code (faults.Units fault) = units_code fault
init_fault_code (faults.Unit fault) = unit_code fault
init_fault_code (faults.Limits fault) = limits_code fault

-- the status of an answer
abbrev pub init_code : Result (Unit {0}) InitFault → ℤ
init_code (Ok done) = DONE
init_code (Err fault) = init_fault_code fault

-- the status of an init, and the handle after it
abbrev pub inits_unless : Option InitFault → Handle → Limits → List UnitIn → ℕ → ℤ × Handle
inits_unless fault h l us picker = (init_code (init_answer fault), made_unless fault h l us picker)

abbrev pub inits : Handle → Limits → List UnitIn → ℕ → ℤ × Handle
inits h l us picker = inits_unless (init_fault h l us picker) h l us picker
