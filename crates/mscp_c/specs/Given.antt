-- What a program in C gives for a controller, and what is made of it.
use Rattle.std.specs.Prelude.{◌≡◌, ℕ, ℤ, pos, ◌&&◌, Bool, true, false, not, nat_eq, nat_lt, if◌then◌else◌, List, [], ◌∷◌, length, map, ◌++◌, take, drop, Option, Some, None, option_map, Result, Ok, Err}
use Rattle.mscp_drive.specs.Shape.{Shape}
use Rattle.mscp_drive.specs.declared.unit.UnitFault.{UnitFault}
use Rattle.mscp_drive.specs.declared.unit.UnitFault.TheVariants.{ZeroTrack, ZeroGroup, ZeroCylinder, ZeroSize}
use Rattle.mscp_drive.specs.declared.units.UnitsFault.TheVariants.{TooMany, NotAscending, Empty}
use Rattle.mscp_drive.specs.declared.connection.Connection.{Connection}
use Rattle.mscp_drive.specs.declared.connection.Connection.TheVariants as connections
use Rattle.mscp_drive.specs.Settings.{Settings}
use Rattle.mscp_memory.specs.declared.policy.Policy.{Policy}
use Rattle.mscp_memory.specs.declared.policy.Policy.TheVariants as policies
use Rattle.mscp_c.specs.declared.units.Limits.{Limits}
use Rattle.mscp_c.specs.declared.units.UnitIn.{UnitIn}
use Rattle.mscp_c.specs.declared.units.InitFault.{InitFault}
use Rattle.mscp_c.specs.declared.units.InitFault.TheVariants as faults

-- the policy of this number, if it is one
abbrev pub policy_given : ℕ → Option Policy
policy_given number =
    if nat_eq number 0 then Some policies.Oldest else (if nat_eq number 1 then Some policies.Sweep else None)

-- the connection of this number, if it is one
abbrev pub connection_given : ℕ → Option Connection
connection_given number =
    if nat_eq number 0 then Some connections.First else (if nat_eq number 1 then Some connections.Second else None)

-- the unit of these numbers
abbrev pub unit_given : UnitIn → Shape
unit_given u = record {
  number = u.number;
  track = u.track;
  group = u.group;
  cylinder = u.cylinder;
  size = u.size;
  id = u.id;
  media = u.media;
  serial = u.serial;
}

-- the settings of these limits and units
abbrev pub settings_given : Limits → List UnitIn → Settings
settings_given l us = record {
  credits = l.credits;
  second = l.second;
  budget = l.budget;
  longest = l.longest;
  timeout = l.timeout;
  id = l.id;
  units = map unit_given us;
}

-- and what is told of settings
abbrev pub limits_told : Settings → Limits
limits_told c = record {
  id = c.id;
  budget = c.budget;
  credits = c.credits;
  second = c.second;
  longest = c.longest;
  timeout = c.timeout;
}

abbrev pub unit_told : Shape → UnitIn
unit_told u = record {
  id = u.id;
  size = u.size;
  media = u.media;
  serial = u.serial;
  number = u.number;
  track = u.track;
  group = u.group;
  cylinder = u.cylinder;
}

-- as many of the units as there is room for, and then what was there
abbrev pub units_told : List Shape → List UnitIn → List UnitIn
units_told us out = map unit_told (take (length out) us) ++ drop (length us) out

-- they are told, and how many units there are
abbrev pub TellsSettings : Settings → List UnitIn → ℤ → Limits → List UnitIn → Type 0
TellsSettings c before answer limits after =
    (limits ≡ limits_told c) × (after ≡ units_told c.units before) × (answer ≡ pos (length c.units))

-- which size of a unit is zero, if one is: the first in this order
abbrev pub unit_fault : UnitIn → Option UnitFault
unit_fault u =
    if nat_eq u.track 0 then Some ZeroTrack else (
    if nat_eq u.group 0 then Some ZeroGroup else (
    if nat_eq u.cylinder 0 then Some ZeroCylinder else (
    if nat_eq u.size 0 then Some ZeroSize else None)))

-- what becomes of one unit
abbrev pub UnitAnswers : UnitIn → Result Shape UnitFault → Type 0
UnitAnswers u (Ok unit) = (unit_fault u ≡ None) × (unit ≡ unit_given u)
UnitAnswers u (Err fault) = unit_fault u ≡ Some fault

-- the first fault, if there is one
abbrev pub first_of : {X : Type 0} → Option X → Option X → Option X
first_of (Some fault) rest = Some fault
first_of None rest = rest

-- the fault of the first unit that has one
abbrev pub first_fault : List UnitIn → Option UnitFault
first_fault [] = None
first_fault (u ∷ us) = first_of (unit_fault u) (first_fault us)

-- whether each number is above the one before it, and the first one above this
abbrev pub rises_above : ℕ → List UnitIn → Bool
rises_above number [] = true
rises_above number (u ∷ us) = nat_lt number u.number && rises_above u.number us

-- whether each number is above the one before it
abbrev pub numbers_rise : List UnitIn → Bool
numbers_rise [] = true
numbers_rise (u ∷ us) = rises_above u.number us

-- the fault, where this holds
abbrev pub fault_if : Bool → InitFault → Option InitFault
fault_if true fault = Some fault
fault_if false fault = None

-- why units are refused, if they are: the first that holds, in this order
abbrev pub units_fault : List UnitIn → Option InitFault
units_fault us =
    first_of (fault_if (nat_lt 16 (length us)) (faults.Units TooMany)) (
    first_of (option_map faults.Unit (first_fault us)) (
    first_of (fault_if (not (numbers_rise us)) (faults.Units NotAscending))
    (fault_if (nat_eq (length us) 0) (faults.Units Empty))))
