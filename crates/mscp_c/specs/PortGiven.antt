-- What a program in C gives for a port, and what is made of it.
use Rattle.std.specs.Prelude.{ℕ, ◌%◌, ◌==◌, not, nat_eq, nat_lt, if◌then◌else◌, Option, Some, None, option_map}
use Rattle.mscp_port.specs.declared.action.Outcome.{Outcome}
use Rattle.mscp_port.specs.declared.action.Outcome.TheVariants as outcomes
use Rattle.mscp_port.specs.declared.hardware.Bus.{Bus}
use Rattle.mscp_port.specs.declared.hardware.Bus.TheVariants as buses
use Rattle.mscp_port.specs.declared.hardware.Hardware.{Hardware}
use Rattle.mscp_port.specs.declared.volumes.Medium.{Medium}
use Rattle.mscp_c.specs.declared.port_given.HardwareIn.{HardwareIn}
use Rattle.mscp_c.specs.declared.port_given.MediumIn.{MediumIn}

-- the bus of this number, if it is one
abbrev pub bus_given : ℕ → Option Bus
bus_given number =
    if nat_eq number 0 then Some buses.Q else (if nat_eq number 1 then Some buses.Uni else None)

-- the hardware of these numbers, if its bus is one
abbrev pub hardware_on : HardwareIn → Bus → Hardware
hardware_on h bus = record { bus = bus; model = h.model; software = h.software; version = h.version }

abbrev pub hardware_given : HardwareIn → Option Hardware
hardware_given h = option_map (hardware_on h) (bus_given h.bus)

-- a block that couldn't be moved, if this is the status of one
abbrev pub fault_given : ℕ → Option Outcome
fault_given status = if nat_lt (status % 32) 5 then None else Some (outcomes.Failed status)

-- how an action went, by this number, and by this status where its block couldn't be moved
abbrev pub outcome_given : ℕ → ℕ → Option Outcome
outcome_given number status =
    if nat_eq number 0 then Some outcomes.Done else (
    if nat_eq number 1 then Some outcomes.Missing else (
    if nat_eq number 2 then Some outcomes.Parity else (
    if nat_eq number 3 then Some outcomes.Unmapped else (
    if nat_eq number 4 then Some outcomes.Different else (
    if nat_eq number 5 then fault_given status else None)))))

-- what is put into a unit. A flag holds where it isn't 0
abbrev pub medium_given : MediumIn → Medium
medium_given g = record {
  size = g.size;
  media = g.media;
  is_protected = not (g.is_protected == 0);
  is_removable = not (g.is_removable == 0);
}
