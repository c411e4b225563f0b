-- What comes to a port from elsewhere than its host: a look again, a second, and what becomes of a volume.
use Rattle.std.specs.Prelude.{◌≡◌, ◌≢◌, ◌<◌, ◌-◌, ◌⊎◌, ◌↔◌, ℕ, false, length, IsErr, IsOk, OnErr, Result, Option, None, Some}
use Rattle.mscp_drive.specs.declared.connection.Connection.TheVariants.{First}
use Rattle.mscp_drive.specs.Both.{of}
use Rattle.mscp_controller.specs.Holdings.{waiting_on}
use Rattle.mscp_port.specs.declared.port.Port.{Port}
use Rattle.mscp_port.specs.declared.port.watching.NoUnit.{NoUnit}
use Rattle.mscp_port.specs.declared.stage.Stage.TheVariants as stages
use Rattle.mscp_port.specs.declared.task.Task.{Task}
use Rattle.mscp_port.specs.declared.task.Task.TheVariants as tasks
use Rattle.mscp_port.specs.declared.volumes.Medium.{Medium}
use Rattle.mscp_port.specs.declared.volumes.Volume.{Volume}
use Rattle.mscp_port.specs.declared.volumes.VolumeFault.{VolumeFault}
use Rattle.mscp_drive.specs.UnitList.{unit_found}
use Rattle.mscp_port.specs.Ports.{IsAsNew, seconds}
use Rattle.mscp_port.specs.Volumes.{medium_answer, place_in, volume_put, volumes_with}
use Rattle.mscp_port.specs.Calls.{read_again}

-- the ring of responses is to be looked at again
abbrev pub LooksAgain : {K : Type 0} → Port K → Port K → Type 0
LooksAgain old new = new ≡ record old { is_full = false; task = read_again old.task }

-- the rings are in use, the host is to be heard within some time, and nothing is to be done for it
pub record IsQuiet {K : Type 0} (p : Port K) : Type 0 where
  pub up : p.stage ≡ stages.Up
  pub limit : p.timeout ≢ 0
  pub outgoing : p.outgoing ≡ None
  pub waiting : length (waiting_on First p.controller.waiting) ≡ 0
  pub untaken : length (of First p.controller.untaken) ≡ 0

-- a second went by: the ring of responses is looked at again, and where it is quiet the seconds are counted off. A host
-- that was silent for too long is taken for dead
pub record Ticks {K : Type 0} (old new : Port K) : Type 0 where
  pub counts : IsQuiet old → 0 < old.left
      → new ≡ record old { is_full = false; task = read_again old.task; left = old.left - 1 }
  pub silent : IsQuiet old → old.left ≡ 0 → IsAsNew (stages.Dead 9) old new
  pub busy : (IsQuiet old → ⊥)
      → new ≡ record old { is_full = false; task = read_again old.task; left = seconds old }
  pub either : (new ≡ record old { is_full = false; task = read_again old.task; left = new.left })
      ⊎ IsAsNew (stages.Dead 9) old new

-- what becomes of a step in hand where a volume changes: it is taken in hand anew
abbrev pub step_again : Task → Task
step_again (tasks.Step verdict) = tasks.Free
step_again tasks.Transfer = tasks.Free
step_again task = task

-- that of the unit at a place, if there is such a unit
abbrev pub step_at : Option ℕ → Task → Task
step_at None task = task
step_at (Some place) task = step_again task

-- the volume in the unit of this number became what this makes of it
abbrev pub ChangesVolume : {K : Type 0} → (Volume → Volume) → ℕ → Port K → Port K → Type 0
ChangesVolume becomes unit old new = new ≡ record old {
  volumes = volumes_with becomes (place_in old.controller.settings.units unit) old.volumes;
  task = step_at (place_in old.controller.settings.units unit) old.task;
}

-- this came into the unit of this number, if it fits there
pub record PutsIn {K : Type 0} (m : Medium) (unit : ℕ) (old : Port K) (result : Result Unit VolumeFault) (new : Port K)
    : Type 0 where
  pub answer : result ≡ medium_answer m (unit_found old.controller.settings.units unit)
  pub came : IsOk result → ChangesVolume (volume_put m) unit old new
  pub refused : OnErr result (new ≡ old)

-- the volume of the unit of this number went, or its protection was switched, if there is such a unit
pub record Changes {K : Type 0} (becomes : Volume → Volume) (unit : ℕ) (old : Port K) (result : Result Unit NoUnit)
    (new : Port K) : Type 0 where
  pub frame : ChangesVolume becomes unit old new
  pub no_unit : IsErr result ↔ (place_in old.controller.settings.units unit ≡ None)
