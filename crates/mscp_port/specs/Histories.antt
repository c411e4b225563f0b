-- What somebody calls of a port, one call after the other.
use Rattle.std.specs.Prelude.{◌≡◌, ℕ, Bool, false, List, [], ◌∷◌, Result}
use Rattle.mscp_port.specs.declared.action.Action.{Action}
use Rattle.mscp_port.specs.declared.action.Outcome.{Outcome}
use Rattle.mscp_port.specs.declared.action.Unasked.{Unasked}
use Rattle.mscp_queue.specs.declared.view.Choice.{Choice}
use Rattle.mscp_port.specs.declared.port.Port.{Port}
use Rattle.mscp_port.specs.declared.port.watching.NoUnit.{NoUnit}
use Rattle.mscp_port.specs.declared.volumes.Medium.{Medium}
use Rattle.mscp_port.specs.declared.volumes.VolumeFault.{VolumeFault}
use Rattle.mscp_port.specs.Volumes.{volume_changed, volume_protected}
use Rattle.mscp_port.specs.Calls.{Goes, Hears, ReadsIp, Wants, WritesIp, WritesSa}
use Rattle.mscp_port.specs.Watching.{Changes, LooksAgain, PutsIn, Ticks}
use Rattle.mscp_port.specs.Ports.{put_aside}
use Rattle.mscp_port.specs.Wanted.{bytes_wanted}

-- ---- calls

-- a call of a port, and what was answered to it. A look at SA is none of them: it changes nothing
pub data Call : Type 0 where
  WriteIp : Call
  ReadIp : Call
  WriteSa : ℕ → Call
  -- whether blocks were asked for, or messages alone, the action that was wanted, and the bytes that it writes
  Next : Bool → Action → List ℕ → Call
  -- the block in hand is put aside, as each time before messages alone are asked for
  PutAside : Call
  -- the bytes that were read
  WasRead : List ℕ → Result Unit Unasked → Call
  -- how an action went
  Went : Outcome → Result Unit Unasked → Call
  LookAgain : Call
  Tick : Call
  -- what was put into a unit, and its number
  VolumeCame : Medium → ℕ → Result Unit VolumeFault → Call
  VolumeWent : ℕ → Result Unit NoUnit → Call
  -- nothing may be written on a volume, or something may, and the number of its unit
  Protect : Bool → ℕ → Result Unit NoUnit → Call

-- how each of these pickers picks
abbrev pub Picking : Type 0 → Type 1
Picking K = K → List Choice → ℕ → Type 0

-- what becomes of a port by a call
abbrev pub Becomes : {K : Type 0} → Picking K → Call → Port K → Port K → Type 0
Becomes picks WriteIp old new = WritesIp old new
Becomes picks ReadIp old new = ReadsIp old new
Becomes picks (WriteSa word) old new = WritesSa word old new
Becomes picks (Next blocks action bytes) old new =
    Wants (picks old.controller.picker) blocks old action new × (bytes ≡ bytes_wanted new new.task)
Becomes picks PutAside old new = new ≡ put_aside old
Becomes picks (WasRead bytes result) old new = Hears bytes old result new
Becomes picks (Went outcome result) old new = Goes (picks old.controller.picker) outcome old result new
Becomes picks LookAgain old new = LooksAgain old new
Becomes picks Tick old new = Ticks old new
Becomes picks (VolumeCame m unit result) old new = PutsIn m unit old result new
Becomes picks (VolumeWent unit result) old new = Changes (volume_changed false) unit old result new
Becomes picks (Protect protected unit result) old new = Changes (volume_protected protected) unit old result new

-- a history, the last call first: from a port at its start on, each call answered as its contract says, up to this one
abbrev pub Answered : {K : Type 0} → Picking K → Port K → List Call → Port K → Type 0
Answered picks start [] p = p ≡ start
Answered picks start (call ∷ earlier) p =
    (before : Port _) × Answered picks start earlier before × Becomes picks call before p
