-- What a disk that takes its time relies on: a block that it was given by its serial is that of no other step.
use Rattle.std.specs.Prelude.{◌≡◌, ◌⊎◌, ◌+◌, ◌<◌, ◌^◌, List, [], ◌∷◌, length, Ok, Some, None}
use Rattle.mscp_queue.specs.declared.upcoming.Upcoming.{Upcoming}
use Rattle.mscp_controller.specs.Holdings.{begun_step}
use Rattle.mscp_port.specs.declared.action.Outcome.{Outcome}
use Rattle.mscp_port.specs.declared.port.Port.{Port}
use Rattle.mscp_port.specs.Calls.{GoesBy}
use Rattle.mscp_port.specs.Histories.{Answered, Call, Picking}

-- from one port to another this step is begun, before each of these calls and behind the last: so no step was told, its
-- command wasn't aborted, and the host reset nothing
abbrev pub IsBegunStill : {K : Type 0} (picks : Picking K) (u : Upcoming) (one other : Port K) (calls : List Call)
    → Answered picks one calls other → Type 0
IsBegunStill picks u one other [] a = begun_step other.controller ≡ Some u
IsBegunStill picks u one other (call ∷ earlier) a =
    (begun_step other.controller ≡ Some u) × IsBegunStill picks u one a.0 earlier a.1

-- the law of serials: a step is begun, and whoever calls the port, while its serial and the calls are together below
-- 2^64: as long as the serial given last is its own, it is begun still, or nothing is
abbrev pub PortsGiveSerialsOnce : {K : Type 0} → Picking K → Type 0
PortsGiveSerialsOnce {K} picks = (one other : Port K) (calls : List Call) (u : Upcoming)
    → one.serial + length calls < 2 ^ 64 → begun_step one.controller ≡ Some u → (a : Answered picks one calls other)
    → other.serial ≡ one.serial → IsBegunStill picks u one other calls a ⊎ (other.controller.begun ≡ None)

-- the law of blocks by serial: a block that is told to have gone by the serial with which a step was begun is of that
-- step, which is begun still; or the controller serves nothing
abbrev pub PortsHearOfTheirBlocks : {K : Type 0} → Picking K → Type 0
PortsHearOfTheirBlocks {K} picks = (one other new : Port K) (calls : List Call) (u : Upcoming) (outcome : Outcome)
    (done : Unit {0})
    → one.serial + length calls < 2 ^ 64 → begun_step one.controller ≡ Some u → (a : Answered picks one calls other)
    → GoesBy (picks other.controller.picker) one.serial outcome other (Ok done) new
    → IsBegunStill picks u one other calls a ⊎ (new.controller ≡ other.controller)
