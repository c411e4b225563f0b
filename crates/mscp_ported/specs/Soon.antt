-- That an end begins to go out to a host soon, and that what goes out is told soon.
use Rattle.std.specs.Prelude.{None, ◌≡◌, ◌≢◌, ◌*◌, ◌⊎◌, ◌≤◌, ◌<◌, ◌+◌, length, ◌∷◌, [], ℕ, true, List, Some, Ok}
use Rattle.mscp_packet.specs.Number.{num}
use Rattle.mscp_drive.specs.Both.{of}
use Rattle.mscp_drive.specs.declared.connection.Connection.TheVariants.{First}
use Rattle.mscp_controller.specs.Holdings.{Holdings}
use Rattle.mscp_port.specs.declared.hardware.Hardware.{Hardware}
use Rattle.mscp_port.specs.declared.port.Outgoing.{Outgoing}
use Rattle.mscp_port.specs.declared.port.Port.{Port}
use Rattle.mscp_port.specs.declared.rings.Side.TheVariants.{Responses}
use Rattle.mscp_port.specs.declared.stage.Stage.TheVariants as stages
use Rattle.mscp_port.specs.declared.task.Task.{Task}
use Rattle.mscp_port.specs.declared.task.Task.TheVariants as tasks
use Rattle.mscp_port.specs.Calls.{IsMadeOf}
use Rattle.mscp_ported.specs.Departures.{gone}
use Rattle.mscp_port.specs.Histories.{Answered, Call, LookAgain, Picking, ReadIp, Tick, WasRead, Went, WriteIp}
use Rattle.mscp_ported.specs.Rings.{is_ports}
use Rattle.mscp_ported.specs.Talk.{AsksAlways}

-- how many actions were done by these calls: what was wanted was read, or it was told how it went
abbrev pub acts : List Call → ℕ
acts [] = 0
acts (WasRead bytes (Ok done) ∷ earlier) = acts earlier + 1
acts (Went outcome (Ok done) ∷ earlier) = acts earlier + 1
acts (call ∷ earlier) = acts earlier

-- if these bytes are a slot of the ring of responses, its descriptor says that it is the port's
abbrev pub IsGiven : Task → Call → Type 0
IsGiven (tasks.Slot Responses) (WasRead bytes (Ok done)) = is_ports (num bytes 0 4) ≡ true
IsGiven task call = Unit {0}

-- the host gives slots back: so it is each time that one is read
abbrev pub AreGiven : {K : Type 0} (picks : Picking K) (p q : Port K) (calls : List Call)
    → Answered picks p calls q → Type 0
AreGiven picks p q [] a = Unit {0}
AreGiven picks p q (call ∷ earlier) a = IsGiven a.0.task call × AreGiven picks p a.0 earlier a.1

-- and it has done so since all was forgotten last, or since the port was to look at its rings last: by a read of IP
-- while they are in use, as it was told to look again, or as a second went by
abbrev pub HasRoom : {K : Type 0} (picks : Picking K) (start p : Port K) (calls : List Call)
    → Answered picks start calls p → Type 0
HasRoom picks start p [] a = Unit {0}
HasRoom picks start p (WriteIp ∷ earlier) a = Unit {0}
HasRoom picks start p (LookAgain ∷ earlier) a = Unit {0}
HasRoom picks start p (Tick ∷ earlier) a = Unit {0}
HasRoom picks start p (ReadIp ∷ earlier) a = (a.0.stage ≡ stages.Up) ⊎ HasRoom picks start a.0 earlier a.1
HasRoom picks start p (call ∷ earlier) a = IsGiven a.0.task call × HasRoom picks start a.0 earlier a.1

-- the law of delay: a port was made over a controller, its holder told of actions only after they were wanted, and its
-- host gives slots back. What goes out then is gone after ten actions, whatever else is called: its slot was given
-- back, or all was forgotten
abbrev pub PortsTellSoon : {K : Type 0} → Picking K → Type 0
PortsTellSoon {K} picks =
    (hardware : Hardware) (credits : ℕ) (controller : Holdings K) (start p q : Port K) (before calls : List Call)
    (o : Outgoing) → IsMadeOf hardware credits controller start → AsksAlways before
    → (b : Answered picks start before p) → HasRoom picks start p before b → p.stage ≡ stages.Up → p.outgoing ≡ Some o
    → (a : Answered picks p calls q) → AreGiven picks p q calls a → 10 ≤ acts calls
    → (more : List Outgoing) × (gone picks p q calls a ≡ o ∷ more)

-- ---- what waits

-- something goes out to the host, or an end waits for it
abbrev pub HasToTell : {K : Type 0} → Port K → Type 0
HasToTell p = (p.outgoing ≢ None) ⊎ (0 < length (of First p.controller.untaken))

-- so it is before each of these calls, and behind them
abbrev pub HaveToTell : {K : Type 0} (picks : Picking K) (p q : Port K) (calls : List Call)
    → Answered picks p calls q → Type 0
HaveToTell picks p q [] a = HasToTell q
HaveToTell picks p q (call ∷ earlier) a = HasToTell q × HaveToTell picks p a.0 earlier a.1

-- the law of news: of such a port: while there is something to tell, one thing is gone for each seventeen actions
abbrev pub PortsKeepTelling : {K : Type 0} → Picking K → Type 0
PortsKeepTelling {K} picks =
    (hardware : Hardware) (credits : ℕ) (controller : Holdings K) (start p q : Port K) (before calls : List Call)
    → IsMadeOf hardware credits controller start → AsksAlways before
    → (b : Answered picks start before p) → HasRoom picks start p before b → p.stage ≡ stages.Up
    → (a : Answered picks p calls q) → AreGiven picks p q calls a → HaveToTell picks p q calls a
    → acts calls ≤ 17 * (length (gone picks p q calls a) + 1)
