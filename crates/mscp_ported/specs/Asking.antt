-- Whoever always asks for blocks serves between polls.
use Rattle.std.specs.Prelude.{◌≡◌, ◌⊎◌, ◌∷◌, [], ℕ, true, List}
use Rattle.mscp_controller.specs.Holdings.{Holdings}
use Rattle.mscp_port.specs.declared.hardware.Hardware.{Hardware}
use Rattle.mscp_port.specs.declared.port.Port.{Port}
use Rattle.mscp_port.specs.Calls.{IsMadeOf}
use Rattle.mscp_port.specs.Histories.{Answered, Call, Next, Picking}
use Rattle.mscp_ported.specs.Passing.{IsServedSince, ServesBetweenPolls}

-- each time that somebody asks what is wanted next, blocks are asked for
abbrev pub AsksForBlocks : List Call → Type 0
AsksForBlocks [] = Unit {0}
AsksForBlocks (Next blocks action bytes ∷ earlier) = (blocks ≡ true) × AsksForBlocks earlier
AsksForBlocks (call ∷ earlier) = AsksForBlocks earlier

-- the law of service: a port was made over a controller. Whoever calls it, and whatever is told of actions: if blocks
-- are asked for each time, then between any two polls about one command, as the controller took them, a step was told,
-- or the command waits no more
abbrev pub PortsServeWhoAsksForBlocks : {K : Type 0} → Picking K → Type 0
PortsServeWhoAsksForBlocks {K} picks =
    (hardware : Hardware) (credits : ℕ) (controller : Holdings K) (start p : Port K) (calls : List Call)
    → IsMadeOf hardware credits controller start → AsksForBlocks calls → (a : Answered picks start calls p)
    → ServesBetweenPolls picks start p calls a

-- or messages alone, but only where since each poll that was taken a step was told: so may who is at a block, until a
-- poll is taken
abbrev pub AsksBehindPolls : {K : Type 0} (picks : Picking K) (start p : Port K) (calls : List Call)
    → Answered picks start calls p → Type 0
AsksBehindPolls picks start p [] a = Unit {0}
AsksBehindPolls picks start p (Next blocks action bytes ∷ earlier) a =
    ((blocks ≡ true) ⊎ ((number : ℕ) → IsServedSince picks start a.0 earlier a.1 number))
    × AsksBehindPolls picks start a.0 earlier a.1
AsksBehindPolls picks start p (call ∷ earlier) a = AsksBehindPolls picks start a.0 earlier a.1

-- the law of service behind polls: of such a port: the same
abbrev pub PortsServeWhoAsksBehindPolls : {K : Type 0} → Picking K → Type 0
PortsServeWhoAsksBehindPolls {K} picks =
    (hardware : Hardware) (credits : ℕ) (controller : Holdings K) (start p : Port K) (calls : List Call)
    → IsMadeOf hardware credits controller start → (a : Answered picks start calls p)
    → AsksBehindPolls picks start p calls a → ServesBetweenPolls picks start p calls a
