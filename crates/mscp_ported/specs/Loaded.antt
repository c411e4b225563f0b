-- Which volumes are in the units, as the list of what was called of a port tells, and that blocks are moved on these
-- alone.
use Rattle.std.specs.Prelude.{◌≡◌, ◌<◌, ℕ, ◌==◌, Bool, true, false, if◌then◌else◌, List, [], ◌∷◌, Ok}
use Rattle.mscp_packet.specs.declared.command.MoveKind.{MoveKind}
use Rattle.mscp_controller.specs.Holdings.{Holdings}
use Rattle.mscp_port.specs.declared.action.Action.TheVariants as actions
use Rattle.mscp_port.specs.declared.hardware.Hardware.{Hardware}
use Rattle.mscp_port.specs.declared.port.Port.{Port}
use Rattle.mscp_port.specs.Blocks.{writes}
use Rattle.mscp_port.specs.Calls.{IsMadeOf}
use Rattle.mscp_port.specs.Histories.{Answered, Picking, Call, Next, Protect, VolumeCame, VolumeWent}

-- whether a volume is in the unit of this number, as was told last. At first there is none
abbrev pub is_loaded : ℕ → List Call → Bool
is_loaded unit [] = false
is_loaded unit (VolumeCame m other (Ok done) ∷ earlier) = if other == unit then true else is_loaded unit earlier
is_loaded unit (VolumeWent other result ∷ earlier) = if other == unit then false else is_loaded unit earlier
is_loaded unit (call ∷ earlier) = is_loaded unit earlier

-- whether nothing may be written on it
abbrev pub is_locked : ℕ → List Call → Bool
is_locked unit [] = false
is_locked unit (VolumeCame m other (Ok done) ∷ earlier) =
    if other == unit then m.is_protected else is_locked unit earlier
is_locked unit (Protect protected other result ∷ earlier) =
    if other == unit then protected else is_locked unit earlier
is_locked unit (call ∷ earlier) = is_locked unit earlier

-- and how many blocks what was put into it last has
abbrev pub blocks_in : ℕ → List Call → ℕ
blocks_in unit [] = 0
blocks_in unit (VolumeCame m other (Ok done) ∷ earlier) = if other == unit then m.size else blocks_in unit earlier
blocks_in unit (call ∷ earlier) = blocks_in unit earlier

-- the law of volumes: whoever calls a port that was made over a controller, a block is moved only where a volume is in
-- its unit that has this block, and one that is written or erased only where that isn't protected
abbrev pub PortsMoveOnVolumes : {K : Type 0} → Picking K → Type 0
PortsMoveOnVolumes {K} picks =
    (hardware : Hardware) (credits : ℕ) (controller : Holdings K) (start p : Port K) (calls : List Call)
    (blocks : Bool) (kind : MoveKind) (unit block address count : ℕ) (bytes : List ℕ)
    → IsMadeOf hardware credits controller start
    → Answered picks start (Next blocks (actions.Transfer kind unit block address count) bytes ∷ calls) p
    → (is_loaded unit calls ≡ true) × (writes kind ≡ true → is_locked unit calls ≡ false)
    × (block < blocks_in unit calls)
