-- Where the bytes of a block go: each block of which the controller is told that it went well was moved, at its
-- place of its own command's buffer (manual, "READ", "WRITE", "COMPARE HOST DATA").
use Rattle.std.specs.Prelude.{◌≡◌, ◌⊎◌, ◌≤◌, ◌<◌, ◌+◌, ◌-◌, ◌*◌, ℕ, List, [], ◌∷◌, min, Option, None, Some, Result, Ok}
use Rattle.mscp_packet.specs.declared.command.MoveKind.{MoveKind}
use Rattle.mscp_packet.specs.declared.command.Order.{Order}
use Rattle.mscp_packet.specs.declared.command.Order.TheVariants as orders
use Rattle.mscp_drive.specs.declared.block.Block.TheVariants as blocks
use Rattle.mscp_drive.specs.declared.connection.Connection.{Connection}
use Rattle.mscp_drive.specs.declared.connection.Connection.TheVariants.{First}
use Rattle.mscp_queue.specs.declared.report.Report.{Report}
use Rattle.mscp_queue.specs.declared.upcoming.Upcoming.{Upcoming}
use Rattle.mscp_controller.specs.declared.entry.NotBegun.{NotBegun}
use Rattle.mscp_controller.specs.Calls.{Finish}
use Rattle.mscp_controller.specs.Holdings.{Holdings, begun_step}
use Rattle.mscp_port.specs.declared.action.Action.TheVariants as actions
use Rattle.mscp_port.specs.declared.action.Outcome.{Outcome}
use Rattle.mscp_port.specs.declared.action.Outcome.TheVariants as outcomes
use Rattle.mscp_port.specs.declared.buffers.Buffer.{Buffer}
use Rattle.mscp_port.specs.declared.hardware.Hardware.{Hardware}
use Rattle.mscp_port.specs.declared.port.Port.{Port}
use Rattle.mscp_port.specs.Calls.{IsMadeOf}
use Rattle.mscp_port.specs.Histories.{Answered, Call, Picking, Went}
use Rattle.mscp_ported.specs.Kept.{WasSaid}
use Rattle.mscp_ported.specs.Making.{Makes}
use Rattle.mscp_ported.specs.Talk.{AsksAlways, Wish, wish}

-- how a command moves a block, and which, if its next step is about one
abbrev pub block_moved : Order → Option ℕ → Option (MoveKind × ℕ)
block_moved (orders.Move kind count first) (Some block) = Some (kind, block)
block_moved order lbn = None

-- this was wanted: the block of the unit is to be moved so, to or from its place of the buffer, 512 bytes behind
-- that of the block before; of the last one just the bytes that are left
pub record IsAtItsPlace (b : Buffer) (u : Upcoming) (kind : MoveKind) (block : ℕ) (w : Wish) : Type 0 where
  pub action : w.action ≡ actions.Transfer kind u.command.unit block (b.address + u.done * 512)
      (min (b.count - u.done * 512) 512)

-- the buffer has bytes for the block, which was moved: that was wanted, and was done
abbrev pub WasMoved : Buffer → Upcoming → MoveKind → ℕ → Outcome → Option Wish → Type 0
WasMoved b u kind block outcome None = ⊥
WasMoved b u kind block outcome (Some w) =
    (u.done * 512 < b.count) × (outcome ≡ outcomes.Done) × IsAtItsPlace b u kind block w

-- or it has none, and nothing was wanted but a pause
abbrev pub IsEmpty : Buffer → Upcoming → Option Wish → Type 0
IsEmpty b u None = ⊥
IsEmpty b u (Some w) = (b.count ≤ u.done * 512) × (w.action ≡ actions.Pause)

-- the law of blocks: whoever calls a port that was made over a controller, and tells of actions only after they were
-- wanted: where the controller is told that a block of a command went well, that block was moved, at its place of
-- the buffer which a message of the command's number said, to its unit; unless the buffer has no byte for it
abbrev pub PortsMoveWhatTheySay : {K : Type 0} → Picking K → Type 0
PortsMoveWhatTheySay {K} picks =
    (hardware : Hardware) (credits : ℕ) (controller : Holdings K) (start p : Port K) (calls : List Call)
    (outcome : Outcome) (done : Unit) (via : Connection) (reference : ℕ) (result : Result Report NotBegun)
    (u : Upcoming) (kind : MoveKind) (block : ℕ)
    → IsMadeOf hardware credits controller start → AsksAlways (Went outcome (Ok done) ∷ calls)
    → (a : Answered picks start (Went outcome (Ok done) ∷ calls) p)
    → Makes (Went outcome (Ok done)) a.0 p (Finish via reference blocks.Good result ∷ [])
    → begun_step a.0.controller ≡ Some u → block_moved u.command.order u.lbn ≡ Some (kind, block)
    → (b : Buffer) × (u.connection ≡ First) × WasSaid picks u.command.reference u.command.unit start a.0 calls a.1 b
    × (IsEmpty b u (wish calls) ⊎ WasMoved b u kind block outcome (wish calls))
