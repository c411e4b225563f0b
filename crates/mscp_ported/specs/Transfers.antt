-- For which blocks the end of a transfer stands: each was wanted and told done, one behind the other, at its place of
-- the buffer that the command's own message named (manual, "READ", "WRITE", "COMPARE HOST DATA").
use Rattle.std.specs.Prelude.{◌≡◌, ◌+◌, ◌-◌, ◌*◌, ◌==◌, ◌&&◌, ◌++◌, ◌∷◌, [], ℕ, zero, suc, Bool, true, false, if◌then◌else◌, find, is_none, min, slice_index, List, Contains, Option, None, Some, Result, Ok, Err}
use Rattle.mscp_packet.specs.Number.{num}
use Rattle.mscp_packet.specs.Opcodes.{move_byte}
use Rattle.mscp_packet.specs.Statuses as statuses
use Rattle.mscp_packet.specs.declared.command.MoveKind.{MoveKind}
use Rattle.mscp_packet.specs.declared.command.Order.TheVariants as orders
use Rattle.mscp_packet.specs.declared.end.End.{End}
use Rattle.mscp_packet.specs.declared.end.EndBody.TheVariants as bodies
use Rattle.mscp_drive.specs.Extent.{blocks as blocks_in}
use Rattle.mscp_drive.specs.declared.block.Block.TheVariants as blocks
use Rattle.mscp_drive.specs.declared.connection.Connection.{Connection}
use Rattle.mscp_drive.specs.declared.connection.Connection.TheVariants.{First}
use Rattle.mscp_queue.specs.Names.{name_on, same_connection}
use Rattle.mscp_queue.specs.Records.{Record, has_name}
use Rattle.mscp_queue.specs.declared.report.Report.{Report}
use Rattle.mscp_queue.specs.declared.upcoming.Upcoming.{Upcoming}
use Rattle.mscp_controller.specs.Calls.{Finish}
use Rattle.mscp_controller.specs.declared.entry.NotBegun.{NotBegun}
use Rattle.mscp_controller.specs.Holdings.{Holdings, answer_to_message, begun_step}
use Rattle.mscp_controller.specs.declared.entry.SendFault.{SendFault}
use Rattle.mscp_controller.specs.declared.entry.Sent.{Sent}
use Rattle.mscp_controller.specs.declared.entry.Sent.TheVariants as sents
use Rattle.mscp_port.specs.declared.action.Action.{Action}
use Rattle.mscp_port.specs.declared.action.Action.TheVariants as actions
use Rattle.mscp_port.specs.declared.action.Outcome.{Outcome}
use Rattle.mscp_port.specs.declared.action.Outcome.TheVariants as outcomes
use Rattle.mscp_port.specs.declared.buffers.Buffer.{Buffer}
use Rattle.mscp_port.specs.declared.hardware.Hardware.{Hardware}
use Rattle.mscp_port.specs.declared.port.Port.{Port}
use Rattle.mscp_port.specs.declared.task.Task.{Task}
use Rattle.mscp_port.specs.declared.task.Task.TheVariants as tasks
use Rattle.mscp_port.specs.Calls.{IsMadeOf}
use Rattle.mscp_port.specs.Histories.{Answered, Call, Picking, WasRead, Went}
use Rattle.mscp_ported.specs.Answers.{asks_nothing, own_answer, text_handed, volume_named}
use Rattle.mscp_ported.specs.Ends.{come}
use Rattle.mscp_ported.specs.Making.{Makes}
use Rattle.mscp_ported.specs.Moved.{block_moved}
use Rattle.mscp_ported.specs.Talk.{AsksAlways, Wish, wish}

-- ---- the message of a command

abbrev pub is_queued_so : Result Sent SendFault → Bool
is_queued_so (Ok (sents.Queued reference)) = true
is_queued_so (Ok (sents.Answered reference aborted)) = false
is_queued_so (Err fault) = false

-- the text that is read is that of a command which the controller puts into its queue
abbrev pub is_queued_text : {K : Type 0} → Port K → List ℕ → Task → Bool
is_queued_text old b (tasks.Text slot size foreign) =
    is_none (own_answer foreign (volume_named old b) b)
    && is_queued_so (answer_to_message First old.controller (text_handed old.controller.settings.units b))
is_queued_text old b task = false

-- by a call the command of this number comes
abbrev pub comes : {K : Type 0} → ℕ → Call → Port K → Bool
comes number (WasRead bytes (Ok done)) old = num bytes 0 4 == number && is_queued_text old bytes old.task
comes number call old = false

abbrev pub text_of : Call → List ℕ
text_of (WasRead bytes result) = bytes
text_of call = []

-- the message by which the command of this number came, the last one of that number
abbrev pub asked : {K : Type 0} (picks : Picking K) (number : ℕ) (start p : Port K) (calls : List Call)
    → Answered picks start calls p → Option (List ℕ)
asked picks number start p [] a = None
asked picks number start p (call ∷ earlier) a =
    if comes number call a.0 then Some (text_of call) else asked picks number start a.0 earlier a.1

-- ---- its blocks

-- a step is of the command of this number that came for the host
abbrev pub is_step_of : ℕ → Option Upcoming → Bool
is_step_of number None = false
is_step_of number (Some u) = same_connection u.connection First && u.command.reference == number

abbrev pub is_done : Outcome → Bool
is_done outcomes.Done = true
is_done outcome = false

abbrev pub is_moving : Task → Bool
is_moving tasks.Transfer = true
is_moving task = false

abbrev pub wanted : Option Wish → List Action
wanted None = []
wanted (Some w) = w.action ∷ []

-- by a call it is told that the block was moved which was wanted for the command of this number
abbrev pub done_by : {K : Type 0} → ℕ → Call → Option Wish → Port K → List Action
done_by number (Went outcome (Ok done)) w old =
    if is_done outcome && is_moving old.task && is_step_of number (begun_step old.controller) then wanted w else []
done_by number call w old = []

-- what was wanted for the command of this number since it came, and was told done, the first one first
abbrev pub moved : {K : Type 0} (picks : Picking K) (number : ℕ) (start p : Port K) (calls : List Call)
    → Answered picks start calls p → List Action
moved picks number start p [] a = []
moved picks number start p (call ∷ earlier) a =
    if comes number call a.0 then []
    else moved picks number start a.0 earlier a.1 ++ done_by number call (wish earlier) a.0

-- so many blocks of a transfer, from its first one on: each at its place of the buffer, of the last one the bytes that
-- are left
abbrev pub transfers : MoveKind → ℕ → ℕ → ℕ → ℕ → ℕ → List Action
transfers kind unit first address count zero = []
transfers kind unit first address count (suc n) =
    transfers kind unit first address count n
    ++ actions.Transfer kind unit (first + n) (address + n * 512) (min (count - n * 512) 512) ∷ []

-- ---- the law

-- the end says Success, and stands for all blocks that this message asks for, which were moved
pub record StandsFor {K : Type 0} (picks : Picking K) (e : End) (kind : MoveKind) (start p : Port K)
    (calls : List Call) (a : Answered picks start calls p) (b : List ℕ) : Type 0 where
  pub message : asked picks e.reference start p calls a ≡ Some b
  pub unit : num b 4 2 ≡ e.unit
  pub opcode : slice_index b 8 ≡ move_byte kind
  pub moves : moved picks e.reference start p calls a
      ≡ transfers kind e.unit (num b 28 4) (num b 16 4) (num b 12 4) (blocks_in (num b 12 4))
  pub status : e.status ≡ statuses.success
  pub count : e.body ≡ bodies.Moved (num b 12 4)

-- the law of transfers: whoever calls a port that was made over a controller, and tells of actions only after they were
-- wanted: where the controller is told that a block of a transfer went well, and by that its end comes, the end says
-- Success and each block of the transfer was moved
abbrev pub PortsMoveEachBlock : {K : Type 0} → Picking K → Type 0
PortsMoveEachBlock {K} picks =
    (hardware : Hardware) (credits : ℕ) (controller : Holdings K) (start p : Port K) (calls : List Call)
    (outcome : Outcome) (done : Unit) (via : Connection) (reference : ℕ) (result : Result Report NotBegun)
    (u : Upcoming) (kind : MoveKind) (block : ℕ) (e : End) → IsMadeOf hardware credits controller start
    → AsksAlways (Went outcome (Ok done) ∷ calls) → (a : Answered picks start (Went outcome (Ok done) ∷ calls) p)
    → Makes (Went outcome (Ok done)) a.0 p (Finish via reference blocks.Good result ∷ [])
    → begun_step a.0.controller ≡ Some u → block_moved u.command.order u.lbn ≡ Some (kind, block)
    → Contains (come a.0 p) e → (b : List ℕ) × StandsFor picks e kind start p (Went outcome (Ok done) ∷ calls) a b

-- ---- the law of counts

-- the end counts just the bytes of these blocks, so many from the first one on, which were moved
pub record Counts {K : Type 0} (picks : Picking K) (e : End) (kind : MoveKind) (start p : Port K)
    (calls : List Call) (a : Answered picks start calls p) (b : List ℕ) (n : ℕ) : Type 0 where
  pub message : asked picks e.reference start p calls a ≡ Some b
  pub moves : moved picks e.reference start p calls a
      ≡ transfers kind e.unit (num b 28 4) (num b 16 4) (num b 12 4) n
  pub count : e.body ≡ bodies.Moved (min (num b 12 4) (512 * n))

-- the law of counts: of such a port: where the end of a transfer comes by a step, of whose message the port keeps where
-- its data are, it counts just the blocks that were moved. A command that asks nothing of a disk is no transfer
abbrev pub PortsCountWhatTheyMoved : {K : Type 0} → Picking K → Type 0
PortsCountWhatTheyMoved {K} picks =
    (hardware : Hardware) (credits : ℕ) (controller : Holdings K) (start p : Port K) (calls : List Call)
    (outcome : Outcome) (done : Unit) (u : Upcoming) (kind : MoveKind) (count first : ℕ) (kept : Buffer) (e : End)
    → IsMadeOf hardware credits controller start → AsksAlways (Went outcome (Ok done) ∷ calls)
    → (a : Answered picks start (Went outcome (Ok done) ∷ calls) p) → begun_step a.0.controller ≡ Some u
    → u.command.order ≡ orders.Move kind count first → Contains a.0.buffers.items kept
    → asks_nothing kept.opcode ≡ false → kept.reference ≡ e.reference
    → Contains (come a.0 p) e
    → (b : List ℕ) × (n : ℕ) × Counts picks e kind start p (Went outcome (Ok done) ∷ calls) a b n

-- ---- the law of aborts

-- of such a port: where the end of a transfer that waits comes by a message, which aborted it, it counts just the
-- blocks that were moved, if the port keeps where its data are
abbrev pub PortsCountWhatWasAborted : {K : Type 0} → Picking K → Type 0
PortsCountWhatWasAborted {K} picks =
    (hardware : Hardware) (credits : ℕ) (controller : Holdings K) (start p : Port K) (calls : List Call)
    (bytes : List ℕ) (done : Unit) (r : Record) (kind : MoveKind) (count first : ℕ) (kept : Buffer) (e : End)
    → IsMadeOf hardware credits controller start → AsksAlways (WasRead bytes (Ok done) ∷ calls)
    → (a : Answered picks start (WasRead bytes (Ok done) ∷ calls) p)
    → find (has_name (name_on First e.reference)) a.0.controller.waiting ≡ Some r
    → r.command.order ≡ orders.Move kind count first → Contains a.0.buffers.items kept
    → asks_nothing kept.opcode ≡ false → kept.reference ≡ e.reference → Contains (come a.0 p) e
    → (b : List ℕ) × (n : ℕ) × Counts picks e kind start p (WasRead bytes (Ok done) ∷ calls) a b n
