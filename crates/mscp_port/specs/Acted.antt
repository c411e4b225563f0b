-- What follows an action that isn't a read, and a read that failed.
use Rattle.std.specs.Prelude.{◌≡◌, ◌≢◌, ◌≤◌, ◌<◌, ℕ, ◌+◌, ◌-◌, ◌*◌, ◌%◌, ◌/◌, ◌==◌, ◌&&◌, not, Bool, false, if◌then◌else◌, MatchOption, None}
use Rattle.mscp_port.specs.declared.action.Outcome.{Outcome}
use Rattle.mscp_port.specs.declared.action.Outcome.TheVariants as outcomes
use Rattle.mscp_port.specs.declared.port.Port.{Port}
use Rattle.mscp_port.specs.declared.rings.Side.{Side}
use Rattle.mscp_port.specs.declared.rings.Side.TheVariants.{Responses, Commands}
use Rattle.mscp_port.specs.declared.slot.Descriptor.{Descriptor}
use Rattle.mscp_port.specs.declared.stage.Stage.TheVariants as stages
use Rattle.mscp_port.specs.declared.task.Task.{Task}
use Rattle.mscp_port.specs.declared.task.Task.TheVariants as tasks
use Rattle.mscp_port.specs.Areas.{Rings, end_of, slots_of, start_of}
use Rattle.mscp_port.specs.Packets.{credits_told}
use Rattle.mscp_port.specs.Ports.{IsAsNew}
use Rattle.mscp_port.specs.Slots.{is_flagged}

-- the vector by which the host is interrupted: the low seven bits of its first word, times four; and 0 if it isn't
abbrev pub vector_in : ℕ → ℕ
vector_in first = first % 0x80 * 4

-- what is in hand at a new step of the initialisation: an interrupt, if bit 7 of the host's first word asks for it
abbrev pub step_task : ℕ → Task → Task
step_task first task =
    if first / 0x80 % 2 == 1 && not (vector_in first == 0) then tasks.Interrupt else task

-- ---- the communication area

-- a part of the area was cleared, behind so many bytes: the next one comes, or the last step of the initialisation
pub record Clears {K : Type 0} (outcome : Outcome) (r : Rings) (done : ℕ) (old new : Port K) : Type 0 where
  pub missing : outcome ≢ outcomes.Done → IsAsNew (stages.Dead 7) old new
  pub on : outcome ≡ outcomes.Done → start_of r (old.words.second % 2 == 1) + (done + 64) < end_of r
      → new ≡ record old { task = tasks.Clear (done + 64) }
  pub last : outcome ≡ outcomes.Done → end_of r ≤ start_of r (old.words.second % 2 == 1) + (done + 64)
      → new ≡ record old { stage = stages.Last; task = step_task old.words.first tasks.Free }

-- ---- slots that are given back

-- a slot of a ring is counted; what went out is gone, so a command may go on that waited for it
abbrev pub counted : {K : Type 0} → Side → Port K → Port K
counted Responses p = record p { responses = (p.responses + 1) % 256; outgoing = None; is_stalled = false }
counted Commands p = record p { commands = (p.commands + 1) % 256 }

-- the host hears of a slot whose flag was set: of one in a ring of one at once, of another after a look at the slot
-- in front
abbrev pub hears_of : Rings → Side → Descriptor → Task
hears_of r side slot =
    if not (is_flagged slot.word) then tasks.Free
    else if slots_of r side == 1 then tasks.Word side
    else tasks.Neighbour side

-- a slot was given back
pub record GivesBack {K : Type 0} (outcome : Outcome) (r : Rings) (side : Side) (slot : Descriptor) (old new : Port K)
    : Type 0 where
  pub missing : outcome ≢ outcomes.Done → IsAsNew (stages.Dead 7) old new
  pub done : outcome ≡ outcomes.Done → new ≡ record (counted side old) { task = hears_of r side slot }

-- a packet was written: the credits in it are told, and its slot is to be given back
pub record WritesOut {K : Type 0} (outcome : Outcome) (slot : Descriptor) (old new : Port K) : Type 0 where
  pub missing : outcome ≢ outcomes.Done → IsAsNew (stages.Dead 2) old new
  pub done : outcome ≡ outcomes.Done → new ≡ record old {
    untold = old.untold - (credits_told old - 1);
    task = tasks.Return Responses slot;
  }

-- ---- all

-- what follows for what is in hand, but for steps of the initialisation and for blocks
pub record Acts {K : Type 0} (outcome : Outcome) (old new : Port K) : Type 0 where
  -- a ring that can't be read, and a packet that can't
  pub slot : (side : Side) → old.task ≡ tasks.Slot side → IsAsNew (stages.Dead 6) old new
  pub neighbour : (side : Side) → old.task ≡ tasks.Neighbour side → IsAsNew (stages.Dead 6) old new
  pub header : (slot : Descriptor) → old.task ≡ tasks.Header slot → IsAsNew (stages.Dead 1) old new
  pub text : (slot : Descriptor) (size : ℕ) (foreign : Bool) → old.task ≡ tasks.Text slot size foreign
      → IsAsNew (stages.Dead 1) old new
  -- the area, a packet, a slot: without rings there is none
  pub clear : (done : ℕ) → old.task ≡ tasks.Clear done
      → MatchOption old.rings (IsAsNew (stages.Dead 7) old new) (λ r. Clears outcome r done old new)
  pub packet : (slot : Descriptor) → old.task ≡ tasks.Packet slot → WritesOut outcome slot old new
  pub gives_back : (side : Side) (slot : Descriptor) → old.task ≡ tasks.Return side slot
      → MatchOption old.rings (IsAsNew (stages.Dead 7) old new) (λ r. GivesBack outcome r side slot old new)
  -- the interrupt word, whatever came of it: the host is interrupted, if it wants that
  pub word : (side : Side) → old.task ≡ tasks.Word side → new ≡ record old {
    task = if vector_in old.words.first == 0 then tasks.Free else tasks.Interrupt;
  }
  pub interrupt : old.task ≡ tasks.Interrupt → new ≡ record old { task = tasks.Free }
  -- and a step of the initialisation that the host hasn't answered
  pub unanswered : old.task ≡ tasks.Settle → old.written ≡ None → new ≡ record old { task = tasks.Free }
