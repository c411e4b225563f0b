-- What goes out to the host, and what becomes of it.
use Rattle.std.specs.Prelude.{◌≡◌, ◌⊎◌, ℕ, ◌+◌, ◌%◌, ◌/◌, ◌==◌, drop, Bool, false, if◌then◌else◌, List, slice_get, slice_set, IsSomeAnd, Option, None, Some}
use Rattle.std.specs.List.{position}
use Rattle.mscp_drive.specs.Shape.{Shape}
use Rattle.mscp_packet.specs.Ends.{end_bytes}
use Rattle.mscp_packet.specs.declared.end.End.{End}
use Rattle.mscp_drive.specs.declared.connection.Connection.TheVariants.{First}
use Rattle.mscp_drive.specs.Both.{of}
use Rattle.mscp_controller.specs.Holdings.{Holdings, after_take}
use Rattle.mscp_port.specs.declared.action.Outcome.{Outcome}
use Rattle.mscp_port.specs.declared.action.Outcome.TheVariants as outcomes
use Rattle.mscp_port.specs.declared.port.Outgoing.{Outgoing}
use Rattle.mscp_port.specs.declared.port.OutgoingKind.TheVariants as kinds
use Rattle.mscp_port.specs.declared.port.Port.{Port}
use Rattle.mscp_port.specs.declared.rings.Side.TheVariants.{Responses}
use Rattle.mscp_port.specs.declared.slot.Descriptor.{Descriptor}
use Rattle.mscp_port.specs.declared.stage.Stage.TheVariants as stages
use Rattle.mscp_port.specs.declared.task.Task.TheVariants as tasks
use Rattle.mscp_port.specs.declared.volumes.Volume.{Volume}
use Rattle.mscp_port.specs.Leaving.{news_at, told_end}
use Rattle.mscp_port.specs.Messages.{own_end_of}
use Rattle.mscp_port.specs.Packets.{end_kind}
use Rattle.mscp_port.specs.Volumes.{volume_at}

-- the controller is as it was, but that it may have begun a step
abbrev pub MayBegin : {K : Type 0} → Holdings K → Holdings K → Type 0
MayBegin old new = new ≡ record old { begun = new.begun }

-- what goes out stays so, and no end is taken
pub record KeepsSaying {K : Type 0} (old new : Port K) : Type 0 where
  pub outgoing : new.outgoing ≡ old.outgoing
  pub decided : new.decided ≡ old.decided
  pub controller : MayBegin old.controller new.controller
  pub stalled : new.is_stalled ≡ old.is_stalled
  pub volumes : new.volumes ≡ old.volumes

-- the oldest end of the host's connection that wasn't taken
abbrev pub oldest_end : {K : Type 0} → Port K → Option End
oldest_end p = slice_get (of First p.controller.untaken) 0

-- nothing went out, and the oldest end that the controller has is taken and goes out. A command may go on that waited
-- for its credit
pub record TakesEnd {K : Type 0} (old new : Port K) : Type 0 where
  pub nothing : old.outgoing ≡ None
  pub out : (e : End) × (oldest_end old ≡ Some e)
      × (new.outgoing ≡ Some (record { bytes = record { items = told_end old e }; kind = kinds.End }))
  -- and with it what was decided of it
  pub decided : new.decided.items ≡ drop 1 old.decided.items
  pub controller : MayBegin (after_take First old.controller) new.controller
  pub stalled : new.is_stalled ≡ false
  pub volumes : new.volumes ≡ old.volumes

-- the place of the first volume of which a host is to hear that wants attention messages (flag 0x80)
abbrev pub news_place : {K : Type 0} → Port K → Option ℕ
news_place p = if p.flags / 0x80 % 2 == 1 then position (λ v. v.is_news) p.volumes else None

-- what goes out, and the volumes: the one at the place is news no more
abbrev pub IsNews : List Shape → List Volume → Option ℕ → Option Outgoing → List Volume → Type 0
IsNews units old None outgoing new = (outgoing ≡ None) × (new ≡ old)
IsNews units old (Some place) outgoing new =
    (outgoing ≡ news_at units old place)
    × (new ≡ slice_set old place (record (volume_at old place) { is_news = false }))

-- nothing went out, and the controller has no end: there is no more than news of a volume
pub record TellsNews {K : Type 0} (old new : Port K) : Type 0 where
  pub nothing : old.outgoing ≡ None
  pub none : oldest_end old ≡ None
  pub out : IsNews old.controller.settings.units old.volumes (news_place old) new.outgoing new.volumes
  pub decided : new.decided ≡ old.decided
  pub controller : MayBegin old.controller new.controller
  pub stalled : new.is_stalled ≡ old.is_stalled

-- it is looked for what goes out: nothing does, nothing is in hand, and the rings are in use
pub record LooksForOut {K : Type 0} (p : Port K) : Type 0 where
  pub outgoing : p.outgoing ≡ None
  pub free : p.task ≡ tasks.Free
  pub step : p.written ≡ None
  pub up : p.stage ≡ stages.Up

-- what goes out next, as an action is wanted
pub record Says {K : Type 0} (old new : Port K) : Type 0 where
  pub looks : LooksForOut old → TakesEnd old new ⊎ TellsNews old new
  pub keeps : (LooksForOut old → ⊥) → KeepsSaying old new

-- nothing went out, and the end that the port makes of these bytes itself goes out, by its message's connection
pub record AnswersItself {K : Type 0} (foreign : Bool) (bytes : List ℕ) (old new : Port K) : Type 0 where
  pub nothing : old.outgoing ≡ None
  pub out : IsSomeAnd (own_end_of old foreign bytes) (λ e.
      IsSomeAnd new.outgoing (λ o. (o.bytes.items ≡ end_bytes e) × (o.kind ≡ end_kind foreign)))

-- what went out is gone: it was written, and its slot was given back
pub record HasSaid {K : Type 0} (outcome : Outcome) (old new : Port K) : Type 0 where
  pub returned : (slot : Descriptor) × (old.task ≡ tasks.Return Responses slot)
  pub done : outcome ≡ outcomes.Done
  pub out : new.outgoing ≡ None
  pub counted : new.responses ≡ (old.responses + 1) % 256
