-- Calls that change no more of a port than what is in hand or a volume.
use Rattle.mscp_ported.proofs.Common.{Becomes, Call, Err, IsAsNew, LookAgain, Next, None, Ok, Option, Picking, Port, Protect, PutAside, ReadIp, Tick, Volume, VolumeCame, VolumeWent, WasRead, Went, WriteIp, WriteSa, ap, aside, blocks, false, inl, inr, place_in, read_again, refl, step_at, volume_changed, volume_protected, volume_put, volumes_with, ℕ, ◌≡◌, ◌⊎◌}
use Rattle.mscp_port.specs.declared.stage.Stage.TheVariants as stages

-- neither a write or a read of the registers, nor something that is wanted, nor a report that was taken
abbrev pub IsMinor : Call → Type 0
IsMinor WriteIp = ⊥
IsMinor ReadIp = ⊥
IsMinor (WriteSa word) = ⊥
IsMinor (Next blocks action bytes) = ⊥
IsMinor (WasRead bytes (Ok done)) = ⊥
IsMinor (Went outcome (Ok done)) = ⊥
IsMinor call = Unit {0}

pub data Minor {K : Type 0} (old new : Port K) : Type 0 where
  Still : new ≡ old → Minor old new
  PutsAside : new ≡ record old { task = aside old.task } → Minor old new
  ReadsAgain : (left : ℕ) → new ≡ record old { is_full = false; task = read_again old.task; left = left }
      → Minor old new
  Mounts : (becomes : Volume → Volume) (place : Option ℕ)
      → new ≡ record old { volumes = volumes_with becomes place old.volumes; task = step_at place old.task }
      → Minor old new
  GivesUp : IsAsNew (stages.Dead 9) old new → Minor old new

pub minor : {K : Type 0} (picks : Picking K) (call : Call) (old new : Port K) → Becomes picks call old new
    → IsMinor call → Minor old new
minor picks PutAside old new r is = PutsAside r
minor picks (WasRead bytes (Err unasked)) old new r is = Still r.unasked
minor picks (Went outcome (Err unasked)) old new r is = Still r.unasked
minor picks LookAgain old new r is = ReadsAgain old.left r
minor picks Tick old new r is = elim r.either [ inl e ↦ ReadsAgain new.left e | inr d ↦ GivesUp d ]
minor picks (VolumeCame m unit (Ok done)) old new r is =
    Mounts (volume_put m) (place_in old.controller.settings.units unit) (r.came refl)
minor picks (VolumeCame m unit (Err fault)) old new r is = Still r.refused
minor picks (VolumeWent unit result) old new r is =
    Mounts (volume_changed false) (place_in old.controller.settings.units unit) r.frame
minor picks (Protect protected unit result) old new r is =
    Mounts (volume_protected protected) (place_in old.controller.settings.units unit) r.frame
minor picks call old new r is = absurd is

-- what goes out stays so, or is gone
pub minor_out : {K : Type 0} {old new : Port K} → Minor old new
    → (new.outgoing ≡ old.outgoing) ⊎ (new.outgoing ≡ None)
minor_out {K} (Still e) = inl (ap (λ (p : Port K). p.outgoing) e)
minor_out {K} (PutsAside e) = inl (ap (λ (p : Port K). p.outgoing) e)
minor_out {K} (ReadsAgain left e) = inl (ap (λ (p : Port K). p.outgoing) e)
minor_out {K} (Mounts becomes place e) = inl (ap (λ (p : Port K). p.outgoing) e)
minor_out (GivesUp d) = inr d.outgoing
