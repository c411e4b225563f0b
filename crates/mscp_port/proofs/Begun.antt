-- What the controller begins for a port, behind an end that may have been taken.
use Rattle.mscp_port.proofs.Common.{◌≡◌, ◌⊎◌, ℕ, List, MatchOption, Option, None, Some, inl, inr, refl, ap, subst, First, Upcoming, Choice, Foretells, Holdings, after_take, begun_step, Name, Port, Task, Verdict, BeginsBlock, GoesOnWithBlock, TakesBlock, begun_task}
use Rattle.mscp_port.specs.Serials.{serial_after}
use Rattle.mscp_port.specs.declared.task.Task.TheVariants as tasks

-- the picker stays where an end is taken
same_picker : {K : Type 0} (old held : Holdings K) → (held ≡ old) ⊎ (held ≡ after_take First old)
    → held.picker ≡ old.picker
same_picker old held either = elim either [ inl e ↦ ap (λ h. h.picker) e | inr e ↦ ap (λ h. h.picker) e ]

-- a block that is begun after an end may have been taken
pub begun_behind : {K : Type 0} (picks_of : K → List Choice → ℕ → Type 0) (task : Task) (old between new : Port K)
    → (between.controller ≡ old.controller) ⊎ (between.controller ≡ after_take First old.controller)
    → (upcoming : Option Upcoming)
    × Foretells (picks_of between.controller.picker) between.controller upcoming new.controller
    × (task ≡ begun_task new.controller.settings.units new.buffers.items new.volumes upcoming)
    × (begun_step new.controller ≡ upcoming)
    → BeginsBlock (picks_of old.controller.picker) task old new
begun_behind picks_of task old between new either begun = record {
  begun = (
    between.controller,
    begun.0,
    either,
    subst (λ k. Foretells (picks_of k) between.controller begun.0 new.controller)
        (same_picker old.controller between.controller either) begun.1,
    begun.2,
    begun.3,
  );
}

-- where as much is begun as was, the serial stays
pub serial_still : (begun : Option Name) (serial : ℕ) → serial ≡ serial_after begun begun serial
serial_still None serial = refl
serial_still (Some name) serial = refl

-- ---- a step that is taken

-- the controller took the step that it had begun, or had begun none
pub taken_or_not : {K : Type 0} (picks : List Choice → ℕ → Type 0) (old new : Port K) → GoesOnWithBlock picks old new
    → (new ≡ record old { task = tasks.Free })
    ⊎ ((name : Name) × (verdict : Verdict) × TakesBlock picks name.connection name.reference verdict old new)
taken_or_not {K} picks old new goes = by old.controller.begun refl
  where
    by : (o : Option Name) → old.controller.begun ≡ o
        → (new ≡ record old { task = tasks.Free })
        ⊎ ((name : Name) × (verdict : Verdict) × TakesBlock picks name.connection name.reference verdict old new)
    by None e = inl (subst
        (λ (x : Option Name). MatchOption x (new ≡ record old { task = tasks.Free })
        (λ name. TakesBlock picks name.connection name.reference goes.0 old new)) e goes.1)
    by (Some name) e = inr (
      name,
      goes.0,
      subst
          (λ (x : Option Name). MatchOption x (new ≡ record old { task = tasks.Free })
          (λ n. TakesBlock picks n.connection n.reference goes.0 old new)) e goes.1,
    )
