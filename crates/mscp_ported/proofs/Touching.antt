-- What becomes of a port as its host reads or writes a register, case by case.
use Rattle.mscp_ported.proofs.Common.{Bool, IsAsNew, None, Option, Port, ReadsIp, Rings, Some, Stage, WritesSa, arith, ap, cond, false, inl, inr, is_dead, nat_lt, none-some, read_again, refl, sym, true, ℕ, ◌%◌, ◌==◌, ◌∙◌, ◌≡◌, ◌≢◌, ◌⊎◌}
use Rattle.mscp_port.specs.declared.stage.Stage.TheVariants as stages
use Rattle.mscp_port.specs.declared.task.Task.TheVariants as tasks

-- the host has named its area, or is to
abbrev pub is_late : Stage → Bool
is_late stages.First = false
is_late stages.Second = false
is_late stages.Third = false
is_late stage = true

pub data Touched {K : Type 0} (old new : Port K) : Type 0 where
  Untouched : new ≡ old → Touched old new
  Polls : old.stage ≡ stages.Up → new ≡ record old { is_polled = true; is_full = false; task = read_again old.task }
      → Touched old new
  ToClear : is_late old.stage ≡ true → new ≡ record old { stage = stages.Clearing; task = tasks.Clear 0 }
      → Touched old new
  IsWord : (word : ℕ) → is_late old.stage ≡ false → new ≡ record old { written = Some word } → Touched old new
  IsStage : (s : Stage) → is_late old.stage ≡ true → is_dead s ≡ false → new ≡ record old { stage = s }
      → Touched old new
  Breaks : (code : ℕ) → IsAsNew (stages.Dead code) old new → Touched old new

pub read_ip : {K : Type 0} (old new : Port K) → ReadsIp old new → Touched old new
read_ip {K} old new r = by old.stage refl
  where
    rings_or : old.stage ≡ stages.Probing → (o : Option Rings) → old.rings ≡ o → Touched old new
    rings_or at None none = Breaks 7 (r.nowhere at none)
    rings_or at (Some area) some = ToClear (ap is_late at) (r.probed at (λ none. none-some area (sym none ∙ some)))

    by : (s : Stage) → old.stage ≡ s → Touched old new
    by stages.Up at = Polls at (r.up at)
    by stages.Probing at = rings_or at old.rings refl
    by s at = Untouched (r.elsewhere (λ e. search (arith, at, e)) (λ e. search (arith, at, e)))

pub wrote_sa : {K : Type 0} (word : ℕ) (old new : Port K) → WritesSa word old new → Touched old new
wrote_sa {K} word old new r = by old.stage refl
  where
    first_or : old.stage ≡ stages.First → (b : Bool) → new ≡ cond b old (record old { written = Some word })
        → Touched old new
    first_or at true e = Untouched e
    first_or at false e = IsWord word (ap is_late at) e

    last_or : old.stage ≡ stages.Last → (b : Bool) → new ≡ cond b (record old { stage = stages.Up }) old
        → Touched old new
    last_or at true e = IsStage stages.Up (ap is_late at) refl e
    last_or at false e = Untouched e

    is_zero : (n : ℕ) → (n ≡ 0) ⊎ (n ≢ 0)
    is_zero n = search arith

    by : (s : Stage) → old.stage ≡ s → Touched old new
    by stages.First at = first_or at (nat_lt word 0x8000) (r.first at)
    by stages.Second at = IsWord word (ap is_late at) (r.second at)
    by stages.Third at = IsWord word (ap is_late at) (r.third at)
    by (stages.Wrapped other) at = IsStage (stages.Wrapped word) (ap is_late at) refl (r.wrapped other at)
    by stages.Purging at = elim (is_zero word) [
      | inl z ↦ IsStage stages.Probing (ap is_late at) refl (r.purged at z)
      | inr z ↦ Breaks 21 (r.not_purged at z)
    ]
    by stages.Last at = last_or at (word % 2 == 1) (r.last at)
    by stages.Probing at = Untouched (r.probing at)
    by stages.Clearing at = Untouched (r.clearing at)
    by stages.Up at = Untouched (r.up at)
    by (stages.Dead code) at = Untouched (r.dead code at)
