-- Over a whole list of calls a unit that is online with its volume is online in the controller, too.
use Rattle.mscp_logged.proofs.Common.{Answered, AsksAlways, Bool, Call, Dies, Drive, First, Hears, Holdings, IsAsNew, IsFaultTold, IsPassive, List, Next, Ok, Option, Picking, Port, ReadsBytes, SendFault, Shape, Some, Stage, Task, Volume, Wants, WasRead, Went, WriteIp, [], after_message, ap, arith, asked_before, awaited, balance_of, blocks, command_of, drive_now, false, few_ends, find, handed, held_unless, history, inl, inr, is_dead, map, none-some, none_or_some, option_map, outstanding_of, own_end_of, passive_stays, refl, refusal, steps, sym, true, unit_found, volume_at, ℕ, ◌<◌, ◌∙◌, ◌∷◌, ◌≡◌, ◌⊎◌}
use Rattle.mscp_queue.specs.Drives.{has_number}
use Rattle.mscp_port.specs.declared.stage.Stage.TheVariants as stages
use Rattle.mscp_port.specs.declared.task.Task.TheVariants as tasks
use Rattle.mscp_logged.proofs.Driven.{AreDriven}
use Rattle.mscp_logged.proofs.Moored.{AreAsWere, next_volumes, passive_volumes, read_volumes, volumes_still}
use Rattle.mscp_logged.proofs.Orderly.{fits, numbers_kept, ordering, promised}
use Rattle.mscp_logged.proofs.Begun.{Begun, IsKeeping}
use Rattle.mscp_logged.proofs.Seen.{reads_before}
use Rattle.mscp_logged.proofs.Speaking.{Speaks}
use Rattle.mscp_logged.proofs.Spoken.{went_speaks}

-- ---- the drives

find_drives : (f : Shape → Drive) → ((s : Shape) → (f s).unit ≡ s) → (u : ℕ) (units : List Shape)
    → find (has_number u) (map f units) ≡ option_map f (unit_found units u)
find_drives f same u [] = refl
find_drives f same u (s ∷ units) = grind (arith, find_drives f same u units)

-- no message changes one
message_drives : {K : Type 0} (h : Holdings K) (b : List ℕ) → (after_message First h b).drives ≡ h.drives
message_drives {K} h b = by (refusal (balance_of First h) (outstanding_of First h) b)
  where
    by : (o : Option SendFault) → (held_unless First h (command_of b) o).drives ≡ h.drives
    by o = grind arith

module _ {K : Type 0} (old new : Port K) where
  next_drives : (picks : List _ → ℕ → Type 0) (blocks : Bool) (action : _) → Wants picks blocks old action new
      → new.controller.drives ≡ old.controller.drives
  next_drives picks blocks action r = grind arith

  read_drives : (bytes : List ℕ) (done : Unit) → Hears bytes old (Ok done) new
      → (new.controller.drives ≡ old.controller.drives) ⊎ Dies old new
  read_drives bytes done r = by old.task refl
    where
      by : (t : Task) → old.task ≡ t → (new.controller.drives ≡ old.controller.drives) ⊎ Dies old new
      by (tasks.Text slot size foreign) at = inl (elim (none_or_some (own_end_of old foreign bytes)) [
        | inl none ↦ ap (λ (h : Holdings K). h.drives) (r.handed slot size foreign at refl none)
            ∙ message_drives old.controller (handed old.controller.settings.units bytes)
        | inr own ↦ ap (λ (h : Holdings K). h.drives)
            (r.own slot size foreign at (λ none. none-some own.0 (sym none ∙ own.1)))
      ])
      by t at = grind arith

-- ---- calls

module _ {K : Type 0} {picks : Picking K} (run : Begun picks) (keeping : IsKeeping run) where
  open run use {c, picker, valid, hardware, credits, controller, start, made}

  abbrev pub So : Port K → Type 0
  So p = AreDriven c.units p.volumes p.controller.drives

  -- each unit has its drive
  pub housed : (p : Port K) (calls : List Call) (a : Answered picks start calls p) (u : ℕ) (unit : Shape)
      → unit_found c.units u ≡ Some unit → (x : Drive) × (find (has_number u) p.controller.drives ≡ Some x)
  housed p calls a u unit found =
      let m = promised run keeping p calls a in (
        drive_now c (history m.0) unit,
        ap (find (has_number u)) m.1.drives ∙ find_drives (drive_now c (history m.0)) (λ s. refl) u c.units
            ∙ ap (option_map (drive_now c (history m.0))) found,
      )

  -- none is online
  none_so : (p : Port K) → ((place : ℕ) → place < 16 → (volume_at p.volumes place).is_mounted ≡ false) → So p
  none_so p off u on = grind arith

  as_new : (s : Stage) (old p : Port K) → IsAsNew s old p → So p
  as_new s old p d = none_so p (λ place low. ap (λ (v : Volume). v.is_mounted) (d.volumes place low))

  stays_so : (old p : Port K) → AreAsWere old.volumes p.volumes → p.controller.drives ≡ old.controller.drives → So old
      → So p
  stays_so old p still drives = grind arith

  passive : (p : Port K) (call : Call) (calls : List Call) (a : Answered picks start (call ∷ calls) p) → IsPassive call
      → So a.0 → So p
  passive p call calls a is s = grind (arith, passive_volumes, as_new, passive_stays, stays_so)

  -- what is told of a step, while there is no fatal error
  pub went_told : (p : Port K) (outcome : _) (done : Unit) (calls : List Call)
      → AsksAlways (Went outcome (Ok done) ∷ calls) → ReadsBytes calls
      → (a : Answered picks start (Went outcome (Ok done) ∷ calls) p) → So a.0 → is_dead p.stage ≡ false
      → (F : Type 0) → (F → IsFaultTold outcome)
      → (more : List (List ℕ)) × (Speaks hardware c.units F a.0 p more × So p)
  went_told p outcome done calls asks reads a s lives F fault =
      let m = promised run keeping p (Went outcome (Ok done) ∷ calls) a in
      went_speaks (picks a.0.controller.picker) outcome done a.0 p (awaited picks start a.0 calls a.1)
      (numbers_kept run keeping a.0 calls reads a.1) (fits run keeping a.0 calls reads a.1)
      (ordering run keeping a.0 calls reads a.1) a.2 (few_ends (picks picker) c m.0 p.controller valid m.1) lives
      (steps picks hardware credits controller start made a.0 calls
      (asked_before (Went outcome (Ok done)) calls asks) a.1).begun hardware
      (promised run keeping a.0 calls a.1).1.settings F fault s (housed a.0 calls a.1)

  went : (p : Port K) (outcome : _) (done : Unit) (calls : List Call) → AsksAlways (Went outcome (Ok done) ∷ calls)
      → ReadsBytes calls → (a : Answered picks start (Went outcome (Ok done) ∷ calls) p) → So a.0 → So p
  went p outcome done calls asks reads a s = by (is_dead p.stage) refl
    where
      by : (b : Bool) → is_dead p.stage ≡ b → So p
      by false lives =
          (went_told p outcome done calls asks reads a s lives ⊥ (λ never. absurd never)).1.1
      by true dead = grind arith

  pub driving : (p : Port K) (calls : List Call) → AsksAlways calls → ReadsBytes calls
      → (a : Answered picks start calls p) → So p
  driving p [] asks reads a = grind arith
  driving p (call ∷ calls) asks reads a = by call asks reads a
      (driving a.0 calls (asked_before call calls asks) (reads_before call calls reads) a.1)
    where
      by : (call : Call) → AsksAlways (call ∷ calls) → ReadsBytes (call ∷ calls)
          → (a : Answered picks start (call ∷ calls) p) → So a.0 → So p
      by WriteIp asks reads a s = as_new stages.First a.0 p a.2
      by (Next blocks action bytes) asks reads a s = stays_so a.0 p
          (next_volumes a.0 p (picks a.0.controller.picker) blocks action a.2.0)
          (next_drives a.0 p (picks a.0.controller.picker) blocks action a.2.0) s
      by (WasRead bytes (Ok done)) asks reads a s = elim (read_volumes a.0 p bytes (Ok done) a.2) [
        | inr d ↦ as_new (stages.Dead d.0) a.0 p d.1
        | inl volumes ↦ elim (read_drives a.0 p bytes done a.2) [
          | inr d ↦ as_new (stages.Dead d.0) a.0 p d.1
          | inl drives ↦ stays_so a.0 p (volumes_still a.0 p volumes) drives s
        ]
      ]
      by (Went outcome (Ok done)) asks reads a s = went p outcome done calls asks reads a s
      by call asks reads a s = passive p call calls a tt s
