-- What follows when a host reads and writes registers.
use Rattle.mscp_ported.proofs.Common.{Bool, List, None, Option, Port, ReadIp, ReadsIp, Rings, Said, Some, Stage, Talk, Task, Turn, Wish, WriteSa, WritesSa, [], answered, ap, append-nil, arith, cond, false, inl, inr, is_dead, nat_lt, none-some, refl, stepped, subst, sym, true, ℕ, ◌%◌, ◌==◌, ◌∙◌, ◌≡◌, ◌≢◌, ◌⊎◌}
use Rattle.mscp_port.specs.declared.stage.Stage.TheVariants as stages
use Rattle.mscp_port.specs.declared.task.Task.TheVariants as tasks
use Rattle.mscp_ported.proofs.After.{After, IsNoReset, IsPlain, alters, none_said, same_stage}
use Rattle.mscp_ported.proofs.Look.{Fits, Hand, InStep, IsOpen, IsTelling, Look, has_area, in_hand, is_early, is_loud, look, told_on}
use Rattle.mscp_ported.proofs.Plain.{again_so, dies, lets_be, same_port}

-- ---- the stage becomes another

-- a stage in which nothing is in hand but a step that is to be taken
pub record IsStill (s : Stage) : Type 0 where
  pub not_up : s ≢ stages.Up
  pub not_clearing : s ≢ stages.Clearing
  pub silent : is_loud s ≡ false

pub still_open : (l : Look) (turn : Turn) (w : Option Wish) (s : Stage) → Hand l turn w → l.stage ≡ s → IsStill s
    → IsOpen turn × (in_hand l.task turn ≡ []) × (IsTelling l.task → ⊥)
still_open l turn w s h at q = grind (arith, in_hand, is_loud)

-- nothing else changes
pub staged : (l : Look) (t : Talk) (w : Option Wish) (said : List Said) (texts : List (List ℕ)) (s s' : Stage)
    → l.stage ≡ s → s ≢ stages.Up → s ≢ stages.Clearing → (is_loud s ≡ true → is_loud s' ≡ true)
    → (has_area s' ≡ true → has_area s ≡ true) → (is_early s' ≡ true → is_early s ≡ true) → is_dead s' ≡ false
    → InStep l t w said texts → InStep (record l { stage = s' }) t w said texts
staged l t w said texts s s' at not_up not_clearing loud area early alive k = grind (arith, has_area, is_early, is_loud)

-- the communication area is to be cleared
pub begins_to_clear : (l : Look) (t : Talk) (w : Option Wish) (said : List Said) (texts : List (List ℕ)) (s : Stage)
    → l.stage ≡ s → IsStill s → l.rings ≢ None → InStep l t w said texts
    → InStep (record l { stage = stages.Clearing; task = tasks.Clear 0 }) t w said texts
begins_to_clear l t w said texts s at still some k = grind (arith, still_open, told_on)

-- ---- IP

pub reads_ip : {K : Type 0} (old new : Port K) (t : Talk) (w : Option Wish) (said : List Said)
    (texts : List (List ℕ)) → ReadsIp old new → InStep (look old) t w said texts
    → After ReadIp old (look new) t w w said texts
reads_ip {K} old new t w said texts r k = by old.stage refl
  where
    plain : IsPlain ReadIp old
    plain = record {
      talk = λ w x. refl;
      no_reset = record { said = λ s xs ys. refl; texts = λ s xs ys. refl };
      accepts = refl;
    }

    probed : old.stage ≡ stages.Probing → (o : Option Rings) → old.rings ≡ o
        → After ReadIp old (look new) t w w said texts
    probed at None none = dies ReadIp 7 old new t w w said texts plain.no_reset (r.nowhere at none)
    probed at (Some area) some =
        let is : old.rings ≢ None = λ none. none-some area (sym none ∙ some) in
        subst (λ l. After ReadIp old l t w w said texts) (sym (ap look (r.probed at is)))
        (alters ReadIp old (record (look old) { stage = stages.Clearing; task = tasks.Clear 0 }) t t w w said said texts
        texts plain.no_reset refl (ap (λ s. stepped s stages.Clearing t) at)
        (none_said old.outgoing old.outgoing said refl) (append-nil texts)
        (begins_to_clear (look old) t w said texts stages.Probing at (record {
          not_up = λ e. search (arith, e);
          not_clearing = λ e. search (arith, e);
          silent = refl;
        }) is k))

    by : (s : Stage) → old.stage ≡ s → After ReadIp old (look new) t w w said texts
    by stages.Up at =
        lets_be ReadIp old new t w said texts plain k _ (again_so old.task) (ap look (r.up at))
    by stages.Probing at = probed at old.rings refl
    by s at = same_port ReadIp old new t w said texts plain k
        (r.elsewhere (λ e. search (arith, at, e)) (λ e. search (arith, at, e)))

-- ---- SA

module _ {K : Type 0} (word : ℕ) (old new : Port K) (t : Talk) (w : Option Wish) (said : List Said)
    (texts : List (List ℕ)) (k : InStep (look old) t w said texts) (r : WritesSa word old new) where
  abbrev So : Type 0
  So = After (WriteSa word) old (look new) t w w said texts

  no_reset : IsNoReset (WriteSa word)
  no_reset = record { said = λ s xs ys. refl; texts = λ s xs ys. refl }

  stays_so : (s : Stage) → old.stage ≡ s → ((x : Talk) → answered s word x ≡ x) → new ≡ old → So
  stays_so s at same e = same_port (WriteSa word) old new t w said texts
      (record { talk = λ w x. ap (λ y. answered y word x) at ∙ same x; no_reset = no_reset; accepts = refl }) k e

  -- the word answers a step
  answers_so : (s : Stage) → old.stage ≡ s → is_dead s ≡ false → answered s word t ≡ record t { answer = word }
      → new ≡ record old { written = Some word } → So
  answers_so s at alive same e = subst (λ l. After (WriteSa word) old l t w w said texts) (sym (ap look e))
      (alters (WriteSa word) old (record (look old) { word = Some word }) t (record t { answer = word }) w w said said
      texts texts no_reset (ap is_dead at ∙ alive)
      (same_stage old.stage _ ∙ ap (λ y. answered y word t) at ∙ same)
      (none_said old.outgoing old.outgoing said refl) (append-nil texts) (record {
        names = record {
          first_so = k.names.first_so;
          second_so = k.names.second_so;
          answer_so = refl;
          named_so = k.names.named_so;
          area = k.names.area;
          early = k.names.early;
          wide = k.names.wide;
        };
        counts = k.counts;
        hand = again;
        speech = k.speech;
        hears = k.hears;
        ended = λ d. absurd (search (arith, d, ap is_dead at, alive));
      }))
    where
      fits : (task : Task) → Fits (look old) task t.turn → Fits (record (look old) { word = Some word }) task t.turn
      fits task h = h

      again : Hand (record (look old) { word = Some word }) t.turn w
      again = grind (arith, fits)

  -- the stage becomes another
  moves_so : (s s' : Stage) → old.stage ≡ s → s ≢ stages.Up → s ≢ stages.Clearing
      → (is_loud s ≡ true → is_loud s' ≡ true) → (has_area s' ≡ true → has_area s ≡ true)
      → (is_early s' ≡ true → is_early s ≡ true) → is_dead s' ≡ false → stepped s s' (answered s word t) ≡ t
      → new ≡ record old { stage = s' } → So
  moves_so s s' at not_up not_clearing loud area early alive same e =
      grind (arith, look, alters, no_reset, none_said, append-nil, staged)

  first_so : (b : Bool) → nat_lt word 0x8000 ≡ b → old.stage ≡ stages.First
      → new ≡ cond b old (record old { written = Some word }) → So
  first_so true low at e = stays_so stages.First at (λ x. ap (λ b. cond b x (record x { answer = word })) low) e
  first_so false high at e =
      answers_so stages.First at refl (ap (λ b. cond b t (record t { answer = word })) high) e

  last_so : (b : Bool) → old.stage ≡ stages.Last → new ≡ cond b (record old { stage = stages.Up }) old → So
  last_so b at e = grind (arith, moves_so, stays_so)

  is_zero : (n : ℕ) → (n ≡ 0) ⊎ (n ≢ 0)
  is_zero n = search arith

  pub writes_sa : So
  writes_sa = by old.stage refl
    where
      by : (s : Stage) → old.stage ≡ s → So
      by stages.First at = first_so (nat_lt word 0x8000) refl at (r.first at)
      by stages.Second at = answers_so stages.Second at refl refl (r.second at)
      by stages.Third at = answers_so stages.Third at refl refl (r.third at)
      by (stages.Wrapped other) at = moves_so (stages.Wrapped other) (stages.Wrapped word) at (λ u. search (arith, u))
          (λ u. search (arith, u)) (λ h. h) (λ h. h) (λ h. h) refl refl (r.wrapped other at)
      by stages.Purging at = elim (is_zero word) [
        | inl z ↦ moves_so stages.Purging stages.Probing at (λ u. search (arith, u)) (λ u. search (arith, u))
            (λ h. search (arith, h)) (λ h. h) (λ h. h) refl refl (r.purged at z)
        | inr z ↦ dies (WriteSa word) 21 old new t w w said texts no_reset (r.not_purged at z)
      ]
      by stages.Last at = last_so (word % 2 == 1) at (r.last at)
      by stages.Probing at = stays_so stages.Probing at (λ x. refl) (r.probing at)
      by stages.Clearing at = stays_so stages.Clearing at (λ x. refl) (r.clearing at)
      by stages.Up at = stays_so stages.Up at (λ x. refl) (r.up at)
      by (stages.Dead code) at = stays_so (stages.Dead code) at (λ x. refl) (r.dead code at)
