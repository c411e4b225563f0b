-- Steps of the initialisation that the host has answered, and the communication area.
use Rattle.mscp_ported.proofs.Common.{Choice, Clears, Due, Idle, IfSome, IsAsNew, List, MatchOption, None, Ok, Option, Outcome, Port, Rings, Said, Some, Stage, TakesStep, Talk, Task, Went, Wish, [], ap, arith, at_step, end_of, false, inl, inr, is_dead, none-some, refl, rings_named, start_of, step_answered, step_task, stepped, subst, sym, true, ℕ, ◌%◌, ◌+◌, ◌/◌, ◌<◌, ◌==◌, ◌∙◌, ◌≡◌, ◌≢◌, ◌≤◌, ◌⊎◌}
use Rattle.mscp_port.specs.declared.stage.Stage.TheVariants as stages
use Rattle.mscp_port.specs.declared.task.Task.TheVariants as tasks
use Rattle.mscp_ported.specs.Talk.{done_by}
use Rattle.mscp_ported.proofs.After.{After, same_stage}
use Rattle.mscp_ported.proofs.Look.{Fits, InStep, IsClear, IsElse, IsOfRings, IsOpen, IsTelling, Names, has_area, in_hand, is_early, is_loud, look}
use Rattle.mscp_ported.proofs.Counting.{named_wide}
use Rattle.mscp_ported.proofs.Deeds.{done_or_not, is_low, is_one}
use Rattle.mscp_ported.proofs.Plain.{retask}
use Rattle.mscp_ported.proofs.Acting.{IsReported, alive, dead_so, early_counts, else_deed, freed, goes_on, idle_deed, idle_so, init_step, quiet_of, same_said, step_cases}

module _ {K : Type 0} {picks : List Choice → ℕ → Type 0} {old new : Port K} {t : Talk} {w : Wish} {outcome : Outcome}
    {done : Unit} {said : List Said} {texts : List (List ℕ)}
    (going : IsReported picks old new t w outcome done said texts) where
  open going use {step as k, goes as r}

  abbrev So : Type 0
  So = After (Went outcome (Ok done)) old (look new) t (Some w) None said texts

  -- ---- steps of the initialisation

  settle_talk : old.task ≡ tasks.Settle → (IsOpen t.turn) × (in_hand old.task t.turn ≡ []) × IsElse w.action
  settle_talk at = grind (arith, look, in_hand)

  step_so : (word : ℕ) → old.task ≡ tasks.Settle → old.written ≡ Some word → TakesStep word old new → So
  step_so word at some step = by old.stage refl
    where
      calm : (IsOpen t.turn) × (in_hand old.task t.turn ≡ []) × IsElse w.action
      calm = settle_talk at

      settling : IsOfRings old.task → ⊥
      settling h = subst (λ x. IsOfRings x) at h

      answer : t.answer ≡ word
      answer = subst (λ o. IfSome o (λ x. t.answer ≡ x)) some k.names.answer_so

      deed : done_by w.action w.bytes t ≡ t
      deed = else_deed w.action w.bytes t calm.2

      idle : old.stage ≢ stages.Up → t.turn ≡ Idle
      idle h = idle_so t.turn calm.0 (k.hand.idle h)

      none : is_early old.stage ≡ true → old.rings ≡ None
      none = k.names.early

      -- the talk stays as it was
      stays : (s : Stage) (word' : Option ℕ) → old.stage ≢ stages.Up → is_dead s ≡ false
          → stepped old.stage s t ≡ t → has_area s ≡ false → (is_early s ≡ true → old.rings ≡ None)
          → look new ≡ record (look old) { stage = s; word = None; task = tasks.Free } → So
      stays s word' not_up lives same no_area early e =
          goes_on going (record (look old) { stage = s; word = None; task = tasks.Free }) t said e lives
          (ap (stepped old.stage s) deed ∙ same) (same_said going)
          (init_step (look old) t (Some w) said texts s old.words.first old.words.second old.rings None
          tasks.Free t.turn t.rings t.first t.second k not_up settling (record {
            first_so = k.names.first_so;
            second_so = k.names.second_so;
            answer_so = tt;
            named_so = k.names.named_so;
            area = λ h. absurd (search (arith, h, no_area));
            early = early;
            wide = k.names.wide;
          }) k.counts calm.0 (k.hand.idle not_up) k.hand.own (λ h. h) (λ x. search (arith, x)) (λ h. absurd h) lives)

      -- the next step begins
      begins_step : (s : Stage) (first second : ℕ) (said_first said_second : ℕ) → old.stage ≢ stages.Up
          → is_early old.stage ≡ true → is_dead s ≡ false → is_loud s ≡ true → has_area s ≡ false
          → stepped old.stage s t
          ≡ record t { turn = at_step first; first = said_first; second = said_second }
          → said_first ≡ first → said_second ≡ second
          → look new ≡ record (look old) {
            stage = s;
            first = first;
            second = second;
            word = None;
            task = step_task first tasks.Free;
          } → So
      begins_step s first second said_first said_second not_up early lives loud no_area same e1 e2 e =
          goes_on going (record (look old) {
            stage = s;
            first = first;
            second = second;
            word = None;
            task = step_task first tasks.Free;
          }) (record t { turn = at_step first; first = said_first; second = said_second }) said e lives
          (ap (stepped old.stage s) deed ∙ same) (same_said going)
          (step_cases (look old) first (λ task turn. InStep (record (look old) {
            stage = s;
            first = first;
            second = second;
            word = None;
            task = task;
          }) (record t { turn = turn; first = said_first; second = said_second }) None said texts)
          (init_step (look old) t (Some w) said texts s first second old.rings None tasks.Interrupt Due t.rings
          said_first said_second k not_up settling names k.counts refl tt tt (λ h. h) (λ x. loud) (λ h. absurd h) lives)
          (init_step (look old) t (Some w) said texts s first second old.rings None tasks.Free Idle t.rings said_first
          said_second k not_up settling names k.counts tt tt tt (λ h. h) (λ x. loud) (λ h. absurd h) lives))
        where
          names : Names s first second None old.rings said_first said_second t.answer t.rings
          names = record {
            first_so = e1;
            second_so = e2;
            answer_so = tt;
            named_so = k.names.named_so;
            area = λ h. absurd (search (arith, h, no_area));
            early = λ h. none early;
            wide = k.names.wide;
          }

      -- the area is named
      names_area : (s : Stage) (task : Task) → old.stage ≡ stages.Third → is_dead s ≡ false
          → stepped stages.Third s t ≡ record t { rings = rings_named t.first t.second t.answer }
          → is_early s ≡ false
          → (has_area s ≡ true → rings_named old.words.first old.words.second word ≢ None) → (IsOfRings task → ⊥)
          → (IsClear task → s ≡ stages.Clearing) → (task ≡ tasks.Interrupt → ⊥)
          → (IsOpen t.turn → Fits (record (look old) {
            stage = s;
            word = None;
            rings = rings_named old.words.first old.words.second word;
            task = task;
          }) task t.turn)
          → look new ≡ record (look old) {
            stage = s;
            word = None;
            rings = rings_named old.words.first old.words.second word;
            task = task;
          } → So
      names_area s task third lives same late area no_rings clear no_step fits e =
          let not_up : old.stage ≢ stages.Up = λ u. search (arith, u, third) in
          (goes_on going) (record (look old) {
            stage = s;
            word = None;
            rings = rings_named old.words.first old.words.second word;
            task = task;
          }) (record t { rings = rings_named t.first t.second t.answer }) said e lives
          (ap (λ x. stepped x s (done_by w.action w.bytes t)) third ∙ ap (stepped stages.Third s) deed
          ∙ same) (same_said going) (init_step (look old) t (Some w) said texts s old.words.first old.words.second
          (rings_named old.words.first old.words.second word) None task t.turn (rings_named t.first t.second t.answer)
          t.first t.second k not_up settling (record {
            first_so = k.names.first_so;
            second_so = k.names.second_so;
            answer_so = tt;
            named_so = ap (λ x. rings_named x t.second t.answer) k.names.first_so
                ∙ ap (λ x. rings_named old.words.first x t.answer) k.names.second_so
                ∙ ap (rings_named old.words.first old.words.second) answer;
            area = area;
            early = λ h. absurd (search (arith, h, late));
            wide = named_wide old.words.first old.words.second word;
          })
          (early_counts (rings_named old.words.first old.words.second word) (look old) t (Some w) said texts k
          (none (ap is_early third))) (fits calm.0) (k.hand.idle not_up) k.hand.own no_rings
          (λ x. absurd (no_step x)) clear lives)

      named_or : (o : Option Rings) → rings_named old.words.first old.words.second word ≡ o → old.stage ≡ stages.Third
          → word < 0x8000 → So
      named_or None e third low = dead_so going 7 (step.nowhere third low e)
      named_or (Some area) e third low =
          let is : rings_named old.words.first old.words.second word ≢ None = λ n. none-some area (sym n ∙ e) in
          names_area stages.Clearing (tasks.Clear 0) third refl refl refl (λ h. is) (λ h. h) (λ h. refl)
          (λ x. search (arith, x)) (λ h. h) (ap look (step.clear third low is))

      by : (s : Stage) → old.stage ≡ s → So
      by stages.First there = elim (is_one (word / 0x4000 % 2)) [
        | inl wraps ↦ stays (stages.Wrapped word) None (λ u. search (arith, u, there)) refl
            (ap (λ x. stepped x (stages.Wrapped word) t) there) refl (λ h. none (ap is_early there))
            (ap look (step.wrap there wraps))
        | inr plain ↦ begins_step stages.Second word old.words.second t.answer t.second
            (λ u. search (arith, u, there)) (ap is_early there) refl refl refl
            (ap (λ x. stepped x stages.Second t) there
            ∙ ap (λ x. record t { turn = at_step x; first = t.answer }) answer) answer k.names.second_so
            (ap look (step.first there plain))
      ]
      by stages.Second there =
          begins_step stages.Third old.words.first word t.first t.answer (λ u. search (arith, u, there))
          (ap is_early there) refl refl refl
          (ap (λ x. stepped x stages.Third t) there
          ∙ ap (λ x. record t { turn = at_step x; second = t.answer }) k.names.first_so) k.names.first_so answer
          (ap look (step.second there))
      by stages.Third there = elim (is_low word) [
        | inl high ↦ names_area stages.Purging tasks.Free there refl refl refl (λ h. search (arith, h)) (λ h. h)
            (λ h. absurd h) (λ x. search (arith, x)) (λ h. h) (ap look (step.probe there high))
        | inr low ↦ named_or (rings_named old.words.first old.words.second word) refl there low
      ]
      by s there = goes_on going (record (look old) { word = None; task = tasks.Free }) t said
          (ap look (step.elsewhere (λ e. search (arith, there, e)) (λ e. search (arith, there, e))
          (λ e. search (arith, there, e)))) (alive going) (same_stage old.stage _ ∙ deed) (same_said going)
          (retask (look old) t (Some w) None said texts None tasks.Free t.turn k tt calm.0 tt (λ h. h)
          (λ e. search (arith, e)) (λ h. absurd h) k.hand.own k.hand.idle (quiet_of going tasks.Settle at (λ h. h))
          calm.1 (λ d. absurd (search (arith, d, alive going))))

  pub settle_so : (o : Option ℕ) → old.written ≡ o → old.task ≡ tasks.Settle → So
  settle_so None none at =
      let x = settle_talk at in (freed going) x.0 x.1 (quiet_of going tasks.Settle at (λ h. h)) x.2 (ap look
      ((r.acts refl).unanswered at none))
  settle_so (Some word) some at =
      step_so word at some (subst (λ x. IfSome x (λ v. TakesStep v old new)) (ap (step_answered tasks.Settle) some)
      (subst (λ x. IfSome (step_answered x old.written) (λ v. TakesStep v old new)) at (r.steps refl)))

  -- ---- the communication area

  pub clear_so : (so_far : ℕ) → old.task ≡ tasks.Clear so_far → So
  clear_so so_far at = by old.rings ((r.acts refl).clear so_far at)
    where
      there : old.stage ≡ stages.Clearing
      there = k.hand.clear (subst (λ x. IsClear x) (sym at) tt)

      not_up : old.stage ≢ stages.Up
      not_up u = search (arith, u, there)

      idle : t.turn ≡ Idle
      idle = idle_so t.turn (subst (λ x. Fits (look old) x t.turn) at k.hand.fits) (k.hand.idle not_up)

      calm : IsOpen t.turn
      calm = subst (λ x. Fits (look old) x t.turn) at k.hand.fits

      deed : done_by w.action w.bytes t ≡ t
      deed = idle_deed w.action w.bytes t idle

      quiet : IsTelling old.task → ⊥
      quiet = quiet_of going (tasks.Clear so_far) at (λ h. h)

      clearing : IsOfRings old.task → ⊥
      clearing h = subst (λ x. IsOfRings x) at h

      before : in_hand old.task t.turn ≡ []
      before = ap (λ x. in_hand x t.turn) at

      some : has_area stages.Clearing ≡ true → old.rings ≢ None
      some h = k.names.area (ap has_area there)

      names : (s : Stage) → is_early s ≡ false
          → Names s old.words.first old.words.second old.written old.rings t.first t.second t.answer t.rings
      names s late = record {
        first_so = k.names.first_so;
        second_so = k.names.second_so;
        answer_so = k.names.answer_so;
        named_so = k.names.named_so;
        area = λ h. some refl;
        early = λ h. absurd (search (arith, h, late));
        wide = k.names.wide;
      }

      more_so : look new ≡ record (look old) { task = tasks.Clear (so_far + 64) } → So
      more_so e = goes_on going (record (look old) { task = tasks.Clear (so_far + 64) }) t said e (alive going)
          (same_stage old.stage _ ∙ deed) (same_said going)
          (retask (look old) t (Some w) None said texts old.written (tasks.Clear (so_far + 64)) t.turn k
          k.names.answer_so calm tt (λ h. h) (λ e. search (arith, e)) (λ h. there) k.hand.own k.hand.idle quiet before
          (λ d. absurd (search (arith, d, alive going))))

      last_so : look new ≡ record (look old) { stage = stages.Last; task = step_task old.words.first tasks.Free } → So
      last_so e = goes_on going (record (look old) { stage = stages.Last; task = step_task old.words.first tasks.Free })
          (record t { turn = at_step old.words.first }) said e refl
          (ap (λ x. stepped x stages.Last (done_by w.action w.bytes t)) there
          ∙ ap (stepped stages.Clearing stages.Last) deed
          ∙ ap (λ x. record t { turn = at_step x }) k.names.first_so)
          (same_said going) (step_cases (look old) old.words.first (λ task turn. InStep (record (look old) {
            stage = stages.Last;
            task = task;
          }) (record t { turn = turn }) None said texts)
          (init_step (look old) t (Some w) said texts stages.Last old.words.first old.words.second old.rings old.written
          tasks.Interrupt Due t.rings t.first t.second k not_up clearing (names stages.Last refl) k.counts refl tt tt
          (λ h. h) (λ x. refl) (λ h. absurd h) refl)
          (init_step (look old) t (Some w) said texts stages.Last old.words.first old.words.second old.rings old.written
          tasks.Free Idle t.rings t.first t.second k not_up clearing (names stages.Last refl) k.counts tt tt tt
          (λ h. h) (λ x. refl) (λ h. absurd h) refl))

      with_area : (area : Rings) → Clears outcome area so_far old new → So
      with_area area c = elim (done_or_not outcome) [
        | inl is ↦ elim (by_size (end_of area) (start_of area (old.words.second % 2 == 1) + (so_far + 64))) [
          | inl more ↦ more_so (ap look (c.on is more))
          | inr last ↦ last_so (ap look (c.last is last))
        ]
        | inr never ↦ dead_so going 7 (c.missing never)
      ]
        where
          by_size : (n m : ℕ) → (m < n) ⊎ (n ≤ m)
          by_size n m = search arith

      by : (o : Option Rings) → MatchOption o (IsAsNew (stages.Dead 7) old new) (λ x. Clears outcome x so_far old new)
          → So
      by None h = dead_so going 7 h
      by (Some area) h = with_area area h
