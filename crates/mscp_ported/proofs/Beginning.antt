-- What a port makes of its controller as something is wanted: a take, and a begin.
use Rattle.mscp_ported.proofs.Common.{Action, AnsweredCalls, Begin, BeginsBlock, Bool, Choice, First, Foretells, Holdings, IsNews, IsOfBlock, List, MayBegin, Next, None, Option, Outgoing, Picking, Plain, Port, Says, Some, TakesEnd, Task, Upcoming, Wants, [], after_take, ap, arith, begin_made, begun_step, end_taken, inl, inr, news_place, none-some, refl, subst, sym, take_made, ℕ, ◌++◌, ◌∙◌, ◌∷◌, ◌≡◌, ◌≢◌, ◌⊎◌}
use Rattle.mscp_ported.proofs.Loads.{looks_or_not}
use Rattle.mscp_drive.specs.declared.event.Event.TheVariants as events
use Rattle.mscp_controller.specs.declared.entry.Entry.TheVariants as entries
use Rattle.mscp_port.specs.declared.task.Task.TheVariants as tasks
use Rattle.mscp_ported.proofs.Wanting.{alive_or_dead}
use Rattle.mscp_ported.proofs.Making.{Follows, made_more}

-- ---- what is wanted

-- how something was found that goes out: what the controller has now but for what it has begun, and the take that was
-- made of it
record Finds {K : Type 0} (picks : List Choice → ℕ → Type 0) (old new : Port K) : Type 0 where
  between : Holdings K
  either : (between ≡ old.controller) ⊎ (between ≡ after_take First old.controller)
  may : MayBegin between new.controller
  taken : AnsweredCalls picks old.controller (take_made old old.outgoing new.outgoing) between

none_taken : {K : Type 0} (old : Port K) (o : Option Outgoing) → take_made old o o ≡ []
none_taken old None = refl
none_taken old (Some o) = refl

news_taken : {K : Type 0} (old : Port K) (units : _) (before after : _) (place : Option ℕ) (o : Option Outgoing)
    → IsNews units before place o after → take_made old None o ≡ []
news_taken old units before after place o h = grind (arith, none-some)

finds : {K : Type 0} (picks : List Choice → ℕ → Type 0) (old new : Port K) → Says old new → Finds picks old new
finds {K} picks old new says = elim (looks_or_not old) [
  | inl looks ↦ elim (says.looks looks) [
    | inl t ↦ record {
      between = after_take First old.controller;
      either = inr refl;
      may = t.controller;
      taken = subst (λ xs. AnsweredCalls picks old.controller xs (after_take First old.controller))
          (sym (taken_of t)) (after_take First old.controller, (refl, refl, refl), refl);
    }
    | inr n ↦ record {
      between = old.controller;
      either = inl refl;
      may = n.controller;
      taken = subst (λ xs. AnsweredCalls picks old.controller xs old.controller)
          (sym (ap (λ o. take_made old o new.outgoing) n.nothing
          ∙ news_taken old old.controller.settings.units old.volumes new.volumes (news_place old) new.outgoing n.out))
          refl;
    }
  ]
  | inr not_so ↦
      let k = says.keeps not_so in
      record {
        between = old.controller;
        either = inl refl;
        may = k.controller;
        taken = subst (λ xs. AnsweredCalls picks old.controller xs old.controller)
            (sym (ap (take_made old old.outgoing) k.outgoing ∙ none_taken old old.outgoing)) refl;
      }
]
  where
    taken_of : TakesEnd old new → take_made old old.outgoing new.outgoing
        ≡ Plain (events.Take First) (entries.Taken First (end_taken First old.controller)) ∷ []
    taken_of t = ap (λ o. take_made old o new.outgoing) t.nothing ∙ ap (take_made old None) t.out.2

-- what is begun behind an end that may have been taken is begun of the controller with that end or without it
foretold_of : {K : Type 0} (picks : List Choice → ℕ → Type 0) (h held between new : Holdings K)
    (upcoming : Option Upcoming) → (held ≡ h) ⊎ (held ≡ after_take First h) → Foretells picks held upcoming new
    → (between ≡ h) ⊎ (between ≡ after_take First h) → MayBegin between new → Foretells picks between upcoming new
foretold_of picks h held between new upcoming either f at may = grind arith

begun_of : {K : Type 0} (picks : List Choice → ℕ → Type 0) (task : Task) (old new : Port K) (between : Holdings K)
    → BeginsBlock picks task old new → (between ≡ old.controller) ⊎ (between ≡ after_take First old.controller)
    → MayBegin between new.controller → Foretells picks between (begun_step new.controller) new.controller
begun_of picks task old new between b at may = grind (arith, foretold_of)

pub next : {K : Type 0} (picks : Picking K) (blocks : Bool) (action : Action) (bytes : List ℕ) (old new : Port K)
    → Wants (picks old.controller.picker) blocks old action new → Follows picks (Next blocks action bytes) old new
next {K} picks blocks action bytes old new r = inr (
  take_made old old.outgoing new.outgoing ++ begin_made new old.task new.task,
  refl,
  by old.task refl new.task refl,
)
  where
    so : List Choice → ℕ → Type 0
    so = picks old.controller.picker

    Answered_so : Task → Task → Type 0
    Answered_so before after = AnsweredCalls so old.controller
        (take_made old old.outgoing new.outgoing ++ begin_made new before after) new.controller

    f : Finds so old new
    f = finds so old new r.says

    -- what was found, and no block was begun
    without : (before after : Task) → begin_made new before after ≡ [] → f.between ≡ new.controller
        → Answered_so before after
    without before after none same = grind (arith, made_more, so, f)

    -- and one was begun
    begun : (before after : Task) → begin_made new before after ≡ Begin (begun_step new.controller) ∷ []
        → BeginsBlock so new.task old new → Answered_so before after
    begun before after one b =
        made_more so old.controller (take_made old old.outgoing new.outgoing) (begin_made new before after) f.between
        new.controller f.taken
        (subst (λ xs. AnsweredCalls so f.between xs new.controller) (sym one)
        (new.controller, begun_of so new.task old new f.between b f.either f.may, refl))

    -- nothing was begun
    begun_as : f.between.begun ≡ old.controller.begun
    begun_as = grind (arith, f, begun)

    same_begun : new.controller.begun ≡ old.controller.begun → f.between ≡ new.controller
    same_begun e = sym (f.may ∙ ap (λ b. record f.between { begun = b }) (e ∙ sym begun_as))

    no_block : (IsOfBlock new.task → ⊥) → f.between ≡ new.controller
    no_block never = same_begun (r.begun never)

    -- what was in hand stays so
    stays : old.task ≢ tasks.Free → f.between ≡ new.controller
    stays held = same_begun (ap (λ (p : Port K). p.controller.begun) (r.goes_on held))

    of_block : (after : Task) → old.task ≡ tasks.Free → new.task ≡ after → IsOfBlock after
        → BeginsBlock so new.task old new
    of_block after at there is = elim (alive_or_dead old old.stage refl) [
      | inl alive ↦ r.begins alive at (subst (λ x. IsOfBlock x) (sym there) is)
      | inr d ↦ absurd (subst (λ x. IsOfBlock x)
          (sym there ∙ ap (λ (p : Port K). p.task) (r.dead d.0 d.1).1 ∙ at) is)
    ]

    by_free : (after : Task) → old.task ≡ tasks.Free → new.task ≡ after → Answered_so tasks.Free after
    by_free (tasks.Step verdict) at there =
        begun tasks.Free (tasks.Step verdict) refl (of_block (tasks.Step verdict) at there tt)
    by_free tasks.Transfer at there = begun tasks.Free tasks.Transfer refl (of_block tasks.Transfer at there tt)
    by_free after at there =
        without tasks.Free after refl (no_block (λ h. subst (λ x. IsOfBlock x) there h))

    by : (before : Task) → old.task ≡ before → (after : Task) → new.task ≡ after → Answered_so before after
    by tasks.Free at after there = by_free after at there
    by before at after there = without before after refl (stays (λ e. search (arith, at, e)))
