-- What a port's controller answers to the calls that the port makes of it, by one call of its own.
use Rattle.mscp_ported.proofs.Common.{AnsweredCalls, Block, Bool, Call, Choice, End, Err, Finish, First, Goes, Hears, Holdings, IsFinish, IsForgotten, IsReadingText, List, Made, Makes, MatchOption, MoveKind, Name, None, Ok, Option, Outcome, Picking, Plain, Port, Result, Some, TakesBegun, TakesBlock, Task, Unasked, Upcoming, Verdict, WasRead, Went, [], answered_to, ap, block_begun, block_served, block_told, handed, inl, inr, none-some, own_end_of, part_now, part_served, refl, send_made, step_told, subst, sym, told_of, told_unless, transfer_told, unless_own, ℕ, ◌++◌, ◌∙◌, ◌∷◌, ◌≡◌, ◌⊎◌, arith}
use Rattle.mscp_drive.specs.declared.event.Event.TheVariants as events
use Rattle.mscp_controller.specs.declared.entry.Entry.TheVariants as entries
use Rattle.mscp_port.specs.declared.stage.Stage.TheVariants as stages
use Rattle.mscp_port.specs.declared.task.Task.TheVariants as tasks
use Rattle.mscp_port.specs.declared.verdict.Verdict.TheVariants as verdicts
use Rattle.mscp_ported.proofs.Staying.{went_stays}
use Rattle.mscp_ported.proofs.Tables.{outcome_so}

-- ---- calls of the controller, one behind the other

pub made_more : {K : Type 0} (picks : List Choice → ℕ → Type 0) (h : Holdings K) (xs ys : List Made) (m h' : Holdings K)
    → AnsweredCalls picks h xs m → AnsweredCalls picks m ys h' → AnsweredCalls picks h (xs ++ ys) h'
made_more {K} picks h [] ys m h' a b = subst (λ (x : Holdings K). AnsweredCalls picks x ys h') a b
made_more picks h (x ∷ xs) ys m h' a b = (a.0, a.1, made_more picks a.0 xs ys m h' a.2 b)

-- all was forgotten, or these calls were made of the controller, and answered
abbrev pub Follows : {K : Type 0} → Picking K → Call → Port K → Port K → Type 0
Follows picks call old new =
    IsForgotten old new
    ⊎ ((more : List Made) × Makes call old new more
    × AnsweredCalls (picks old.controller.picker) old.controller more new.controller)

-- ---- how an action went

pub verdict_so : (verdict : Verdict) → block_told verdict ≡ told_of verdict
verdict_so (verdicts.Served block) = refl
verdict_so verdict = refl

part_so : (outcome : Outcome) (part : Result (ℕ × ℕ) Verdict)
    → block_told (part_served outcome part) ≡ told_unless outcome part
part_so outcome (Ok part) = outcome_so outcome
part_so outcome (Err verdict) = verdict_so verdict

pub transfer_so : {K : Type 0} (old : Port K) (outcome : Outcome) (o : Option (Upcoming × MoveKind × ℕ))
    → block_told (block_served old outcome o) ≡ transfer_told old outcome o
transfer_so old outcome None = refl
transfer_so old outcome (Some m) = part_so outcome (part_now old m.0 m.1 m.2)

-- a step is finished
finished : {K : Type 0} (picks : List Choice → ℕ → Type 0) (verdict : Verdict) (old new : Port K) (begun : Option Name)
    → MatchOption begun (new ≡ record old { task = tasks.Free })
    (λ name. TakesBlock picks name.connection name.reference verdict old new)
    → (more : List Made) × IsFinish (Some (block_told verdict)) begun more
    × AnsweredCalls picks old.controller more new.controller
finished picks verdict old new None h = ([], refl, ap (λ (p : Port _). p.controller) h)
finished picks verdict old new (Some name) h =
    let f = h.finished in
    (Finish name.connection name.reference (block_told verdict) f.0 ∷ [], (f.0, refl), (new.controller, f.1, refl))

pub went : {K : Type 0} (picks : Picking K) (outcome : Outcome) (result : Result Unit Unasked) (old new : Port K)
    → Goes (picks old.controller.picker) outcome old result new → Follows picks (Went outcome result) old new
went picks outcome (Err unasked) old new r = inr ([], refl, ap (λ (p : Port _). p.controller) r.unasked)
went picks outcome (Ok done) old new r = by old.task refl
  where
    step_so : (t : Task) (verdict : Verdict) (block : Block) → old.task ≡ t → step_told old outcome t ≡ Some block
        → block_told verdict ≡ block → TakesBegun (picks old.controller.picker) verdict old new
        → Follows picks (Went outcome (Ok done)) old new
    step_so t verdict block at told same h = grind (arith, finished)

    others : (t : Task) → old.task ≡ t → step_told old outcome t ≡ None → Follows picks (Went outcome (Ok done)) old new
    others t at none = grind (arith, went_stays)

    by : (t : Task) → old.task ≡ t → Follows picks (Went outcome (Ok done)) old new
    by (tasks.Step verdict) at =
        step_so (tasks.Step verdict) verdict (told_of verdict) at refl (verdict_so verdict)
        ((r.moves refl).step verdict at)
    by tasks.Transfer at =
        step_so tasks.Transfer (block_served old outcome (block_begun old))
        (transfer_told old outcome (block_begun old)) at refl (transfer_so old outcome (block_begun old))
        ((r.moves refl).transfer at)
    by t at = others t at refl

-- ---- what was read

text_read : {K : Type 0} (picks : List Choice → ℕ → Type 0) (bytes : List ℕ) (done : Unit) (old new : Port K)
    (slot : _) (size : ℕ) (foreign : Bool) → old.task ≡ tasks.Text slot size foreign → Hears bytes old (Ok done) new
    → (o : Option End) → own_end_of old foreign bytes ≡ o
    → AnsweredCalls picks old.controller
    (unless_own o (Plain (events.Send First (record { items = handed old.controller.settings.units bytes }))
    (entries.Sent First (answered_to old bytes)))) new.controller
text_read picks bytes done old new slot size foreign at r None own =
    (new.controller, (refl, refl, r.handed slot size foreign at refl own), refl)
text_read picks bytes done old new slot size foreign at r (Some e) own =
    r.own slot size foreign at (λ none. none-some e (sym none ∙ own))

pub was_read : {K : Type 0} (picks : Picking K) (bytes : List ℕ) (result : Result Unit Unasked) (old new : Port K)
    → Hears bytes old result new → Follows picks (WasRead bytes result) old new
was_read picks bytes (Err unasked) old new r = inr ([], refl, ap (λ (p : Port _). p.controller) r.unasked)
was_read {K} picks bytes (Ok done) old new r = by old.task refl
  where
    by : (t : Task) → old.task ≡ t → Follows picks (WasRead bytes (Ok done)) old new
    by (tasks.Text slot size foreign) at = inr (
      send_made old bytes (tasks.Text slot size foreign),
      sym (ap (send_made old bytes) at),
      text_read (picks old.controller.picker) bytes done old new slot size foreign at r
          (own_end_of old foreign bytes) refl,
    )
    by t at =
        let other : IsReadingText old.task → ⊥ = λ h. subst (λ x. IsReadingText x) at h in
        elim (r.nothing_else other) [
          | inl same ↦ inr ([], sym (ap (send_made old bytes) at), same)
          | inr d ↦ inl (stages.Dead d.0, d.1)
        ]
