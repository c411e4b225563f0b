-- What becomes of a step that a port reports of.
use Rattle.mscp_ported.proofs.Common.{Dies, Drive, End, Err, Finishes, First, Goes, HeedsStep, IsStepping, List, MatchOption, Name, None, NotBegun, Ok, Option, Outcome, Port, Report, Result, Some, TakesBegun, TakesBlock, Task, Verdict, ap, block_begun, block_served, block_told, drive_at, end_brought, end_given, false≢true, inl, inr, is_begun, is_same, length, name_of, name_on, none-some, record_at, refl, subst, sym, takes, true, waiting_after, ℕ, ◌++◌, ◌∙◌, ◌≡◌, ◌≤◌, ◌⊎◌, arith}
use Rattle.mscp_ported.proofs.Kept.{is_numbered}
use Rattle.mscp_ported.proofs.Said.{served_name}
use Rattle.mscp_queue.specs.Serving.{IsServable, drives_after}
use Rattle.mscp_queue.specs.declared.report.Report.TheVariants as reports
use Rattle.mscp_port.specs.declared.task.Task.TheVariants as tasks
use Rattle.mscp_ported.proofs.Coming.{brought_for, ends_of, steps_bring}
pub use Rattle.mscp_ported.proofs.Deeds.{IsHow}
use Rattle.mscp_ported.proofs.Ending.{Grows}
use Rattle.mscp_ported.proofs.Leaving.{ended_grows}
use Rattle.mscp_ported.proofs.Staying.{IsSame, Stays, alike, went_stays}
use Rattle.mscp_ported.proofs.Tables.{decided_by}

abbrev pub drive_in : {K : Type 0} → Port K → ℕ → Drive
drive_in p place = drive_at p.controller.drives p.controller.waiting place

-- the end of the command at this place, if it comes
abbrev pub end_served : {K : Type 0} → Verdict → Port K → ℕ → Option End
end_served verdict p place =
    end_given (block_told verdict) (drive_in p place) (record_at p.controller.waiting place)

-- a command is served
pub record Serves {K : Type 0} (verdict : Verdict) (old new : Port K) : Type 0 where
  pub name : Name
  pub begun : old.controller.begun ≡ Some name
  pub place : ℕ
  pub servable : IsServable old.controller.settings.budget old.controller.waiting place
  pub is : name_of (record_at old.controller.waiting place) ≡ name
  pub waiting : new.controller.waiting
      ≡ waiting_after (block_told verdict) (drive_in old place) old.controller.waiting place
  pub drives : new.controller.drives
      ≡ drives_after (block_told verdict) old.controller.drives old.controller.waiting place
  pub ends : ends_of new.controller ≡ ends_of old.controller
      ++ brought_for (record_at old.controller.waiting place).connection (end_served verdict old place)
  pub heeds : HeedsStep (record_at old.controller.waiting place).connection verdict (end_served verdict old place) old
      new

-- or none is
abbrev pub ServesNone : {K : Type 0} → Port K → Port K → Type 0
ServesNone old new = IsSame old new × (new.volumes ≡ old.volumes)
    × (IsStepping old.task → old.controller.begun ≡ None)

pub step_is : {K : Type 0} (picks : List _ → ℕ → Type 0) (verdict : Verdict) (old new : Port K)
    → TakesBegun picks verdict old new → Serves verdict old new ⊎ ServesNone old new
step_is {K} picks verdict old new takes = by old.controller.begun refl takes
  where
    took : (name : Name) → old.controller.begun ≡ Some name → (result : Result Report NotBegun)
        → Finishes picks (name_on name.connection name.reference) (block_told verdict) old.controller result
        new.controller → HeedsStep name.connection verdict (end_brought result) old new
        → Serves verdict old new ⊎ ServesNone old new
    took name was (Err not_begun) x h = absurd (false≢true (sym x.0
        ∙ (ap (is_begun (name_on name.connection name.reference)) was ∙ is_same name name refl)))
    took name was (Ok reports.Idle) x h = absurd (none-some name (sym x.1.serves.1 ∙ was))
    took name was (Ok (reports.Served other number unit lbn started seek ended)) x h = inl (record {
      name = name;
      begun = was;
      place = place;
      servable = x.1.serves.1.next.servable;
      is = is;
      waiting = ap (λ l. l.waiting) x.1.serves.1.left;
      drives = ap (λ l. l.drives) x.1.serves.1.left;
      ends = steps_bring picks name.connection name.reference (block_told verdict) old.controller new.controller
          (Ok (reports.Served other number unit lbn started seek ended)) x
          ∙ ap (λ y. ends_of old.controller ++ brought_for name.connection (end_brought (Ok y))) x.1.serves.1.told
          ∙ ap (λ (n : Name). ends_of old.controller ++ brought_for n.connection (end_served verdict old place))
          (sym is);
      heeds = subst (λ (n : Name). HeedsStep n.connection verdict (end_served verdict old place) old new) (sym is)
          (subst (λ y. HeedsStep name.connection verdict (end_brought (Ok y)) old new) x.1.serves.1.told h);
    })
      where
        place : ℕ
        place = x.1.serves.0

        is : name_of (record_at old.controller.waiting place) ≡ name
        is = served_name old.controller.begun (name_on name.connection name.reference)
            (record_at old.controller.waiting place) x.0 x.1.serves.1.next.same

    by : (o : Option Name) → old.controller.begun ≡ o → MatchOption o (new ≡ record old { task = tasks.Free })
        (λ name. TakesBlock picks name.connection name.reference verdict old new)
        → Serves verdict old new ⊎ ServesNone old new
    by None e h = inr (subst (λ p. ServesNone old p) (sym h) (alike old, refl, λ z. e))
    by (Some name) e h = took name e h.finished.0 h.finished.1 h.finished.2

pub went_is : {K : Type 0} (picks : List _ → ℕ → Type 0) (outcome : Outcome) (done : Unit) (old new : Port K)
    → Goes picks outcome old (Ok done) new
    → ((verdict : Verdict) × IsHow old outcome verdict × Serves verdict old new) ⊎ ServesNone old new ⊎ Dies old new
went_is {K} picks outcome done old new r = by old.task refl
  where
    So : Type 0
    So = ((verdict : Verdict) × IsHow old outcome verdict × Serves verdict old new)
        ⊎ ServesNone old new ⊎ Dies old new

    stepped : (verdict : Verdict) → IsHow old outcome verdict → TakesBegun picks verdict old new → So
    stepped verdict how takes = elim (step_is picks verdict old new takes)
        [ inl s ↦ inl (verdict, how, s) | inr none ↦ inr (inl none) ]

    others : (t : Task) → old.task ≡ t → (IsStepping t → ⊥) → Stays old new → So
    others t at never h = grind arith

    by : (t : Task) → old.task ≡ t → So
    by (tasks.Step verdict) at = stepped verdict (inl at) ((r.moves refl).step verdict at)
    by tasks.Transfer at = stepped (block_served old outcome (block_begun old)) (inr (at, refl))
        ((r.moves refl).transfer at)
    by t at = others t at (λ z. z) (went_stays picks outcome old new t done at r refl)

-- ---- a command that is served

module _ {K : Type 0} {verdict : Verdict} {old new : Port K} (s : Serves verdict old new) where
  pub numbered : (record_at old.controller.waiting s.place).connection ≡ First
      → is_numbered (record_at old.controller.waiting s.place).command.reference
      (record_at old.controller.waiting s.place) ≡ true
  numbered via = grind (arith, is_same)

  pub served_stage : new.stage ≡ old.stage
  served_stage = ap (λ (p : Port K). p.stage) s.heeds.frame

  -- with its end comes what is decided of it
  abbrev pub serves_grow : length (ends_of old.controller) ≡ length old.decided.items
      → length (ends_of new.controller) ≤ 64 → Grows old new (decided_by verdict old new)
  serves_grow long few = ended_grows verdict old new long few
      (record_at old.controller.waiting s.place).connection (end_served verdict old s.place) s.heeds.decided s.ends
