-- Each end that goes out is that of a message that is awaited.
use Rattle.mscp_ported.proofs.Common.{First, Goes, Hears, Holdings, List, Ok, Outcome, Port, Record, Some, Verdict, WasRead, Went, [], ap, append-nil, arith, block_told, command_of, every_append, false, fault_of, filter, find, fresh_record, handed, has_name, inl, inr, is_dead, name_on, nat_eq, num, record_at, refl, since, subst, sym, taken_by, true, waiting_after, ℕ, ◌++◌, ◌∙◌, ◌∷◌, ◌≡◌, ◌⊎◌}
use Rattle.mscp_ported.proofs.Kept.{is_numbered}
use Rattle.mscp_ported.proofs.Awaiting.{IsLikeIt, IsNoReset, IsSmall, Kept, answered_so, dies_so, handed_like, is_it, lives_so, nothing_there, others, own_bytes, own_number, queued_so, stays_so}
use Rattle.mscp_ported.proofs.Coming.{ends_of}
use Rattle.mscp_ported.proofs.Deeds.{is_alive}
use Rattle.mscp_ported.proofs.Reading.{Answers, Gets, Queues, command_in, heard_same, own_end_in, read_is}
use Rattle.mscp_ported.proofs.Numbered.{At, AtEach, IsNothing, Waits}
use Rattle.mscp_ported.proofs.Numbering.{served_waits, step_serves}
use Rattle.mscp_ported.proofs.Stepping.{Serves, drive_in, numbered, served_stage, went_is}
use Rattle.mscp_ported.proofs.Sole.{found_sole, served_itself}

-- ---- a message that the controller took

module _ {K : Type 0} {bytes : List ℕ} {done : Unit} {old new : Port K} (g : Gets bytes done old new) where
  like : IsLikeIt (handed old.controller.settings.units bytes) bytes
  like = handed_like old.controller.settings.units bytes g.long

  named : (command_in old bytes).reference ≡ num bytes 0 4
  unfolding command_of
  named = like.number

  -- nothing is there of its number
  pub no_such : {aw : List (List ℕ)} → Kept old aw
      → IsNothing aw old.controller.waiting (ends_of old.controller) (num bytes 0 4)
  no_such {aw} k = nothing_there old.controller aw bytes (handed old.controller.settings.units bytes) g.long like
      g.is_new k.each

  pub its_own : {aw : List (List ℕ)} → Kept old aw
      → is_numbered (num bytes 0 4) (fresh_record First (command_in old bytes)) ≡ true
  its_own {aw} k = is_it old.controller aw bytes (handed old.controller.settings.units bytes) g.long like g.is_new
      k.each
      (fresh_record First (command_in old bytes)) refl named

  pub no_other : {aw : List (List ℕ)} → Kept old aw → (n : ℕ) → nat_eq (num bytes 0 4) n ≡ false
      → is_numbered n (fresh_record First (command_in old bytes)) ≡ false
  no_other {aw} k = others old.controller aw bytes (handed old.controller.settings.units bytes) g.long like g.is_new
      k.each (fresh_record First (command_in old bytes)) named

  pub end_named : (own_end_in old bytes).reference ≡ num bytes 0 4
  end_named = own_number old.controller.settings _ _ (command_in old bytes)
      (fault_of old.controller.settings (command_in old bytes)) ∙ named

-- ---- a message

module _ {K : Type 0} (bytes : List ℕ) (done : Unit) (old new : Port K) (aw : List (List ℕ)) (k : Kept old aw)
    (r : Hears bytes old (Ok done) new) (small : IsSmall bytes) where
  abbrev After : Type 0
  After = Kept new (since new.stage (WasRead bytes (Ok done)) aw (taken_by (WasRead bytes (Ok done)) old))

  calm : IsNoReset (WasRead bytes (Ok done))
  calm = record { texts = λ s xs ys. refl }

  gets : Gets bytes done old new → After
  gets g = lives_so (WasRead bytes (Ok done)) old new aw k calm (aw ++ bytes ∷ [])
      (ap is_dead ((heard_same g).0) ∙ is_alive old (λ code e. search (arith, r.dead code e)))
      (ap (λ xs. aw ++ xs) g.taken) (by g.how) (every_append IsSmall aw (bytes ∷ []) k.small (small, tt))
    where
      sent : List ℕ
      sent = handed old.controller.settings.units bytes

      by : Queues g.slot bytes old new ⊎ Answers g.slot bytes old new
          → AtEach (aw ++ bytes ∷ []) new.controller.waiting (ends_of new.controller)
      by (inl q) = subst (λ (x : Holdings K). AtEach (aw ++ bytes ∷ []) x.waiting (ends_of x)) (sym q.holds)
          (queued_so old.controller aw bytes sent g.long (like g) g.is_new k.each)
      by (inr a) = subst (λ (x : Holdings K). AtEach (aw ++ bytes ∷ []) x.waiting (ends_of x)) (sym a.holds)
          (answered_so old.controller aw bytes sent g.long (like g) g.is_new k.each (own_end_in old bytes)
          (end_named g) (own_bytes old.controller.settings _ _ (command_in old bytes)
          (fault_of old.controller.settings (command_in old bytes))) (command_in old bytes).order)

  pub read_so : After
  read_so = elim (read_is bytes done old new r) [
    | inl s ↦ stays_so (WasRead bytes (Ok done)) old new aw k calm refl s.1 s.0
    | inr g ↦ gets g
  ]

-- ---- a step

module _ {K : Type 0} (picks : List _ → ℕ → Type 0) (outcome : Outcome) (done : Unit) (old new : Port K)
    (aw : List (List ℕ)) (k : Kept old aw) (r : Goes picks outcome old (Ok done) new) where
  abbrev Behind : Type 0
  Behind = Kept new (since new.stage (Went outcome (Ok done)) aw [])

  calm_went : IsNoReset (Went outcome (Ok done))
  calm_went = record { texts = λ s xs ys. refl }

  pub went_so : Behind
  went_so = elim (went_is picks outcome done old new r) [
    | inl s ↦ lives_so (Went outcome (Ok done)) old new aw k calm_went aw
        (ap is_dead (served_stage s.2) ∙ is_alive old (λ code e. search (arith, r.dead code e))) (append-nil aw)
        (subst (λ rs. AtEach aw rs (ends_of new.controller)) (sym s.2.waiting)
        (subst (λ es. AtEach aw (waiting_after (block_told s.0) (drive_in old s.2.place) old.controller.waiting
        s.2.place) es) (sym s.2.ends)
        (step_serves (block_told s.0) (drive_in old s.2.place) aw old.controller.waiting (ends_of old.controller)
        s.2.place s.2.servable.inside k.each))) k.small
    | inr more ↦ elim more [
      | inl n ↦ stays_so (Went outcome (Ok done)) old new aw k calm_went refl refl (inl n.0)
      | inr d ↦ dies_so (Went outcome (Ok done)) old new aw k calm_went d
    ]
  ]

-- a command of the host's connection that is served is the one that waits under its number
pub served_own : {K : Type 0} {verdict : Verdict} {old new : Port K} {aw : List (List ℕ)} → Kept old aw
    → (s : Serves verdict old new) → (record_at old.controller.waiting s.place).connection ≡ First
    → (w : Waits aw old.controller.waiting (ends_of old.controller)
    (record_at old.controller.waiting s.place).command.reference) × (record_at old.controller.waiting s.place ≡ w.own)
served_own {K} {verdict} {old} {new} {aw} k s via = by (k.each n)
  where
    rs : List Record
    rs = old.controller.waiting

    n : ℕ
    n = (record_at old.controller.waiting s.place).command.reference

    never : filter (is_numbered n) rs ≡ [] → ⊥
    never = served_waits n (block_told verdict) (drive_in old s.place) rs s.place s.servable.inside (numbered s via)

    by : At aw rs (ends_of old.controller) n → (w : Waits aw rs (ends_of old.controller) n)
        × (record_at rs s.place ≡ w.own)
    by (inl none) = absurd (never none.1)
    by (inr (inr x)) = absurd (never x.none)
    by (inr (inl w)) = (
      w,
      served_itself n (block_told verdict) (drive_in old s.place) rs s.place s.servable.inside w.own w.sole
          (numbered s via),
    )

-- and is found by its name
pub served_found : {K : Type 0} {verdict : Verdict} {old new : Port K} {aw : List (List ℕ)} → Kept old aw
    → (s : Serves verdict old new) → (record_at old.controller.waiting s.place).connection ≡ First
    → find (has_name s.name) old.controller.waiting ≡ Some (record_at old.controller.waiting s.place)
served_found {K} {verdict} {old} k s via =
    let r = record_at old.controller.waiting s.place in
    let w = served_own k s via in
    subst (λ m. find (has_name m) old.controller.waiting ≡ Some r)
    (sym (ap (λ v. name_on v r.command.reference) via) ∙ s.is)
    (found_sole (is_numbered r.command.reference) old.controller.waiting w.0.own w.0.sole ∙ ap Some (sym w.1))
