-- What follows when something is wanted of a holder.
use Rattle.mscp_ported.proofs.Common.{Action, Bool, Choice, Commands, IsAlive, IsDue, IsOfBlock, IsOwed, IsWanted, List, Next, None, Option, Port, Responses, Said, Some, Stage, Talk, Task, Wants, Wish, [], ap, append-nil, arith, begins, bytes_wanted, false, inl, inr, is_dead, map, message_text, none-some, refl, said_in, stepped, subst, sym, true, ℕ, ◌++◌, ◌∙◌, ◌≡◌, ◌≢◌, ◌⊎◌}
use Rattle.mscp_ported.proofs.Loads.{looks_or_not}
use Rattle.mscp_port.specs.declared.action.Action.TheVariants as actions
use Rattle.mscp_port.specs.declared.stage.Stage.TheVariants as stages
use Rattle.mscp_port.specs.declared.task.Task.TheVariants as tasks
use Rattle.mscp_ported.proofs.After.{After, IsNoReset, alters, none_said, same_stage, say_on, unmoved}
use Rattle.mscp_ported.proofs.Look.{AreTold, Counts, Fits, InStep, IsAsked, IsClear, IsOfRings, IsOpen, IsTelling, Names, NeedsOut, has_area, in_hand, is_loud, look}
use Rattle.mscp_ported.proofs.Owing.{asked_of, owed_of}

-- ---- what is taken in hand

-- nothing, a step of the initialisation, or once the rings are in use a slot or a step of a command
abbrev pub IsChosen : {K : Type 0} → Port K → Task → Type 0
IsChosen p task = (task ≡ tasks.Free) ⊎ (task ≡ tasks.Settle)
    ⊎ ((p.stage ≡ stages.Up) × ((task ≡ tasks.Slot Commands) ⊎ ((task ≡ tasks.Slot Responses) × (p.outgoing ≢ None))
    ⊎ IsOfBlock task))

pub chosen : {K : Type 0} (blocks : Bool) (p : Port K) (task : Task) → IsDue blocks p task → IsChosen p task
chosen {K} blocks p task due = grind (arith, none-some)

pub alive_or_dead : {K : Type 0} (p : Port K) (s : Stage) → p.stage ≡ s
    → IsAlive p ⊎ ((code : ℕ) × (p.stage ≡ stages.Dead code))
alive_or_dead p (stages.Dead code) at = inr (code, at)
alive_or_dead p s at = inl (λ code e. search (arith, at, e))

module _ {K : Type 0} (picks : List Choice → ℕ → Type 0) (blocks : Bool) (old new : Port K) (action : Action)
    (bytes : List ℕ) (t : Talk) (w : Option Wish) (said : List Said) (texts : List (List ℕ))
    (k : InStep (look old) t w said texts) (r : Wants picks blocks old action new)
    (is : bytes ≡ bytes_wanted new new.task) where
  -- what follows, and what is due
  pub record Follows : Type 0 where
    pub after : After (Next blocks action bytes) old (look new) t w (Some (record { action = action; bytes = bytes }))
        said texts
    pub owed : IsOwed new.stage t t.turn action bytes

  stage_so : new.stage ≡ old.stage
  stage_so = ap (λ (p : Port K). p.stage) r.frame

  framed : look new ≡ record (look old) { outgoing = new.outgoing; task = new.task }
  framed = ap look r.frame

  no_reset : IsNoReset (Next blocks action bytes)
  no_reset = record { said = λ s xs ys. refl; texts = λ s xs ys. refl }

  -- the names and counts are those of before
  names_so : Names new.stage new.words.first new.words.second new.written new.rings t.first t.second t.answer t.rings
  names_so = subst (λ l. Names l.stage l.first l.second l.word l.rings t.first t.second t.answer t.rings) (sym framed)
      k.names

  counts_so : Counts new.rings new.responses new.commands t.told t.heard
  counts_so = subst (λ l. Counts l.rings l.responses l.commands t.told t.heard) (sym framed) k.counts

  -- what goes out does so while the rings are in use
  outgoing_so : (new.outgoing ≢ None → new.stage ≡ stages.Up)
      × ((new.outgoing ≡ old.outgoing) ⊎ (old.outgoing ≡ None)) × (old.outgoing ≢ None → new.outgoing ≢ None)
  outgoing_so = grind (arith, looks_or_not, stage_so)

  -- and what is in hand tells nothing
  told_now : (task : Task) → old.task ≡ tasks.Free → (IsTelling task → ⊥)
      → AreTold new.more task t.turn new.outgoing new.untold t.told (said ++ map said_in
      (begins old.outgoing new.outgoing))
  told_now task at calm =
      subst (λ l. AreTold l.more task t.turn new.outgoing l.untold t.told
      (said ++ map said_in (begins old.outgoing new.outgoing))) (sym framed)
      (say_on old.more old.task task t.turn t.turn old.outgoing new.outgoing old.untold t.told said
      (subst (λ x. IsTelling x → ⊥) (sym at) (λ h. h)) calm outgoing_so.1 k.speech.tells)

  -- there is an area where it is of the rings, or is cleared
  area_so : has_area new.stage ≡ true → new.rings ≢ None
  area_so = names_so.area

  -- this is in hand now
  in_hand_so : (task : Task) → IsAlive old → new.task ≡ task → Fits (look new) task t.turn
      → (IsOfRings task → new.stage ≡ stages.Up) → (task ≡ tasks.Interrupt → is_loud new.stage ≡ true)
      → (IsClear task → new.stage ≡ stages.Clearing) → (NeedsOut task → new.outgoing ≢ None)
      → in_hand task t.turn ≡ in_hand old.task t.turn
      → AreTold new.more task t.turn new.outgoing new.untold t.told (said ++ map said_in
      (begins old.outgoing new.outgoing))
      → Follows
  in_hand_so task alive at fits up step clear out same tells =
      let want = subst (λ x. IsWanted new x action) at (r.wanted alive) in
      let bytes_so : bytes ≡ bytes_wanted new task = is ∙ ap (bytes_wanted new) at in
      let some : IsOfRings task → new.rings ≢ None = λ h. area_so (ap has_area (up h)) in
      let some_clear : IsClear task → new.rings ≢ None = λ h. area_so (ap has_area (clear h)) in
      let own = k.hand.own in
      record {
        after = alters (Next blocks action bytes) old (look new) t t w (Some
            (record { action = action; bytes = bytes }))
            said (said ++ map said_in (begins old.outgoing new.outgoing)) texts texts no_reset (lives alive)
            (ap (λ s. stepped old.stage s t) stage_so ∙ same_stage old.stage t) refl (append-nil texts) (record {
              names = names_so;
              counts = counts_so;
              hand = record {
                fits = subst (λ x. Fits (look new) x t.turn) (sym at) fits;
                asked = subst (λ x. IsAsked (look new) x (record { action = action; bytes = bytes })) (sym at)
                    (asked_of new t action bytes names_so counts_so task want bytes_so some out);
                up = λ h. up (subst (λ x. IsOfRings x) at h);
                step = λ e. step (sym at ∙ e);
                clear = λ h. clear (subst (λ x. IsClear x) at h);
                own = own;
                idle = λ h. k.hand.idle (λ u. h (stage_so ∙ u));
                wished = λ e h. none-some (record { action = action; bytes = bytes }) (sym e);
              };
              speech = record {
                out = outgoing_so.0;
                has = λ h. out (subst (λ x. NeedsOut x) at h);
                tells = subst (λ x. AreTold new.more x t.turn new.outgoing new.untold t.told
                    (said ++ map said_in (begins old.outgoing new.outgoing))) (sym at) tells;
              };
              hears = ap (λ xs. map message_text t.heard ++ xs) (ap (λ x. in_hand x t.turn) at ∙ same) ∙ k.hears;
              ended = λ d. absurd (search (arith, d, lives alive));
            });
        owed = owed_of new t action bytes names_so counts_so task want bytes_so at r.within some up clear
            some_clear fits;
      }
    where
      lives : IsAlive old → is_dead new.stage ≡ false
      lives alive = grind (arith, stage_so)

  of_free : IsAlive old → old.task ≡ tasks.Free → IsChosen new new.task → Follows
  of_free alive at c = by c
    where
      calm : IsOpen t.turn
      calm = subst (λ x. Fits (look old) x t.turn) at k.hand.fits

      before : [] ≡ in_hand old.task t.turn
      before = sym (ap (λ x. in_hand x t.turn) at)

      block_so : new.stage ≡ stages.Up → (task : Task) → new.task ≡ task → IsOfBlock task → Follows
      block_so up (tasks.Step verdict) e h = in_hand_so (tasks.Step verdict) alive e calm (λ h. up)
          (λ x. search (arith, x)) (λ h. absurd h) (λ h. absurd h) before
          (told_now (tasks.Step verdict) at (λ h. h))
      block_so up tasks.Transfer e h = in_hand_so tasks.Transfer alive e calm (λ h. up) (λ x. search (arith, x))
          (λ h. absurd h) (λ h. absurd h) before (told_now tasks.Transfer at (λ h. h))
      block_so up task e h = absurd h

      by : IsChosen new new.task → Follows
      by (inl e) = in_hand_so tasks.Free alive e calm (λ h. absurd h) (λ x. search (arith, x)) (λ h. absurd h)
          (λ h. absurd h) before (told_now tasks.Free at (λ h. h))
      by (inr (inl e)) = in_hand_so tasks.Settle alive e calm (λ h. absurd h) (λ x. search (arith, x))
          (λ h. absurd h) (λ h. absurd h) before (told_now tasks.Settle at (λ h. h))
      by (inr (inr (up, inl e))) = in_hand_so (tasks.Slot Commands) alive e calm (λ h. up) (λ x. search (arith, x))
          (λ h. absurd h) (λ h. absurd h) before (told_now (tasks.Slot Commands) at (λ h. h))
      by (inr (inr (up, inr (inl (e, out))))) = in_hand_so (tasks.Slot Responses) alive e calm (λ h. up)
          (λ x. search (arith, x)) (λ h. absurd h) (λ h. out) before
          (told_now (tasks.Slot Responses) at (λ h. h))
      by (inr (inr (up, inr (inr h)))) = block_so up new.task refl h

  kept_so : IsAlive old → new ≡ old → Follows
  kept_so alive e =
      let same : look new ≡ look old = ap look e in
      in_hand_so old.task alive (ap (λ l. l.task) same) (subst (λ l. Fits l old.task t.turn) (sym same) k.hand.fits)
      (λ h. stage_so ∙ k.hand.up h) (λ x. ap is_loud stage_so ∙ k.hand.step x) (λ h. stage_so ∙ k.hand.clear h)
      (λ h. outgoing_so.2 (k.speech.has h)) refl (subst (λ l. AreTold l.more old.task t.turn l.outgoing l.untold t.told
      (said ++ map said_in (begins old.outgoing l.outgoing))) (sym same)
      (subst (λ xs. AreTold old.more old.task t.turn old.outgoing old.untold t.told xs)
      (sym (none_said old.outgoing old.outgoing said refl)) k.speech.tells))

  dead_so : (code : ℕ) → old.stage ≡ stages.Dead code → action ≡ actions.Rest → new ≡ old → Follows
  dead_so code at rest e = grind (arith, look, unmoved, no_reset, none-some, is_loud)

  pub follows : Follows
  follows = elim (alive_or_dead old old.stage refl) [
    | inr d ↦ dead_so d.0 d.1 (r.dead d.0 d.1).0 (r.dead d.0 d.1).1
    | inl alive ↦ by old.task refl alive
  ]
    where
      by : (task : Task) → old.task ≡ task → IsAlive old → Follows
      by tasks.Free at alive = of_free alive at (chosen blocks new new.task (r.due alive at))
      by task at alive = kept_so alive (r.goes_on (λ e. search (arith, at, e)))
