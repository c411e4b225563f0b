-- A unit that is online with its volume is online in the controller, too: also behind a step.
use Rattle.mscp_logged.proofs.Common.{Block, Bool, Drive, End, List, None, Option, Record, Shape, Some, Volume, [], ap, cond, drive_after, drive_of, eq-eqb, eqb-true, false, false≢true, find, found_is, fresh_drive, nat_eq, none-some, one_block, option_map, refl, replaced, state_left, sym, true, unwrap_or, volume_found, ℕ, ◌∙◌, ◌∷◌, ◌≡◌}
use Rattle.mscp_queue.specs.Drives.{has_number}

abbrev pub IsDriven : Volume → Drive → Type 0
IsDriven v d = v.is_mounted ≡ true → d.online ≡ true

abbrev pub AreDriven : List Shape → List Volume → List Drive → Type 0
AreDriven units volumes drives = (u : ℕ) → IsDriven (volume_found units volumes u) (drive_of drives u)

-- ---- one drive is replaced

replaced_none : (n : ℕ) (new : Drive) (ds : List Drive) → find (has_number n) ds ≡ None → replaced n new ds ≡ ds
replaced_none n new [] none = refl
replaced_none n new (d ∷ ds) none = by (has_number n d) refl none (replaced_none n new ds)
  where
    by : (x : Bool) → has_number n d ≡ x → cond x (Some d) (find (has_number n) ds) ≡ None
        → (find (has_number n) ds ≡ None → replaced n new ds ≡ ds)
        → cond (has_number n d) new d ∷ replaced n new ds ≡ d ∷ ds
    by true e none rest = absurd (none-some d (sym none))
    by false e none rest = ap (λ b. cond b new d ∷ replaced n new ds) e ∙ ap (λ xs. d ∷ xs) (rest none)

find_replaced : (n : ℕ) (new : Drive) → has_number n new ≡ true → (u : ℕ) (ds : List Drive)
    → find (has_number u) (replaced n new ds)
    ≡ option_map (λ d. cond (has_number n d) new d) (find (has_number u) ds)
find_replaced n new own u [] = refl
find_replaced n new own u (d ∷ ds) = by (has_number n d) refl (has_number u d) refl (find_replaced n new own u ds)
  where
    rest : Option Drive
    rest = find (has_number u) (replaced n new ds)

    f : Drive → Drive
    f x = cond (has_number n x) new x

    mine : (y : Bool) → has_number u d ≡ y → has_number n d ≡ true → has_number u new ≡ y
    mine y g e = ap (λ m. nat_eq m u) (eqb-true new.unit.number n own ∙ sym (eqb-true d.unit.number n e)) ∙ g

    by : (x : Bool) → has_number n d ≡ x → (y : Bool) → has_number u d ≡ y
        → find (has_number u) (replaced n new ds) ≡ option_map f (find (has_number u) ds)
        → cond (has_number u (cond (has_number n d) new d)) (Some (cond (has_number n d) new d))
        (find (has_number u) (replaced n new ds))
        ≡ option_map f (cond (has_number u d) (Some d) (find (has_number u) ds))
    by true e true g ih = ap (λ b. cond (has_number u (cond b new d)) (Some (cond b new d)) rest) e
        ∙ ap (λ b. cond b (Some new) rest) (mine true g e) ∙ sym (ap (λ b. Some (cond b new d)) e)
        ∙ sym (ap (λ b. option_map f (cond b (Some d) (find (has_number u) ds))) g)
    by true e false g ih = ap (λ b. cond (has_number u (cond b new d)) (Some (cond b new d)) rest) e
        ∙ ap (λ b. cond b (Some new) rest) (mine false g e) ∙ ih
        ∙ sym (ap (λ b. option_map f (cond b (Some d) (find (has_number u) ds))) g)
    by false e true g ih = ap (λ b. cond (has_number u (cond b new d)) (Some (cond b new d)) rest) e
        ∙ ap (λ b. cond b (Some d) rest) g ∙ sym (ap (λ b. Some (cond b new d)) e)
        ∙ sym (ap (λ b. option_map f (cond b (Some d) (find (has_number u) ds))) g)
    by false e false g ih = ap (λ b. cond (has_number u (cond b new d)) (Some (cond b new d)) rest) e
        ∙ ap (λ b. cond b (Some d) rest) g ∙ ih
        ∙ sym (ap (λ b. option_map f (cond b (Some d) (find (has_number u) ds))) g)

-- ---- a step

module _ (k : Block) (ds : List Drive) (r : Record) (ended : Option End) (v w : Volume) (u : ℕ)
    (driven : IsDriven v (drive_of ds u)) where
  abbrev n : ℕ
  n = r.command.unit

  abbrev new : Drive
  new = record (drive_after k (drive_of ds r.command.unit) r) {
    online = state_left (drive_of ds r.command.unit).online r.command.order ended;
  }

  abbrev So : Type 0
  So = IsDriven w (drive_of (replaced r.command.unit new ds) u)

  -- another unit's
  apart : (w.is_mounted ≡ true → v.is_mounted ≡ true) → nat_eq r.command.unit u ≡ false → So
  apart was other on = by (find (has_number r.command.unit) ds) refl
    where
      is : (drive_of ds u).online ≡ true
      is = driven (was on)

      here : (o : Option Drive) → find (has_number u) ds ≡ o
          → unwrap_or (option_map (λ d. cond (has_number r.command.unit d) new d) o) (fresh_drive one_block)
          ≡ unwrap_or o (fresh_drive one_block)
      here None e = refl
      here (Some d) e = by (has_number r.command.unit d) refl
        where
          by : (b : Bool) → has_number r.command.unit d ≡ b → cond b new d ≡ d
          by false h = refl
          by true h = absurd (false≢true (sym other ∙ eq-eqb r.command.unit u
              (sym (eqb-true d.unit.number r.command.unit h)
              ∙ eqb-true d.unit.number u (found_is (has_number u) ds d e))))

      by : (o : Option Drive) → find (has_number r.command.unit) ds ≡ o
          → (drive_of (replaced r.command.unit new ds) u).online ≡ true
      by None e = ap (λ xs. (drive_of xs u).online) (replaced_none r.command.unit new ds e) ∙ is
      by (Some d) e = ap (λ (o : Option Drive). (unwrap_or o (fresh_drive one_block)).online)
          (find_replaced r.command.unit new (ap (λ (o : Option Drive).
          has_number r.command.unit (unwrap_or o (fresh_drive one_block))) e
          ∙ found_is (has_number r.command.unit) ds d e) u ds)
          ∙ ap (λ (d : Drive). d.online) (here (find (has_number u) ds) refl) ∙ is

  -- its own, which the controller has
  module _ (same : r.command.unit ≡ u) (d : Drive) (found : find (has_number r.command.unit) ds ≡ Some d) where
    pub own_driven : (w.is_mounted ≡ true
        → state_left (drive_of ds r.command.unit).online r.command.order ended ≡ true) → So
    own_driven is on = rw (← same) (ap (λ (o : Option Drive). (unwrap_or o (fresh_drive one_block)).online)
        (find_replaced r.command.unit new own r.command.unit ds
        ∙ ap (option_map (λ d. cond (has_number r.command.unit d) new d)) found)
        ∙ ap (λ (b : Bool). (cond b new d).online) (found_is (has_number r.command.unit) ds d found) ∙ is on)
      where
        own : has_number r.command.unit new ≡ true
        own = ap (λ (o : Option Drive). has_number r.command.unit (unwrap_or o (fresh_drive one_block))) found
            ∙ found_is (has_number r.command.unit) ds d found

  -- by a step of it the unit doesn't come online
  pub still_driven : (w.is_mounted ≡ true → v.is_mounted ≡ true)
      → (w.is_mounted ≡ true → r.command.unit ≡ u → state_left true r.command.order ended ≡ true) → So
  still_driven was stays = by (nat_eq r.command.unit u) refl
    where
      there : r.command.unit ≡ u → (o : Option Drive) → find (has_number r.command.unit) ds ≡ o → So
      there same None e on = absurd (false≢true (ap (λ (o : Option Drive).
          (unwrap_or o (fresh_drive one_block)).online) (sym e)
          ∙ ap (λ m. (drive_of ds m).online) same ∙ driven (was on)))
      there same (Some d) e on = own_driven same d e
          (λ on. ap (λ b. state_left b r.command.order ended) (ap (λ m. (drive_of ds m).online) same ∙ driven (was on))
          ∙ stays on same) on

      by : (b : Bool) → nat_eq r.command.unit u ≡ b → So
      by false e = apart was e
      by true e = there (eqb-true r.command.unit u e) (find (has_number r.command.unit) ds) refl

  -- or does
  pub brought_driven : r.command.unit ≡ u → (d : Drive) → find (has_number r.command.unit) ds ≡ Some d
      → ((online : Bool) → state_left online r.command.order ended ≡ true) → So
  brought_driven same d found is = own_driven same d found (λ on. is _)

-- the volumes stay, or go, and the drives stay
pub driven_as : (units : List Shape) (volumes more : List Volume) (drives others : List Drive) → others ≡ drives
    → ((u : ℕ) → (volume_found units more u).is_mounted ≡ true → (volume_found units volumes u).is_mounted ≡ true)
    → AreDriven units volumes drives → AreDriven units more others
driven_as units volumes more drives others same was driven u on =
    ap (λ ds. (drive_of ds u).online) same ∙ driven u (was u on)
