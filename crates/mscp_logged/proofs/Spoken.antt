-- By a step the end that comes tells of its unit what is so, and each other unit stays as it is.
use Rattle.mscp_logged.proofs.Common.{Block, Bool, Connection, Drive, End, Ended, First, FitsBuffer, Fitting, Goes, Hardware, IsBegunStep, IsFaultTold, IsHow, IsPlainEnd, Kept, List, None, Ok, Option, Order, Outcome, Port, Record, Second, Serves, Settings, Shape, Some, Verdict, Volume, [], ap, append-nil, arith, block_told, brought_for, cond, controller, decided_by, drive_after, drive_in, drive_of, end_served, endcode, ends_of, eqb-true, false, false≢true, find, given_of, inl, inr, is_dead, is_some, is_success, length, map, of, record_at, refl, replaced, served_found, served_own, serves_grow, state_left, subst, sym, true, unit_found, volume_found, volumes_after, went_is, ℕ, ◌%◌, ◌++◌, ◌∙◌, ◌∷◌, ◌≡◌, ◌≤◌}
use Rattle.mscp_logged.proofs.Describing.{IsAsWas}
use Rattle.mscp_logged.proofs.Moored.{Heeded, available_off, found_as, heeded, volumes_still}
use Rattle.mscp_logged.proofs.Ordering.{OrderedIn}
use Rattle.mscp_logged.proofs.Speaking.{Speaks}
use Rattle.mscp_logged.proofs.Texts.{text_with, waiting, texts_of, texts_more}
use Rattle.mscp_packet.specs.declared.command.Order.TheVariants as orders
use Rattle.mscp_queue.specs.Drives.{has_number}
use Rattle.mscp_logged.proofs.Driven.{AreDriven, driven_as, still_driven}
use Rattle.mscp_logged.proofs.Served.{IsServed, served_driven, served_placed, served_told}

-- ---- a step

empty_ended : (code u : ℕ) → Ended code u [] → ⊥
empty_ended code u h = search (arith, h.1)

module _ {c : Settings} {Told : Verdict → Record → Type 0} {K : Type 0} (picks : List _ → ℕ → Type 0)
    (outcome : Outcome) (done : Unit) (old new : Port K) (aw : List (List ℕ)) (k : Kept old aw)
    (f : Fitting c Told old aw) (o : OrderedIn c old aw) (r : Goes picks outcome old (Ok done) new)
    (few : length (ends_of new.controller) ≤ 64) (lives : is_dead new.stage ≡ false) (begun : IsBegunStep old)
    (h : Hardware) (settings : old.controller.settings ≡ c) (F : Type 0) (fault : F → IsFaultTold outcome)
    (driven : AreDriven c.units old.volumes old.controller.drives)
    (housed : (u : ℕ) (unit : Shape) → unit_found c.units u ≡ Some unit
    → (x : Drive) × (find (has_number u) old.controller.drives ≡ Some x)) where
  abbrev pub So : Type 0
  So = (more : List (List ℕ))
      × (Speaks h c.units F old new more × AreDriven c.units new.volumes new.controller.drives)

  abbrev V : ℕ → Volume
  V u = volume_found c.units old.volumes u

  abbrev W : ℕ → Volume
  W u = volume_found c.units new.volumes u

  now : new.controller.settings ≡ c
  now = r.settings ∙ settings

  none_so : new.volumes ≡ old.volumes → new.controller ≡ old.controller → new.decided.items ≡ old.decided.items → So
  none_so volumes controller decided = grind (arith, append-nil, driven_as, found_as, volumes_still)

  module _ (verdict : Verdict) (how : IsHow old outcome verdict) (s : Serves verdict old new) where
    abbrev r0 : Record
    r0 = record_at old.controller.waiting s.place

    abbrev ended : Option End
    ended = end_served verdict old s.place

    volumes : new.volumes
        ≡ volumes_after old.controller.settings.units old.buffers.items r0.connection ended old.volumes
    volumes = ap (λ (p : Port K). p.volumes) s.heeds.frame

    abbrev b : Block
    b = block_told verdict

    abbrev d : Drive
    d = drive_in old s.place

    abbrev text : End → List ℕ
    text e = text_with h c.units e (decided_by verdict old new e)

    -- the volume of a unit
    heeded_so : (via : Connection) (x : Option End) → r0.connection ≡ via → ended ≡ x → (u : ℕ)
        → Heeded c.units old.buffers.items via old.volumes x u (V u) (W u)
    heeded_so via x first same u = subst (λ ws. Heeded c.units old.buffers.items via
        old.volumes x u (V u) (volume_found c.units ws u))
        (sym (volumes ∙ ap (λ s. volumes_after s.units old.buffers.items r0.connection ended old.volumes) settings
        ∙ ap (λ v. volumes_after c.units old.buffers.items v ended old.volumes) first
        ∙ ap (λ y. volumes_after c.units old.buffers.items via y old.volumes) same))
        (heeded c.units old.buffers.items via old.volumes x u)

    came : (xs : List End) → brought_for r0.connection ended ≡ xs
        → (ends_of new.controller ≡ ends_of old.controller ++ xs)
        × (new.decided.items ≡ old.decided.items ++ map (decided_by verdict old new) xs)
    came xs same = (
      s.ends ∙ ap (λ zs. ends_of old.controller ++ zs) same,
      (serves_grow s f.long few).decided ∙ ap (λ zs. old.decided.items ++ map (decided_by verdict old new) zs) same,
    )

    -- no end comes for the host
    module _ (via : Connection) (x : Option End) (first : r0.connection ≡ via) (same : ended ≡ x)
        (none : brought_for via x ≡ []) where
      still : (u : ℕ) → IsAsWas (V u) (W u)
      still u on =
          let z = heeded_so via x first same u in
          elim (z.1 on) [
            | inl y ↦ (y.0, z.0)
            | inr y ↦ absurd (empty_ended 0x89 u (subst (λ es. Ended 0x89 u es) none y))
          ]

      -- an AVAILABLE that succeeds takes it offline, whoever asked for it
      stays_online : (u : ℕ) → (W u).is_mounted ≡ true → r0.command.unit ≡ u
          → state_left true r0.command.order x ≡ true
      stays_online u on own = by x same r0.command.order refl
        where
          by : (y : Option End) → ended ≡ y → (order : Order) → r0.command.order ≡ order
              → state_left true order y ≡ true
          by (Some end) e orders.Available of = off (is_success end.status) refl
            where
              plain : IsPlainEnd r0 end
              plain = given_of b d r0 end e

              off : (c : Bool) → is_success end.status ≡ c → cond c false true ≡ true
              off false z = refl
              off true z = absurd (false≢true (sym (ap (λ vs. (volume_found c.units vs u).is_mounted)
                  (volumes ∙ ap (λ s. volumes_after s.units old.buffers.items r0.connection ended old.volumes)
                  settings ∙ ap (λ y. volumes_after c.units old.buffers.items r0.connection y old.volumes) e)
                  ∙ available_off c.units old.buffers.items r0.connection old.volumes end u
                  (plain.code ∙ ap endcode of) (eqb-true (end.status % 32) 0 z) (plain.unit ∙ own)) ∙ on))
          by y e order of = grind arith

      driven_so : AreDriven c.units new.volumes new.controller.drives
      driven_so u on = subst (λ ds. (drive_of ds u).online ≡ true) (sym (s.drives
          ∙ ap (λ y. replaced r0.command.unit (record (drive_after b d r0) {
            online = state_left d.online r0.command.order y;
          }) old.controller.drives) same))
          (still_driven b old.controller.drives r0 x (V u) (W u) u (driven u) (λ y. (still u y).0)
          (stays_online u) on)

      quiet_so : So
      quiet_so = (
        [],
        (
          record {
            behind = let z = came [] (ap (λ v. brought_for v ended) first ∙ ap (brought_for via) same ∙ none) in
                ap (λ es. texts_of h c.units es new.decided.items) (z.0 ∙ append-nil (ends_of old.controller))
                ∙ ap (texts_of h c.units (ends_of old.controller)) (z.1 ∙ append-nil old.decided.items)
                ∙ sym (append-nil (waiting h c.units old));
            told = still;
            placed = λ f. still;
          },
          driven_so,
        ),
      )

    -- one comes
    module _ (e : End) (first : r0.connection ≡ First) (one : ended ≡ Some e) where
      one_so : IsServed c outcome verdict old new r0 e → So
      one_so served = (
        text e ∷ [],
        (
          record {
            behind = let z = came (e ∷ []) (ap (λ v. brought_for v ended) first ∙ ap (brought_for First) one) in
                ap (λ es. texts_of h c.units es new.decided.items) z.0
                ∙ ap (texts_of h c.units (ends_of old.controller ++ e ∷ [])) z.1
                ∙ texts_more h c.units (ends_of old.controller) (e ∷ []) old.decided.items
                (decided_by verdict old new) f.long;
            told = served_told h served;
            placed = λ told. served_placed h served driven (fault told);
          },
          served_driven h served driven housed s.drives,
        ),
      )

      some_unit : (y : Option Shape) → is_some y ≡ true → (unit : Shape) × (y ≡ Some unit)
      some_unit y z = grind arith

      comes_so : So
      comes_so =
          let w = served_own k s first in
          let x = (f.kept r0.command.reference).own w.0.own w.0.text w.0.sole w.0.message in
          let unit = some_unit (unit_found c.units r0.command.unit)
          (subst (λ z. is_some (unit_found c.units z.command.unit) ≡ true) (sym w.1)
          (o.own r0.command.reference w.0.own w.0.sole).known) in
          one_so (record {
            given = one;
            how = how;
            begun = begun;
            name = s.name;
            was = s.begun;
            here = served_found k s first;
            message = w.0.text;
            buffer = x.0;
            kept = x.1;
            fits = subst (λ z. FitsBuffer z x.0 w.0.text) (sym w.1) x.2;
            unit = unit.0;
            there = unit.1;
            volumes = volumes
                ∙ ap (λ s. volumes_after s.units old.buffers.items r0.connection ended old.volumes) settings
                ∙ ap (λ v. volumes_after c.units old.buffers.items v ended old.volumes) first
                ∙ ap (λ y. volumes_after c.units old.buffers.items First y old.volumes) one;
            settings = settings;
            now = now;
          })

    served : So
    served = by r0.connection ended refl refl
      where
        by : (via : Connection) (x : Option End) → r0.connection ≡ via → ended ≡ x → So
        by First (Some e) first one = comes_so e first one
        by First None first one = quiet_so First None first one refl
        by Second x first one = quiet_so Second x first one refl

  pub went_speaks : So
  went_speaks = elim (went_is picks outcome done old new r) [
    | inl s ↦ served s.0 s.1 s.2
    | inr more ↦ elim more [
      | inl n ↦ none_so n.1 n.0.0 (ap (λ y. y.items) n.0.1)
      | inr d ↦ absurd (search (arith, lives, ap is_dead d.1.stage))
    ]
  ]
