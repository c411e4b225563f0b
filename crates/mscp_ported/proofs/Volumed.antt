-- Blocks are moved on the volume that was there as their command came, and with which the unit is online.
use Rattle.mscp_ported.proofs.Common.{Action, Answered, AsksAlways, Bool, Buffer, Call, Connection, Err, Finish, Hardware, Holdings, IfSome, IsMadeOf, IsOfItsVolume, IsOnItsVolume, IsOnline, IsUnitList, IsWanted, List, Makes, MoveKind, Next, None, NotBegun, Ok, Option, Outcome, Picking, Port, Report, Result, Shape, Some, Task, Upcoming, Verdict, Volume, Went, [], ap, arith, begun_step, block_begun, changed, eqb-true, false, false≢true, has_changed, inl, inr, kept_of, length, move_of, move_wanted, moved_step, nat_eq, none-some, one_block, option_map, part_at, part_wanted, part_with, place_in, position-Some, refl, same_Some, step_told, subst, sym, true, volume_at, wish, ℕ, ◌<◌, ◌∙◌, ◌∷◌, ◌≡◌, ◌≤◌}
use Rattle.mscp_ported.proofs.Credits.{settings_still}
use Rattle.mscp_drive.specs.declared.block.Block.TheVariants as blocks
use Rattle.mscp_port.specs.declared.action.Action.TheVariants as actions
use Rattle.mscp_port.specs.declared.task.Task.TheVariants as tasks
use Rattle.mscp_ported.proofs.Mounting.{online}
use Rattle.mscp_ported.proofs.Changing.{SaidAgo, kept_ago, of_its_volume}
use Rattle.mscp_ported.proofs.Moving.{Steps, steps}
use Rattle.mscp_ported.proofs.Moved.{good_told, kept_said}
use Rattle.mscp_ported.proofs.Wanting.{alive_or_dead}

-- ---- the block that is wanted

changed_not : (b : Buffer) (v : Volume) → has_changed b v ≡ false → (v.is_there ≡ true) × (b.changes ≡ v.changes)
changed_not b v e = grind (arith, eqb-true, false≢true)

-- a part of a buffer is moved only on the volume that was there, with which the unit is online
part_on : (kind : MoveKind) (block at : ℕ) (b : Buffer) (v : Volume) (part : ℕ × ℕ)
    → part_with kind block at b v ≡ Ok part
    → (v.is_there ≡ true) × (b.changes ≡ v.changes) × (v.is_mounted ≡ true)
part_on kind block at b v part e = grind (arith, changed_not)

-- what a port is to know of a block that it wants
record Wanted {K : Type 0} (p : Port K) (unit : ℕ) : Type 0 where
  pub u : Upcoming
  pub begun : begun_step p.controller ≡ Some u
  pub of : u.command.unit ≡ unit
  pub b : Buffer
  pub kept : kept_of u.connection u.command.reference p.buffers.items ≡ Some b
  pub place : ℕ
  pub here : place_in p.controller.settings.units unit ≡ Some place
  pub there : (volume_at p.volumes place).is_there ≡ true
  pub same : b.changes ≡ (volume_at p.volumes place).changes
  pub mounted : (volume_at p.volumes place).is_mounted ≡ true

wanted : {K : Type 0} (p : Port K) (kind : MoveKind) (unit block address count : ℕ)
    → move_wanted p (block_begun p) ≡ actions.Transfer kind unit block address count → Wanted p unit
wanted {K} p kind unit block address count e = by (begun_step p.controller) refl e
  where
    by : (o : Option Upcoming) → begun_step p.controller ≡ o
        → move_wanted p (moved_step o) ≡ actions.Transfer kind unit block address count → Wanted p unit
    by None is h = search (arith, h)
    by (Some u) is h = moves (move_of u) h
      where
        moves : (m : Option (MoveKind × ℕ))
            → move_wanted p (option_map (λ move. (u, move.0, move.1)) m)
            ≡ actions.Transfer kind unit block address count → Wanted p unit
        moves None h = search (arith, h)
        moves (Some m) h = found (place_in p.controller.settings.units u.command.unit) refl
            (kept_of u.connection u.command.reference p.buffers.items) refl h
          where
            found : (o : Option ℕ) → place_in p.controller.settings.units u.command.unit ≡ o
                → (k : Option Buffer) → kept_of u.connection u.command.reference p.buffers.items ≡ k
                → part_wanted u m.0 m.1 (part_at o k m.0 m.1 u.done p.volumes)
                ≡ actions.Transfer kind unit block address count → Wanted p unit
            found None f k g h = search (arith, h)
            found (Some place) f None g h = search (arith, h)
            found (Some place) f (Some b) g h =
                parted (part_with m.0 m.1 u.done b (volume_at p.volumes place)) refl h
              where
                unit_in : Action → ℕ
                unit_in (actions.Transfer k n l a c) = n
                unit_in action = unit

                parted : (r : Result (ℕ × ℕ) Verdict)
                    → part_with m.0 m.1 u.done b (volume_at p.volumes place) ≡ r
                    → part_wanted u m.0 m.1 r ≡ actions.Transfer kind unit block address count → Wanted p unit
                parted (Err verdict) q h = search (arith, h)
                parted (Ok part) q h =
                    let on = part_on m.0 m.1 u.done b (volume_at p.volumes place) part q in
                    let of : u.command.unit ≡ unit = ap unit_in h in
                    record {
                      u = u;
                      begun = is;
                      of = of;
                      b = b;
                      kept = g;
                      place = place;
                      here = ap (place_in p.controller.settings.units) (sym of) ∙ f;
                      there = on.0;
                      same = on.1;
                      mounted = on.2;
                    }

-- a transfer is wanted only for a block in hand
transfer_wanted : {K : Type 0} (p : Port K) (action : Action) (kind : MoveKind) (unit block address count : ℕ)
    → IsWanted p p.task action → action ≡ actions.Transfer kind unit block address count
    → move_wanted p (block_begun p) ≡ actions.Transfer kind unit block address count
transfer_wanted {K} p action kind unit block address count w e = grind arith

-- ---- laws

module _ {K : Type 0} (picks : Picking K) (hardware : Hardware) (credits : ℕ) (controller : Holdings K)
    (start : Port K) (made : IsMadeOf hardware credits controller start) where
  on_its_volume : (p : Port K) (calls : List Call) (a : Answered picks start calls p) (unit : ℕ)
      → changed unit calls < 0x1_0000_0000 → Wanted p unit
      → (place : ℕ) × (place_in p.controller.settings.units unit ≡ Some place) × (place < 16)
      → (u : Upcoming) × (begun_step p.controller ≡ Some u) × (u.command.unit ≡ unit)
      × IsOnItsVolume picks u start p calls a
  on_its_volume p calls a unit few w low =
      let said = kept_said (λ n x. SaidAgo picks start p calls a n x) p w.u w.b
      (kept_ago picks start hardware credits controller p calls made a) w.begun w.kept in
      let is = of_its_volume picks start p calls a w.u.command.unit w.place w.b said.2
      (ap (place_in p.controller.settings.units) w.of ∙ w.here) w.there w.same
      (subst (λ n. changed n calls < 0x1_0000_0000) (sym w.of) few) in (
        w.u,
        w.begun,
        w.of,
        record {
          came = (w.b, subst (λ n. IsOfItsVolume picks n w.u.command.unit start p calls a w.b) said.1 is);
          online = subst (λ n. IsOnline picks n start p calls a) (sym w.of)
              (online picks start hardware credits controller made p calls a unit w.place
              (subst (λ n. n < 16) (same_Some low.0 w.place (sym low.1 ∙ w.here)) low.2) w.here w.mounted);
        },
      )

  pub moves_on : (p : Port K) (calls : List Call) (asks : Bool) (kind : MoveKind) (unit block address count : ℕ)
      (bytes : List ℕ) → changed unit calls < 0x1_0000_0000
      → (a : Answered picks start (Next asks (actions.Transfer kind unit block address count) bytes ∷ calls) p)
      → (u : Upcoming) × (begun_step p.controller ≡ Some u) × (u.command.unit ≡ unit)
      × IsOnItsVolume picks u start p (Next asks (actions.Transfer kind unit block address count) bytes ∷ calls) a
  moves_on p calls asks kind unit block address count bytes few a =
      let may = a.2.0.moves kind unit block address count refl in
      on_its_volume p (Next asks (actions.Transfer kind unit block address count) bytes ∷ calls) a unit
      (search (arith, few))
      (elim (alive_or_dead a.0 a.0.stage refl) [
        | inl alive ↦ wanted p kind unit block address count
            (transfer_wanted p (actions.Transfer kind unit block address count) kind unit block address count
            (a.2.0.wanted alive) refl)
        | inr d ↦ search (arith, (a.2.0.dead d.0 d.1).0)
      ])
      (may.0, may.1, may.2)

  pub counts_on : (p : Port K) (calls : List Call) (outcome : Outcome) (done : Unit) (via : Connection)
      (reference : ℕ) (result : Result Report NotBegun) (kind : MoveKind) (unit block address count : ℕ)
      (bytes : List ℕ) → AsksAlways (Went outcome (Ok done) ∷ calls)
      → IsUnitList controller.settings.units → (a : Answered picks start (Went outcome (Ok done) ∷ calls) p)
      → Makes (Went outcome (Ok done)) a.0 p (Finish via reference blocks.Good result ∷ [])
      → wish calls ≡ Some (record { action = actions.Transfer kind unit block address count; bytes = bytes })
      → changed unit calls < 0x1_0000_0000
      → (u : Upcoming) × (begun_step a.0.controller ≡ Some u) × (u.command.unit ≡ unit)
      × IsOnItsVolume picks u start a.0 calls a.1
  counts_on p calls outcome done via reference result kind unit block address count bytes asks units a makes wished
      few =
      by a.0.task refl (good_told (step_told a.0 outcome a.0.task) a.0.controller.begun via reference result makes)
    where
      s : Steps a.0 (wish calls)
      s = steps picks hardware credits controller start made a.0 calls asks.1 a.1

      So : Type 0
      So = (u : Upcoming) × (begun_step a.0.controller ≡ Some u) × (u.command.unit ≡ unit)
          × IsOnItsVolume picks u start a.0 calls a.1

      by : (task : Task) → a.0.task ≡ task → step_told a.0 outcome a.0.task ≡ Some blocks.Good → So
      by (tasks.Step verdict) at told = grind (arith, s)
      by tasks.Transfer at told =
          let w = wanted a.0 kind unit block address count
          (sym (subst (λ o. IfSome o (λ x. x.action ≡ move_wanted a.0 (block_begun a.0))) wished (s.wanted at))) in
          let same = ap (λ x. x.units) (settings_still picks start a.0 calls a.1 ∙ ap (λ h. h.settings) made.over) in
          let inside = (position-Some (λ (x : Shape). nat_eq x.number unit) a.0.controller.settings.units w.place
          one_block w.here).0 in
          on_its_volume a.0 calls a.1 unit few w (
            w.place,
            w.here,
            search (arith, inside, subst (λ us. length us ≤ 16) (sym same) units.few),
          )
      by task at told = absurd (none-some blocks.Good (sym (ap (step_told a.0 outcome) at) ∙ told))
