-- A unit that is online was brought online with the volume that is in it.
use Rattle.mscp_ported.proofs.Common.{Answered, Bool, Buffer, Call, Connection, End, First, Hardware, Holdings, IsMadeOf, IsOnline, List, None, Option, Picking, Port, Shape, Some, Succeeds, Volume, WriteIp, [], ap, arith, cond, eq-eqb, eqb-true, false, false≢true, inl, inr, kept_of, none-some, place_heeded, place_in, refl, same_Some, set, subst, sym, true, volume_at, volume_heeded, volumes_after, volumes_heeded, volumes_with, ℕ, ◌%◌, ◌<◌, ◌==◌, ◌∙◌, ◌∷◌, ◌≡◌, ◌≢◌, ◌⊎◌, changed_by}
use Rattle.mscp_ported.proofs.Credits.{settings_stay}
use Rattle.mscp_ported.proofs.Said.{kept_found, of_first}
use Rattle.mscp_ported.proofs.Changing.{other_unit, same_unit}
use Rattle.mscp_ported.proofs.Coming.{brought_for}
pub use Rattle.mscp_ported.proofs.Volumes.{Ended}
use Rattle.mscp_ported.proofs.Volumes.{Forgets, Heeds, Remounted, Rests, Switches, Tunes, none_ended, remounted, set_at}

-- ---- a volume

-- a unit that is online with its volume is so for this reason
abbrev pub Mounted : Type 0 → Volume → Type 0
Mounted why v = v.is_mounted ≡ true → why

not_mounted : (why : Type 0) (v : Volume) → v.is_mounted ≡ false → Mounted why v
not_mounted why v e = λ is. absurd (false≢true (sym e ∙ is))

-- the volume at a place is written, and so it was or is
set_one : (why because : Type 0) (place q : ℕ) (vs : List Volume) (x : Volume)
    → (place ≡ q → Mounted why (volume_at vs place) → Mounted because x)
    → (place ≢ q → Mounted why (volume_at vs place) → Mounted because (volume_at vs place))
    → Mounted why (volume_at vs place) → Mounted because (volume_at (set vs q x) place)
set_one why because place q vs x here elsewhere m = grind (arith, set_at, not_mounted)

-- how often the volume changes by that
abbrev counted : Bool → ℕ
counted b = cond b 1 0

-- another volume comes into a unit, or none
other_volume : (why : Type 0) (because : Type 0) (becomes : Volume → Volume) (units : List Shape)
    (unit to place : ℕ) (o : Option ℕ) (vs : List Volume) → (counted (to == unit) ≡ 0 → why → because)
    → ((v : Volume) → (becomes v).is_mounted ≡ false) → place_in units unit ≡ Some place → place_in units to ≡ o
    → Mounted why (volume_at vs place) → Mounted because (volume_at (volumes_with becomes o vs) place)
other_volume why because becomes units unit to place None vs on off here none m =
    λ is. on (ap counted (other_unit units unit to place here (λ e. none-some place (sym none ∙ e)))) (m is)
other_volume why because becomes units unit to place (Some q) vs on off here there m =
    set_one why because place q vs (becomes (volume_at vs q))
    (λ same was. not_mounted because (becomes (volume_at vs q)) (off (volume_at vs q)))
    (λ other was is. on (ap counted (other_unit units unit to place here (λ e. other (same_Some place q
    (sym e ∙ there))))) (was is)) m

-- ---- a step

-- the one that came
pub one_ended : (via : Connection) (code unit : ℕ) (e : End) → Ended code unit (brought_for via (Some e))
    → (e.code ≡ code) × (e.unit ≡ unit) × (e.status % 32 ≡ 0)
one_ended via code unit e h = grind (arith, none_ended)

heeded_at : (units : List Shape) (e : End) (o : Option ℕ) → place_heeded units e ≡ o → (place : ℕ) → o ≡ Some place
    → (e.status % 32 ≡ 0) × (place_in units e.unit ≡ Some place)
heeded_at units e o h place is = grind (arith, eqb-true, none-some)

success_at : (units : List Shape) (e : End) (place : ℕ) → e.status % 32 ≡ 0 → place_in units e.unit ≡ Some place
    → place_heeded units e ≡ Some place
success_at units e place good here =
    ap (λ b. cond b (place_in units e.unit) None) (eq-eqb (e.status % 32) 0 good) ∙ here

-- a volume is mounted by an end, or was and stays so
abbrev Mounts : ℕ → Option Buffer → Volume → Type 0
Mounts code kept v = ((code ≡ 0x89) × (kept ≢ None)) ⊎ ((code ≢ 0x88) × (v.is_mounted ≡ true))

heeded_mounted : (code : ℕ) (kept : Option Buffer) (v : Volume) → (volume_heeded code kept v).is_mounted ≡ true
    → Mounts code kept v
heeded_mounted code kept v is = grind (arith, eqb-true, eq-eqb, false≢true)

first_kept : (via : Connection) (n : ℕ) (bs : List Buffer) → kept_of via n bs ≢ None → via ≡ First
first_kept via n bs some = grind (arith, of_first, kept_found)

module _ (why because : Type 0) (units : List Shape) (unit place : ℕ) (here : place_in units unit ≡ Some place)
    (bs : List Buffer) (via : Connection) (vs : List Volume)
    (m : Mounted why (volume_at vs place)) where
  -- an end comes, by which the unit is online, or doesn't go offline
  pub ended_so : (ended : Option End)
      → (Ended 0x89 unit (brought_for via ended) → because)
      → ((Ended 0x88 unit (brought_for via ended) → ⊥) → why → because)
      → Mounted because (volume_at (volumes_after units bs via ended vs) place)
  ended_so None brought on = grind (arith, brought_for, none_ended)
  ended_so (Some e) brought on = by (place_heeded units e) refl
    where
      kept : Option Buffer
      kept = kept_of via e.reference bs

      -- of this unit it would be heeded
      there_is : Ended 0x88 unit (brought_for via (Some e)) → place_heeded units e ≡ Some place
      there_is h =
          let x = one_ended via 0x88 unit e h in success_at units e place x.2 (ap (place_in units) x.1 ∙ here)

      by : (o : Option ℕ) → place_heeded units e ≡ o
          → Mounted because (volume_at (volumes_heeded e.code kept o vs) place)
      by None h = λ is. on (λ x. none-some place (sym h ∙ there_is x)) (m is)
      by (Some q) h = set_one why because place q vs (volume_heeded e.code kept (volume_at vs q)) at_place at_other m
        where
          at_place : place ≡ q → Mounted why (volume_at vs place)
              → Mounted because (volume_heeded e.code kept (volume_at vs q))
          at_place same was is = elim (heeded_mounted e.code kept (volume_at vs q) is) [
            | inl x ↦
                let at = heeded_at units e (Some q) h q refl in
                let first = first_kept via e.reference bs x.1 in
                brought (subst (λ c. Ended 0x89 unit (brought_for c (Some e))) (sym first) (
                  e,
                  search arith,
                  x.0,
                  same_unit units place unit e.unit here (at.1 ∙ ap Some (sym same)),
                  at.0,
                ))
            | inr x ↦ on (λ h. x.0 (one_ended via 0x88 unit e h).0)
                (was (ap (λ i. (volume_at vs i).is_mounted) same ∙ x.1))
          ]

          at_other : place ≢ q → Mounted why (volume_at vs place) → Mounted because (volume_at vs place)
          at_other other was is =
              on (λ x. other (same_Some place q (sym (there_is x) ∙ h))) (was is)

-- ---- calls

module _ {K : Type 0} (picks : Picking K) (start : Port K) where
  -- a unit is online still, or by this call
  on_call : (call : Call) (p : Port K) (calls : List Call) (a : Answered picks start (call ∷ calls) p) (unit : ℕ)
      → call ≢ WriteIp → Succeeds 0x89 unit call a.0 p ⊎ ((changed_by unit call ≡ 0)
      × (Succeeds 0x88 unit call a.0 p → ⊥) × IsOnline picks unit start a.0 calls a.1)
      → IsOnline picks unit start p (call ∷ calls) a
  on_call WriteIp p calls a unit never h = absurd (never refl)
  on_call call p calls a unit never h = h

  module _ (call : Call) (p : Port K) (calls : List Call) (a : Answered picks start (call ∷ calls) p)
      (unit place : ℕ) (low : place < 16) (here : place_in a.0.controller.settings.units unit ≡ Some place)
      (before : Mounted (IsOnline picks unit start a.0 calls a.1) (volume_at a.0.volumes place)) where
    abbrev Was : Type 0
    Was = IsOnline picks unit start a.0 calls a.1

    abbrev On : Type 0
    On = IsOnline picks unit start p (call ∷ calls) a

    by_call : call ≢ WriteIp → Remounted call a.0 p → Mounted On (volume_at p.volumes place)
    by_call never (Forgets n) =
        not_mounted On (volume_at p.volumes place) (ap (λ (v : Volume). v.is_mounted) (n.1.volumes place low))
    by_call never (Rests calm e) = grind (arith, on_call)
    by_call never (Tunes calm q x t e) = subst (λ vs. Mounted On (volume_at vs place)) (sym e)
        (set_one Was On place q a.0.volumes x
        (λ same was is. on (was (ap (λ i. (volume_at a.0.volumes i).is_mounted) same ∙ sym t.mounted ∙ is)))
        (λ other was is. on (was is)) before)
      where
        on : Was → On
        on w = on_call call p calls a unit never (inr (calm.changes unit, calm.ended 0x88 unit, w))
    by_call never (Switches becomes s to changes none e) = subst (λ vs. Mounted On (volume_at vs place)) (sym e)
        (other_volume Was On becomes a.0.controller.settings.units unit to place _ a.0.volumes
        (λ other w. on_call call p calls a unit never (inr (changes unit ∙ other, none 0x88 unit, w))) s.offline here
        refl before)
    by_call never (Heeds via ended none from to e) = subst (λ vs. Mounted On (volume_at vs place)) (sym e)
        (ended_so Was On a.0.controller.settings.units unit place here a.0.buffers.items via a.0.volumes before ended
        (λ h. on_call call p calls a unit never (inl (to 0x89 unit h)))
        (λ off w. on_call call p calls a unit never (inr (none unit, (λ h. off (from 0x88 unit h)), w))))

  -- a unit that is online was brought online
  pub online : (hardware : Hardware) (credits : ℕ) (controller : Holdings K)
      → IsMadeOf hardware credits controller start → (p : Port K) (calls : List Call)
      (a : Answered picks start calls p) (unit place : ℕ) → place < 16
      → place_in p.controller.settings.units unit ≡ Some place
      → Mounted (IsOnline picks unit start p calls a) (volume_at p.volumes place)
  online hardware credits controller made p [] a unit place low here = grind (arith, not_mounted)
  online hardware credits controller made p (WriteIp ∷ calls) a unit place low here =
      not_mounted ⊥ (volume_at p.volumes place) (ap (λ (v : Volume). v.is_mounted) (a.2.volumes place low))
  online hardware credits controller made p (call ∷ calls) a unit place low here =
      let there : place_in a.0.controller.settings.units unit ≡ Some place =
      ap (λ s. place_in s.units unit) (sym (settings_stay picks call a.0 p a.2)) ∙ here in
      by_call call p calls a unit place low there
      (online hardware credits controller made a.0 calls a.1 unit place low there) (λ e. search (arith, e))
      (remounted picks call a.0 p a.2)
