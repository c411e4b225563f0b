-- A unit that is online after a call was so before, with the same volume, unless the call ended an ONLINE of it.
use Rattle.mscp_logged.proofs.Common.{Becomes, Bool, Buffer, Call, Connection, Dies, End, Ended, Err, Hears, IsNews, IsPassive, List, LookAgain, None, Ok, Option, Outgoing, Picking, Port, Protect, PutAside, ReadIp, Shape, Some, Tick, Volume, VolumeCame, VolumeWent, Wants, WasRead, Went, WriteSa, ap, arith, brought_for, cases_eq, cases_lt, ended_so, false, false≢true, find_cases, find_first, get_or-set_other, get_or-set_same, get_or_past, inl, inr, is_dead, length, length-set, looks_or_not, news_place, no_volume, place_in, position_none, refl, set, subst, sym, true, unit_found, volume_at, volume_found, volume_heeded, volume_in_place, volumes_after, volumes_with, ℕ, ◌%◌, ◌∙◌, ◌≡◌, ◌⊎◌}
use Rattle.mscp_logged.proofs.Describing.{IsAsWas, IsSame, same_volume}

abbrev pub AreAsWere : List Volume → List Volume → Type 0
AreAsWere vs ws = (place : ℕ) → IsAsWas (volume_at vs place) (volume_at ws place)

same_as : (v w : Volume) → w ≡ v → IsAsWas v w
same_as v w e = subst (λ x. IsAsWas v x) (sym e) (λ is. (is, same_volume v))

pub found_as : (units : List Shape) (u : ℕ) (vs ws : List Volume) → AreAsWere vs ws
    → IsAsWas (volume_found units vs u) (volume_found units ws u)
found_as units u vs ws was = grind arith

set_as : (vs : List Volume) (q : ℕ) (x : Volume) → IsAsWas (volume_at vs q) x → AreAsWere vs (set vs q x)
set_as vs q x was place = elim (cases_eq place q) [
  | inl same ↦ elim (cases_lt place (length vs)) [
    | inl within ↦ subst (λ w. IsAsWas (volume_at vs place) w)
        (sym (ap (λ i. volume_at (set vs i x) place) (sym same) ∙ get_or-set_same vs place x no_volume within))
        (subst (λ i. IsAsWas (volume_at vs i) x) (sym same) was)
    | inr past ↦ λ is. absurd (false≢true (sym (ap (λ (v : Volume). v.is_mounted)
        (get_or_past (set vs q x) place no_volume (search (arith, past, length-set vs q x)))) ∙ is))
  ]
  | inr other ↦ same_as (volume_at vs place) (volume_at (set vs q x) place)
      (get_or-set_other vs q place x no_volume other)
]

-- ---- calls of which no end comes

module _ {K : Type 0} (old new : Port K) where
  abbrev So : Type 0
  So = AreAsWere old.volumes new.volumes

  pub volumes_still : new.volumes ≡ old.volumes → So
  volumes_still e = grind arith

  -- where there is no fatal error
  pub alive : {X : Type 0} → is_dead new.stage ≡ false → X ⊎ Dies old new → X
  alive lives x = grind arith

  news_so : (units : List Shape) (o : Option ℕ) (out : Option Outgoing)
      → IsNews units old.volumes o out new.volumes → So
  news_so units o out h = grind (arith, volumes_still, set_as)

  pub next_volumes : (picks : List _ → ℕ → Type 0) (blocks : Bool) (action : _) → Wants picks blocks old action new
      → So
  next_volumes picks blocks action r = elim (looks_or_not old) [
    | inl looks ↦ elim (r.says.looks looks) [
      | inl t ↦ volumes_still t.volumes
      | inr n ↦ news_so old.controller.settings.units (news_place old) new.outgoing n.out
    ]
    | inr never ↦ volumes_still (r.says.keeps never).volumes
  ]

  pub read_volumes : (bytes : List ℕ) (result : _) → Hears bytes old result new
      → (new.volumes ≡ old.volumes) ⊎ Dies old new
  read_volumes bytes result r = elim r.frame [ inl e ↦ inl (ap (λ (q : Port K). q.volumes) e) | inr d ↦ inr d ]

  with_one : (becomes : Volume → Volume) (o : Option ℕ) → ((v : Volume) → IsAsWas v (becomes v))
      → new.volumes ≡ volumes_with becomes o old.volumes → So
  with_one becomes o was e = grind (arith, volumes_still, set_as)

  goes_so : (becomes : Volume → Volume) (o : Option ℕ) → ((v : Volume) → (becomes v).is_mounted ≡ false)
      → new.volumes ≡ volumes_with becomes o old.volumes → So
  goes_so becomes o off = with_one becomes o (λ v is. absurd (false≢true (sym (off v) ∙ is)))

  pub passive_volumes : (picks : Picking K) (call : Call) → Becomes picks call old new → IsPassive call
      → AreAsWere old.volumes new.volumes ⊎ Dies old new
  passive_volumes picks ReadIp r is = grind arith
  passive_volumes picks (WriteSa word) r is = grind arith
  passive_volumes picks PutAside r is = inl (volumes_still (ap (λ (q : Port K). q.volumes) r))
  passive_volumes picks (WasRead bytes (Err unasked)) r is = grind arith
  passive_volumes picks (Went outcome (Err unasked)) r is = grind arith
  passive_volumes picks LookAgain r is = inl (volumes_still (ap (λ (q : Port K). q.volumes) r))
  passive_volumes picks Tick r is = grind arith
  passive_volumes picks (VolumeCame m unit (Ok done)) r is = grind (arith, goes_so)
  passive_volumes picks (VolumeCame m unit (Err fault)) r is = grind arith
  passive_volumes picks (VolumeWent unit result) r is = grind (arith, goes_so)
  passive_volumes picks (Protect protected unit result) r is = grind (arith, with_one)
  passive_volumes picks call r is = absurd is

-- ---- a step

heeded_fields : (code : ℕ) (kept : Option Buffer) (v : Volume) → IsSame v (volume_heeded code kept v)
heeded_fields code None v = grind arith
heeded_fields code (Some b) v = grind arith

alike : (v w : Volume) → w ≡ v → IsSame v w
alike v w e = subst (λ x. IsSame v x) (sym e) (same_volume v)

set_same : (vs : List Volume) (q place : ℕ) (x : Volume) → IsSame (volume_at vs q) x
    → IsSame (volume_at vs place) (volume_at (set vs q x) place)
set_same vs q place x same = elim (cases_eq place q) [
  | inl here ↦ elim (cases_lt place (length vs)) [
    | inl within ↦ subst (λ w. IsSame (volume_at vs place) w)
        (sym (ap (λ i. volume_at (set vs i x) place) (sym here) ∙ get_or-set_same vs place x no_volume within))
        (subst (λ i. IsSame (volume_at vs i) x) (sym here) same)
    | inr past ↦ alike (volume_at vs place) (volume_at (set vs q x) place)
        (get_or_past (set vs q x) place no_volume (search (arith, past, length-set vs q x))
        ∙ sym (get_or_past vs place no_volume (search (arith, past))))
  ]
  | inr other ↦ alike (volume_at vs place) (volume_at (set vs q x) place)
      (get_or-set_other vs q place x no_volume other)
]

module _ (units : List Shape) (bs : List Buffer) (via : Connection) (vs : List Volume) (ended : Option End) where
  abbrev ws : List Volume
  ws = volumes_after units bs via ended vs

  heeded_same : (place : ℕ) → IsSame (volume_at vs place) (volume_at ws place)
  heeded_same place = grind (arith, same_volume, set_same, heeded_fields)

  -- what becomes of a unit's volume: it stays, and is online by an ONLINE that succeeded, or was so before, and no
  -- AVAILABLE succeeded
  abbrev pub Heeded : ℕ → Volume → Volume → Type 0
  Heeded u v w = IsSame v w
      × (w.is_mounted ≡ true → ((v.is_mounted ≡ true) × (Ended 0x88 u (brought_for via ended) → ⊥))
      ⊎ Ended 0x89 u (brought_for via ended))

  pub heeded : (u : ℕ) → Heeded u (volume_found units vs u) (volume_found units ws u)
  heeded u = by (place_in units u) refl
    where
      by : (o : Option ℕ) → place_in units u ≡ o → Heeded u (volume_in_place vs o) (volume_in_place ws o)
      by None here = (same_volume no_volume, λ is. absurd (false≢true is))
      by (Some place) here = (
        heeded_same place,
        ended_so ((volume_at vs place).is_mounted ≡ true)
            ((((volume_at vs place).is_mounted ≡ true) × (Ended 0x88 u (brought_for via ended) → ⊥))
            ⊎ Ended 0x89 u (brought_for via ended)) units u place here bs via vs (λ is. is) ended (λ x. inr x)
            (λ never is. inl (is, never)),
      )

-- an AVAILABLE that succeeded leaves the unit offline, whoever asked for it
available_offline : (kept : Option Buffer) (v : Volume) → (volume_heeded 0x88 kept v).is_mounted ≡ false
available_offline kept v = grind arith

set_off : (vs : List Volume) (q : ℕ) (x : Volume) → x.is_mounted ≡ false
    → (volume_at (set vs q x) q).is_mounted ≡ false
set_off vs q x off = elim (cases_lt q (length vs)) [
  | inl within ↦ ap (λ (v : Volume). v.is_mounted) (get_or-set_same vs q x no_volume within) ∙ off
  | inr past ↦ ap (λ (v : Volume). v.is_mounted)
      (get_or_past (set vs q x) q no_volume (search (arith, past, length-set vs q x)))
]

pub available_off : (units : List Shape) (bs : List Buffer) (via : Connection) (vs : List Volume) (e : End) (u : ℕ)
    → e.code ≡ 0x88 → e.status % 32 ≡ 0 → e.unit ≡ u
    → (volume_found units (volumes_after units bs via (Some e) vs) u).is_mounted ≡ false
available_off units bs via vs e u code good of = grind (arith, set_off, available_offline)

-- where there is no such unit there is no volume
pub missing : (units : List Shape) (vs : List Volume) (u : ℕ) → unit_found units u ≡ None
    → (volume_found units vs u).is_mounted ≡ false
missing units vs u none = grind (arith, find_cases, position_none, find_first)
