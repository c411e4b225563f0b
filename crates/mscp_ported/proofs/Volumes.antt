-- What becomes of the volumes of a port by a call, case by case.
use Rattle.mscp_ported.proofs.Common.{Becomes, Bool, Call, Choice, Connection, Contains, End, Err, Goes, IsForgotten, IsNews, List, LookAgain, Next, None, Ok, Option, Outgoing, Picking, Port, Protect, PutAside, Says, Shape, Some, Succeeds, Tick, Volume, VolumeCame, VolumeWent, Went, WriteIp, [], ap, append-nil, arith, cases_eq, cases_lt, changed_by, come, cond, end_brought, false, false≢true, get_or-set_other, get_or-set_same, get_or_past, inl, inr, length, length-set, news_place, no_volume, place_in, refl, set, subst, sym, taken_or_not, true, volume_at, volume_changed, volume_protected, volume_put, volumes_after, volumes_with, ℕ, ◌%◌, ◌+◌, ◌==◌, ◌∙◌, ◌≡◌, ◌≢◌, ◌≤◌}
use Rattle.mscp_ported.proofs.Loads.{looks_or_not}
use Rattle.mscp_port.specs.declared.stage.Stage.TheVariants as stages
use Rattle.mscp_ported.proofs.Coming.{brought_for, come_so, ends_of, steps_bring}

-- ---- a volume

-- the volume at a place, once this was written at a place
pub data SetAt (place q : ℕ) (vs : List Volume) (x : Volume) : Type 0 where
  Here : place ≡ q → volume_at (set vs q x) place ≡ x → SetAt place q vs x
  Past : length vs ≤ place → volume_at (set vs q x) place ≡ no_volume → SetAt place q vs x
  Elsewhere : place ≢ q → volume_at (set vs q x) place ≡ volume_at vs place → SetAt place q vs x

pub set_at : (place q : ℕ) (vs : List Volume) (x : Volume) → SetAt place q vs x
set_at place q vs x = grind (arith, cases_eq, cases_lt, get_or-set_same, get_or_past, length-set, get_or-set_other)

-- it is there as before, as often changed and as online, and its host is to hear of it no more than before
pub record IsTuned (v x : Volume) : Type 0 where
  pub there : x.is_there ≡ v.is_there
  pub mounted : x.is_mounted ≡ v.is_mounted
  pub changes : x.changes ≡ v.changes
  pub news : x.is_news ≡ true → v.is_news ≡ true

-- another volume comes, or none
pub record IsSwitch (becomes : Volume → Volume) : Type 0 where
  pub offline : (v : Volume) → (becomes v).is_mounted ≡ false
  pub changes : (v : Volume) → (becomes v).changes ≡ (v.changes + 1) % 0x1_0000_0000
  pub news : (v : Volume) → (becomes v).is_news ≡ true → (becomes v).is_there ≡ true

-- an end of Success with this endcode, of a command to this unit
abbrev pub Ended : ℕ → ℕ → List End → Type 0
Ended code unit es = (e : End) × Contains es e × (e.code ≡ code) × (e.unit ≡ unit) × (e.status % 32 ≡ 0)

pub none_ended : (code unit : ℕ) (es : List End) → es ≡ [] → Ended code unit es → ⊥
none_ended code unit es none h = grind arith

-- ---- a call

-- no volume comes by it or goes, and no end of a step
pub record IsCalm {K : Type 0} (call : Call) (old new : Port K) : Type 0 where
  pub changes : (unit : ℕ) → changed_by unit call ≡ 0
  pub ended : (code unit : ℕ) → Succeeds code unit call old new → ⊥

pub data Remounted {K : Type 0} (call : Call) (old new : Port K) : Type 0 where
  Forgets : IsForgotten old new → Remounted call old new
  Rests : IsCalm call old new → new.volumes ≡ old.volumes → Remounted call old new
  Tunes : IsCalm call old new → (q : ℕ) (x : Volume) → IsTuned (volume_at old.volumes q) x
      → new.volumes ≡ set old.volumes q x → Remounted call old new
  Switches : (becomes : Volume → Volume) → IsSwitch becomes → (to : ℕ)
      → ((unit : ℕ) → changed_by unit call ≡ cond (to == unit) 1 0)
      → ((code unit : ℕ) → Succeeds code unit call old new → ⊥)
      → new.volumes ≡ volumes_with becomes (place_in old.controller.settings.units to) old.volumes
      → Remounted call old new
  -- the end of a step that was told is heeded
  Heeds : (via : Connection) (ended : Option End) → ((unit : ℕ) → changed_by unit call ≡ 0)
      → ((code unit : ℕ) → Succeeds code unit call old new → Ended code unit (brought_for via ended))
      → ((code unit : ℕ) → Ended code unit (brought_for via ended) → Succeeds code unit call old new)
      → new.volumes ≡ volumes_after old.controller.settings.units old.buffers.items via ended old.volumes
      → Remounted call old new

module _ {K : Type 0} {call : Call} {old new : Port K} (calm : IsCalm call old new) where
  with_news : (units : List Shape) (o : Option ℕ) (out : Option Outgoing)
      → IsNews units old.volumes o out new.volumes → Remounted call old new
  with_news units None out h = Rests calm h.1
  with_news units (Some q) out h =
      Tunes calm q _ (record { there = refl; mounted = refl; changes = refl; news = λ e. absurd (false≢true e) }) h.1

  says_so : Says old new → Remounted call old new
  says_so says = elim (looks_or_not old) [
    | inl looks ↦ elim (says.looks looks) [
      | inl t ↦ Rests calm t.volumes
      | inr n ↦ with_news old.controller.settings.units (news_place old) new.outgoing n.out
    ]
    | inr never ↦ Rests calm (says.keeps never).volumes
  ]

  guards : (protected : Bool) (o : Option ℕ) → new.volumes ≡ volumes_with (volume_protected protected) o old.volumes
      → Remounted call old new
  guards protected None e = Rests calm e
  guards protected (Some q) e =
      Tunes calm q _ (record { there = refl; mounted = refl; changes = refl; news = λ e. e }) e

-- by an action that went somehow an end may come
went_so : {K : Type 0} (picks : List Choice → ℕ → Type 0) (outcome : _) (done : Unit) (old new : Port K)
    → Goes picks outcome old (Ok done) new → Remounted (Went outcome (Ok done)) old new
went_so picks outcome done old new r = elim r.commands [
  | inl e ↦ Rests (none_came (ap ends_of e.controller)) e.volumes
  | inr more ↦ elim more [
    | inl block ↦ elim (taken_or_not picks old new block.1) [
      | inl e ↦ Rests (none_came (ap (λ p. ends_of p.controller) e)) (ap (λ p. p.volumes) e)
      | inr t ↦
          let via = t.0.connection in
          let f = t.2.finished in
          let came = come_so old new (brought_for via (end_brought f.0))
          (steps_bring picks via t.0.reference _ old.controller new.controller f.0 f.1) in
          Heeds via (end_brought f.0) (λ unit. refl) (λ code unit h. subst (λ es. Ended code unit es) came h)
          (λ code unit h. subst (λ es. Ended code unit es) (sym came) h) (ap (λ p. p.volumes) f.2.frame)
    ]
    | inr dead ↦ Forgets (stages.Dead dead.0, dead.1)
  ]
]
  where
    none_came : ends_of new.controller ≡ ends_of old.controller → IsCalm (Went outcome (Ok done)) old new
    none_came e = record {
      changes = λ unit. refl;
      ended = λ code unit. none_ended code unit (come old new)
          (come_so old new [] (e ∙ sym (append-nil (ends_of old.controller))));
    }

pub remounted : {K : Type 0} (picks : Picking K) (call : Call) (old new : Port K) → Becomes picks call old new
    → Remounted call old new
remounted picks WriteIp old new r = Forgets (stages.First, r)
remounted picks (Next blocks action bytes) old new r =
    says_so (record { changes = λ unit. refl; ended = λ code unit h. h }) r.0.says
remounted picks PutAside old new r =
    Rests (record { changes = λ unit. refl; ended = λ code unit h. h }) (ap (λ p. p.volumes) r)
remounted picks (Went outcome (Ok done)) old new r =
    went_so (picks old.controller.picker) outcome done old new r
remounted picks (Went outcome (Err unasked)) old new r =
    Rests (record { changes = λ unit. refl; ended = λ code unit h. h }) (ap (λ p. p.volumes) r.unasked)
remounted picks LookAgain old new r =
    Rests (record { changes = λ unit. refl; ended = λ code unit h. h }) (ap (λ p. p.volumes) r)
remounted picks Tick old new r = grind arith
remounted picks (VolumeCame m to (Ok done)) old new r = Switches (volume_put m)
    (record { offline = λ v. refl; changes = λ v. refl; news = λ v e. refl }) to (λ unit. refl) (λ code unit h. h)
    (ap (λ p. p.volumes) (r.came refl))
remounted picks (VolumeCame m to (Err fault)) old new r =
    Rests (record { changes = λ unit. refl; ended = λ code unit h. h }) (ap (λ p. p.volumes) r.refused)
remounted picks (VolumeWent to (Ok done)) old new r = Switches (volume_changed false)
    (record { offline = λ v. refl; changes = λ v. refl; news = λ v e. e }) to (λ unit. refl) (λ code unit h. h)
    (ap (λ p. p.volumes) r.frame)
remounted picks (VolumeWent to (Err fault)) old new r = grind arith
remounted picks (Protect protected to result) old new r =
    guards (record { changes = λ unit. refl; ended = λ code unit h. h }) protected
    (place_in old.controller.settings.units to) (ap (λ p. p.volumes) r.frame)
remounted picks call old new r = grind arith
