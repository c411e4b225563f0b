-- What a host has made of a unit is what a port holds of its volume.
use Rattle.mscp_ported.proofs.Common.{Answered, Becomes, Bool, Buffer, Call, ChangesVolume, Connection, End, Ends, Err, GoesOnWithBlock, Hardware, HeedsStep, Holdings, IsChangeAt, IsForgotten, IsMadeOf, IsMounted, IsNews, IsRemounted, List, LookAgain, MayMove, Mount, MoveKind, Next, None, Ok, Option, Picking, Port, Protect, PutAside, ReadIp, Says, Shape, Some, Tick, Verdict, Volume, VolumeCame, VolumeWent, WasRead, Went, WriteIp, WriteSa, [], ap, arith, cases_eq, cases_lt, end_brought, false, false≢true, flagged, get_or-set_other, get_or-set_same, get_or_past, inl, inr, kept_of, length, length-set, mount_after, news_place, no_volume, offline, place_heeded, place_in, protected_by, refl, set, subst, sym, true, volume_at, volume_changed, volume_heeded, volume_protected, volume_put, volumes_heeded, volumes_with, writes, ℕ, ◌<◌, ◌∙◌, ◌∷◌, ◌≡◌, ◌≢◌, ◌≤◌, ◌⊎◌}
use Rattle.mscp_port.specs.declared.action.Action.TheVariants as actions
use Rattle.mscp_port.specs.declared.stage.Stage.TheVariants as stages
use Rattle.mscp_port.proofs.Begun.{taken_or_not}
use Rattle.mscp_ported.proofs.Loads.{looks_or_not}

-- ---- a volume

-- a unit that is online has the volume with which it was brought online, and its host protects what it said
pub record Fits (v : Volume) (m : Mount) : Type 0 where
  pub volume : v.is_mounted ≡ true → m.volume ≡ Some v.changes
  pub host : m.is_protected ≡ v.is_protected_by_host

-- so does one that is as it was
pub record IsAlike (v w : Volume) : Type 0 where
  pub mounted : w.is_mounted ≡ v.is_mounted
  pub changes : w.changes ≡ v.changes
  pub host : w.is_protected_by_host ≡ v.is_protected_by_host

fits_alike : (v w : Volume) (m : Mount) → IsAlike v w → Fits v m → Fits w m
fits_alike v w m alike fits = record {
  volume = λ is. fits.volume (sym alike.mounted ∙ is) ∙ ap Some (sym alike.changes);
  host = fits.host ∙ sym alike.host;
}

flagged_fits : (b : Buffer) (v : Volume) (m : Mount) → Fits v m → Fits (protected_by b v) (flagged b m)
flagged_fits b v m fits = grind (arith)

heeded_of : (code : ℕ) (kept : Option Buffer) (v : Volume) (m : Mount) → Fits v m
    → Fits (volume_heeded code kept v) (mount_after code kept v.changes m)
heeded_of code kept v m fits = grind (arith, flagged_fits, false≢true)

-- ---- the volumes

-- a place behind them, or what is held of the volume there
abbrev Holds : ℕ → List Volume → Mount → Type 0
Holds place vs m = (length vs ≤ place) ⊎ Fits (volume_at vs place) m

-- the volume at that place is another one, or one at another place is
set_here : (vs : List Volume) (place : ℕ) (x : Volume) (m : Mount) → Fits x m → Holds place (set vs place x) m
set_here vs place x m e = elim (cases_lt place (length vs)) [
  | inl low ↦ inr (subst (λ v. Fits v m) (sym (get_or-set_same vs place x no_volume low)) e)
  | inr past ↦ inl (subst (λ n. n ≤ place) (sym (length-set vs place x)) past)
]

set_elsewhere : (vs : List Volume) (place q : ℕ) (x : Volume) (m : Mount) → place ≢ q → Holds place vs m
    → Holds place (set vs q x) m
set_elsewhere vs place q x m ne holds = elim holds [
  | inl past ↦ inl (subst (λ n. n ≤ place) (sym (length-set vs q x)) past)
  | inr e ↦ inr (subst (λ v. Fits v m) (sym (get_or-set_other vs q place x no_volume ne)) e)
]

-- or one that is as it was
set_alike : (vs : List Volume) (place q : ℕ) (x : Volume) (m : Mount) → IsAlike (volume_at vs q) x
    → Holds place vs m → Holds place (set vs q x) m
set_alike vs place q x m alike holds = elim (cases_eq place q) [
  | inr ne ↦ set_elsewhere vs place q x m ne holds
  | inl e ↦ elim holds [
    | inl past ↦ inl (subst (λ n. n ≤ place) (sym (length-set vs q x)) past)
    | inr is ↦ subst (λ i. Holds place (set vs i x) m) e
        (set_here vs place x m (fits_alike (volume_at vs q) x m alike (subst (λ i. Fits (volume_at vs i) m) e is)))
  ]
]

the_same : {K : Type 0} (place : ℕ) (m : Mount) (old new : Port K) → new.volumes ≡ old.volumes
    → Holds place old.volumes m → Holds place new.volumes m
the_same place m old new e holds = subst (λ vs. Holds place vs m) (sym e) holds

-- ---- calls

forgotten : {K : Type 0} (place : ℕ) (old new : Port K) → place < 16 → IsForgotten old new
    → Holds place new.volumes offline
forgotten place old new low f =
    inr (subst (λ v. Fits v offline) (sym (f.1.volumes place low)) (record {
      volume = λ is. absurd
          (false≢true is);
      host = refl;
    }))

-- an end of this unit, by what was held before
ended : (vs : List Volume) (place code : ℕ) (kept : Option Buffer) (m : Mount) → Holds place vs m
    → Holds place (volumes_heeded code kept (Some place) vs) (mount_after code kept (volume_at vs place).changes m)
ended vs place code kept m holds = elim holds [
  | inl past ↦ inl (subst (λ n. n ≤ place) (sym (length-set vs place _)) past)
  | inr e ↦ set_here vs place _ _ (heeded_of code kept (volume_at vs place) m e)
]

ends : {K : Type 0} (picks : Picking K) (place : ℕ) (old new : Port K) (via : Connection) (e : End) (m : Mount)
    → Ends picks place old new via e
    → Holds place old.volumes m
    → Holds place new.volumes (mount_after e.code (kept_of via e.reference old.buffers.items)
    (volume_at old.volumes place).changes m)
ends picks place old new via e m end holds = search (arith, ended, end.step.4)

-- an end of another unit
heeded_elsewhere : (vs : List Volume) (place code : ℕ) (kept : Option Buffer) (o : Option ℕ) (m : Mount)
    → (o ≡ Some place → ⊥) → Holds place vs m → Holds place (volumes_heeded code kept o vs) m
heeded_elsewhere vs place code kept None m ne holds = holds
heeded_elsewhere vs place code kept (Some q) m ne holds =
    set_elsewhere vs place q _ m (λ e. ne (ap Some (sym e))) holds

heeded : {K : Type 0} (place : ℕ) (m : Mount) (old new : Port K) (via : Connection) (verdict : Verdict)
    (ended : Option End)
    → HeedsStep via verdict ended old new
    → ((e : End) → ended ≡ Some e → place_heeded old.controller.settings.units e ≢ Some place)
    → Holds place old.volumes m → Holds place new.volumes m
heeded place m old new via verdict None heeds other holds = search (arith, the_same)
heeded place m old new via verdict (Some e) heeds other holds =
    search (
      arith,
      heeded_elsewhere old.volumes place e.code (kept_of via e.reference old.buffers.items) (place_heeded
          old.controller.settings.units e) m (other e refl) holds,
    )

with_block : {K : Type 0} (picks : Picking K) (place : ℕ) (m : Mount) (old new : Port K)
    → GoesOnWithBlock (picks old.controller.picker) old new
    → (((via : Connection) × (e : End) × Ends picks place old new via e) → ⊥) → Holds place old.volumes m
    → Holds place new.volumes m
with_block picks place m old new goes other holds =
    elim (taken_or_not (picks old.controller.picker) old new goes) [
      | inl e ↦ the_same place m old new (ap (λ p. p.volumes) e) holds
      | inr taken ↦
          let via = taken.0.connection in
          let t = taken.2.finished in
          heeded place m old new via taken.1 (end_brought t.0) t.2 (λ e brought here. other (
            via,
            e,
            record {
              step = (
                taken.0.reference,
                taken.1,
                t.0,
                t.1,
                brought,
                subst (λ o. HeedsStep via taken.1 o old new) brought t.2,
              );
              unit = here;
            },
          )) holds
    ]

-- a volume that comes or goes
unmounted : (v : Volume) (m : Mount) → v.is_mounted ≡ false → v.is_protected_by_host ≡ false
    → Fits v (record m { is_protected = false })
unmounted v m off unguarded = record {
  volume = λ on. absurd (false≢true (sym off ∙ on));
  host = sym unguarded;
}

changed : (vs : List Volume) (becomes : Volume → Volume) (place : ℕ) (m : Mount)
    → ((v : Volume) → Fits (becomes v) (record m { is_protected = false })) → Holds place vs m
    → Holds place (volumes_with becomes (Some place) vs) (record m { is_protected = false })
changed vs becomes place m unprotected holds = elim holds [
  | inl past ↦ inl (subst (λ n. n ≤ place) (sym (length-set vs place _)) past)
  | inr e ↦ set_here vs place (becomes (volume_at vs place)) _ (unprotected (volume_at vs place))
]

changed_here : {K : Type 0} (place : ℕ) (becomes : Volume → Volume) (unit : ℕ) (old new : Port K) (m : Mount)
    → ((v : Volume) → Fits (becomes v) (record m { is_protected = false }))
    → place_in old.controller.settings.units unit ≡ Some place → ChangesVolume becomes unit old new
    → Holds place old.volumes m → Holds place new.volumes (record m { is_protected = false })
changed_here place becomes unit old new m unprotected here frame holds =
    subst (λ vs. Holds place vs (record m { is_protected = false })) (sym (ap (λ p. p.volumes) frame))
    (subst (λ o. Holds place (volumes_with becomes o old.volumes) (record m { is_protected = false })) (sym here)
    (changed old.volumes becomes place m unprotected holds))

changes : {K : Type 0} (picks : Picking K) (place : ℕ) (call : Call) (old new : Port K) (m : Mount)
    → IsChangeAt place call old
    → Becomes picks call old new → Holds place old.volumes m
    → Holds place new.volumes (record m { is_protected = false })
changes picks place (VolumeCame it unit (Ok done)) old new m here r holds =
    changed_here place (volume_put it) unit old new m (λ v. unmounted _ m refl refl) here (r.came refl) holds
changes picks place (VolumeWent unit result) old new m here r holds =
    changed_here place (volume_changed false) unit old new m (λ v. unmounted _ m refl refl) here r.frame holds
changes picks place call old new m here r holds = absurd here

changed_elsewhere : (vs : List Volume) (becomes : Volume → Volume) (place : ℕ) (o : Option ℕ) (m : Mount)
    → (o ≡ Some place → ⊥) → Holds place vs m → Holds place (volumes_with becomes o vs) m
changed_elsewhere vs becomes place None m ne holds = holds
changed_elsewhere vs becomes place (Some q) m ne holds =
    set_elsewhere vs place q _ m (λ e. ne (ap Some (sym e))) holds

-- the hardware's protection is no matter of the host's
guarded : (vs : List Volume) (protected : Bool) (place : ℕ) (o : Option ℕ) (m : Mount) → Holds place vs m
    → Holds place (volumes_with (volume_protected protected) o vs) m
guarded vs protected place None m holds = holds
guarded vs protected place (Some q) m holds =
    set_alike vs place q (volume_protected protected (volume_at vs q)) m
    (record { mounted = refl; changes = refl; host = refl }) holds

-- news, and what goes out else
with_news : (place : ℕ) (m : Mount) (units : List Shape) (vs ws : List Volume) (o : Option ℕ)
    (out : Option _) → IsNews units vs o out ws → Holds place vs m → Holds place ws m
with_news place m units vs ws None out news holds = subst (λ xs. Holds place xs m) (sym news.1) holds
with_news place m units vs ws (Some q) out news holds =
    search (
      arith,
      set_alike vs place q (record (volume_at vs q) { is_news = false }) m (record {
        mounted = refl;
        changes = refl;
        host = refl;
      }) holds,
    )

said : {K : Type 0} (place : ℕ) (m : Mount) (old new : Port K) → Says old new → Holds place old.volumes m
    → Holds place new.volumes m
said place m old new says holds = elim (looks_or_not old) [
  | inr still ↦ the_same place m old new (says.keeps still).volumes holds
  | inl looks ↦ elim (says.looks looks) [
    | inl takes ↦ the_same place m old new takes.volumes holds
    | inr tells ↦ with_news place m old.controller.settings.units old.volumes new.volumes (news_place old) new.outgoing
        tells.out holds
  ]
]

-- a call by which the unit isn't mounted anew
stays : {K : Type 0} (picks : Picking K) (place : ℕ) (m : Mount) (call : Call) (old new : Port K)
    → Becomes picks call old new
    → (IsRemounted picks place call old new → ⊥) → Holds place old.volumes m → Holds place new.volumes m
stays picks place m WriteIp old new r other holds = absurd (other (inl (stages.First, r)))
stays picks place m ReadIp old new r other holds = search (arith, the_same)
stays picks place m (WriteSa word) old new r other holds = search (arith, the_same)
stays picks place m (Next blocks action bytes) old new r other holds = said place m old new r.0.says holds
stays picks place m PutAside old new r other holds = the_same place m old new (ap (λ p. p.volumes) r) holds
stays picks place m (WasRead bytes result) old new r other holds = search (arith, the_same)
stays picks place m (Went outcome result) old new r other holds = elim r.commands [
  | inl e ↦ the_same place m old new e.volumes holds
  | inr more ↦ elim more [
    | inl block ↦ with_block picks place m old new block.1 (λ end. other (inr (inl end))) holds
    | inr dead ↦ absurd (other (inl (stages.Dead dead.0, dead.1)))
  ]
]
stays picks place m LookAgain old new r other holds = the_same place m old new (ap (λ p. p.volumes) r) holds
stays picks place m Tick old new r other holds = search (arith, the_same)
stays picks place m (VolumeCame it unit (Ok done)) old new r other holds =
    subst (λ vs. Holds place vs m) (sym (ap (λ p. p.volumes) (r.came refl)))
    (changed_elsewhere old.volumes (volume_put it) place (place_in old.controller.settings.units unit) m
    (λ here. other (inr (inr here))) holds)
stays picks place m (VolumeCame it unit (Err fault)) old new r other holds =
    the_same place m old new (ap (λ p. p.volumes) r.refused) holds
stays picks place m (VolumeWent unit result) old new r other holds =
    subst (λ vs. Holds place vs m) (sym (ap (λ p. p.volumes) r.frame))
    (changed_elsewhere old.volumes (volume_changed false) place (place_in old.controller.settings.units unit) m
    (λ here. other (inr (inr here))) holds)
stays picks place m (Protect protected unit result) old new r other holds =
    subst (λ vs. Holds place vs m) (sym (ap (λ p. p.volumes) r.frame))
    (guarded old.volumes protected place (place_in old.controller.settings.units unit) m holds)

-- ---- the law

held : {K : Type 0} (picks : Picking K) (hardware : Hardware) (credits : ℕ) (controller : Holdings K) (place : ℕ)
    → place < 16
    → (start p : Port K) (calls : List Call) (m : Mount) → IsMadeOf hardware credits controller start
    → (a : Answered picks start calls p) → IsMounted picks place start p calls a m → Holds place p.volumes m
held picks hardware credits controller place low start p [] m made a is =
    inr (subst (λ q. Fits (volume_at q.volumes place) m) (sym a) (subst (λ v. Fits v m) (sym (made.volumes place low))
    (subst (Fits no_volume) (sym is) (record { volume = λ on. absurd (false≢true on); host = refl }))))
held picks hardware credits controller place low start p (call ∷ calls) m made a is =
    let before = held picks hardware credits controller place low start a.0 calls in
    elim is [
      | inl f ↦ subst (Holds place p.volumes) (sym f.1) (forgotten place a.0 p low f.0)
      | inr more ↦ elim more [
        | inl end ↦ subst (Holds place p.volumes) (sym end.5)
            (ends picks place a.0 p end.0 end.1 end.3 end.2 (before end.3 made a.1 end.4))
        | inr rest ↦ elim rest [
          | inl change ↦ subst (Holds place p.volumes) (sym change.3)
              (changes picks place call a.0 p change.1 change.0 a.2 (before change.1 made a.1 change.2))
          | inr stay ↦ stays picks place m call a.0 p a.2 stay.0 (before m made a.1 stay.1)
        ]
      ]
    ]

-- the mount of a volume that is there
there : (vs : List Volume) (place : ℕ) (m : Mount) → (volume_at vs place).is_there ≡ true → Holds place vs m
    → Fits (volume_at vs place) m
there vs place m is holds = search (arith, false≢true, get_or_past)

pub moves_as_mounted : {K : Type 0} (picks : Picking K) (hardware : Hardware) (credits : ℕ) (controller : Holdings K)
    (start p : Port K)
    (calls : List Call) (blocks : Bool) (kind : MoveKind) (unit block address count place : ℕ) (bytes : List ℕ)
    (m : Mount)
    → IsMadeOf hardware credits controller start
    → (a : Answered picks start (Next blocks (actions.Transfer kind unit block address count) bytes ∷ calls) p)
    → place_in p.controller.settings.units unit ≡ Some place
    → IsMounted picks place start p (Next blocks (actions.Transfer kind unit block address count) bytes ∷ calls) a m
    → (m.volume ≡ Some (volume_at p.volumes place).changes) × (writes kind ≡ true → m.is_protected ≡ false)
moves_as_mounted picks hardware credits controller start p calls blocks kind unit block from count place bytes m made
    a h is =
    let moves = a.2.0.moves kind unit block from count refl in
    let at = moves.1 in
    let same : moves.0 ≡ place = cc in
    let low : place < 16 = subst (λ i. i < 16) same moves.2 in
    let may = subst (λ i. MayMove kind block (volume_at p.volumes i)) same moves.3 in
    let e = there p.volumes place m may.there
    (held picks hardware credits controller place low start p
    (Next blocks (actions.Transfer kind unit block from count) bytes ∷ calls) m made a is) in
    (e.volume may.mounted, λ writing. e.host ∙ may.host writing)
