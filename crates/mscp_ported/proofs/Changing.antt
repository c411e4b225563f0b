-- How often the volume of a unit changed, and what is kept of a command of which it is known how often since.
use Rattle.mscp_ported.proofs.Common.{Answered, Becomes, Buffer, Call, Connection, End, Hardware, Holdings, IsForgotten, IsMadeOf, IsOfItsVolume, IsSaidBy, List, None, Option, Picking, Port, Shape, Some, Volume, WasRead, [], ap, arith, changed, changed_by, cond, eq-eqb, eqb-true, false, false≢true, get_or_past, inl, inr, length, length-set, mod-add-mod, nat_eq, none-some, one_block, place_in, position-Some, refl, same_Some, set, subst, sym, true, volume_at, volume_heeded, volumes_after, volumes_heeded, volumes_with, ℕ, ◌%◌, ◌+◌, ◌<◌, ◌==◌, ◌∙◌, ◌∷◌, ◌≡◌, ◌≢◌, ◌≤◌, ◌⊎◌}
use Rattle.mscp_ported.proofs.Credits.{settings_stay}
use Rattle.mscp_ported.proofs.Heeded.{keeps_after}
use Rattle.mscp_ported.proofs.Kept.{weaker_for}
use Rattle.mscp_ported.proofs.Said.{Keeps, More, keeps_none}
use Rattle.mscp_ported.proofs.Volumes.{Forgets, Heeds, Remounted, Rests, Switches, Tunes, remounted, set_at}

-- ---- units

-- one place is of one unit
pub same_unit : (units : List Shape) (place unit to : ℕ) → place_in units unit ≡ Some place
    → place_in units to ≡ Some place → to ≡ unit
same_unit units place unit to e f =
    let a = position-Some (λ (u : Shape). nat_eq u.number unit) units place one_block e in
    let b = position-Some (λ (u : Shape). nat_eq u.number to) units place one_block f in
    sym (eqb-true _ to b.1) ∙ eqb-true _ unit a.1

-- and one at another place is another
pub other_unit : (units : List Shape) (unit to place : ℕ) → place_in units unit ≡ Some place
    → (place_in units to ≡ Some place → ⊥) → (to == unit) ≡ false
other_unit units unit to place here other = grind (arith, eqb-true)

-- ---- how often a volume changed

-- so many changes later it has changed so often
abbrev After : ℕ → ℕ → ℕ → Type 0
After n old new = ((n ≡ 0) × (new ≡ old)) ⊎ ((n ≡ 1) × (new ≡ (old + 1) % 0x1_0000_0000))

abbrev Counts : ℕ → ℕ → List Volume → List Volume → Type 0
Counts n place vs ws = (length ws ≡ length vs)
    × ((length vs ≤ place) ⊎ After n (volume_at vs place).changes (volume_at ws place).changes)

-- by a call of a port
abbrev VolumesGoOn : {K : Type 0} → Call → Port K → Port K → Type 0
VolumesGoOn call old new = (unit place : ℕ) → place_in old.controller.settings.units unit ≡ Some place
    → Counts (changed_by unit call) place old.volumes new.volumes

the_same : (n place : ℕ) (vs ws : List Volume) → n ≡ 0 → ws ≡ vs → Counts n place vs ws
the_same n place vs ws none e =
    (ap length e, inr (inl (none, ap (λ xs. (volume_at xs place).changes) e)))

-- the volume at a place is written
set_one : (n place q : ℕ) (vs : List Volume) (x : Volume)
    → (place ≡ q → After n (volume_at vs place).changes x.changes) → (place ≢ q → n ≡ 0)
    → Counts n place vs (set vs q x)
set_one n place q vs x here elsewhere = grind (arith, length-set, set_at)

-- and stays as it was but for other things
set_alike : (n place q : ℕ) (vs : List Volume) (x : Volume) → n ≡ 0 → x.changes ≡ (volume_at vs q).changes
    → Counts n place vs (set vs q x)
set_alike n place q vs x none same = set_one n place q vs x
    (λ e. inl (none, same ∙ ap (λ i. (volume_at vs i).changes) (sym e))) (λ other. none)

heeded_same : (code : ℕ) (kept : Option Buffer) (v : Volume) → (volume_heeded code kept v).changes ≡ v.changes
heeded_same code kept v = grind arith

after_end : (n place : ℕ) (units : List Shape) (bs : List Buffer) (via : Connection) (ended : Option End)
    (vs : List Volume) → n ≡ 0 → Counts n place vs (volumes_after units bs via ended vs)
after_end n place units bs via None vs none = the_same n place vs vs none refl
after_end n place units bs via (Some e) vs none = by e.code _ _
  where
    by : (code : ℕ) (kept : Option Buffer) (o : Option ℕ) → Counts n place vs (volumes_heeded code kept o vs)
    by code kept None = the_same n place vs vs none refl
    by code kept (Some q) = set_alike n place q vs _ none (heeded_same code kept (volume_at vs q))

-- another volume comes into a unit, or none
other_volume : (becomes : Volume → Volume) (units : List Shape) (unit to place : ℕ) (o : Option ℕ) (vs : List Volume)
    → ((v : Volume) → (becomes v).changes ≡ (v.changes + 1) % 0x1_0000_0000) → place_in units unit ≡ Some place
    → place_in units to ≡ o → Counts (cond (to == unit) 1 0) place vs (volumes_with becomes o vs)
other_volume becomes units unit to place None vs one here none = grind (arith, the_same, other_unit, none-some)
other_volume becomes units unit to place (Some q) vs one here there =
    set_one _ place q vs (becomes (volume_at vs q))
    (λ same. inr (
      ap (λ b. cond b 1 0) (eq-eqb to unit (same_unit units place unit to here (there ∙ ap Some (sym same)))),
      one (volume_at vs q) ∙ ap (λ i. ((volume_at vs i).changes + 1) % 0x1_0000_0000) (sym same),
    ))
    (λ other. ap (λ b. cond b 1 0) (other_unit units unit to place here (λ e. other (same_Some place q
    (sym e ∙ there)))))

-- ---- calls

-- all is forgotten, or the volumes go on
pub goes_on : {K : Type 0} (picks : Picking K) (call : Call) (old new : Port K) → Becomes picks call old new
    → IsForgotten old new ⊎ VolumesGoOn call old new
goes_on picks call old new r = by (remounted picks call old new r)
  where
    by : Remounted call old new → IsForgotten old new ⊎ VolumesGoOn call old new
    by (Forgets f) = inl f
    by (Rests calm e) =
        inr (λ unit place here. the_same (changed_by unit call) place old.volumes new.volumes (calm.changes unit) e)
    by (Tunes calm q x t e) = inr (λ unit place here.
        subst (λ ws. Counts (changed_by unit call) place old.volumes ws) (sym e)
        (set_alike (changed_by unit call) place q old.volumes x (calm.changes unit) t.changes))
    by (Switches becomes s to changes none e) = inr (λ unit place here.
        subst (λ ws. Counts (changed_by unit call) place old.volumes ws) (sym e)
        (subst (λ n. Counts n place old.volumes
        (volumes_with becomes (place_in old.controller.settings.units to) old.volumes)) (sym (changes unit))
        (other_volume becomes old.controller.settings.units unit to place _ old.volumes s.changes here refl)))
    by (Heeds via ended none from to e) = grind (arith, after_end)

-- ---- what is kept of a command

module _ {K : Type 0} (picks : Picking K) (start : Port K) where
  -- a message of this number and to this unit was read, since which the volume changed so often
  abbrev pub Ago : ℕ → ℕ → (p : Port K) → (calls : List Call) → Answered picks start calls p → Buffer → ℕ → Type 0
  Ago number unit p [] a b m = ⊥
  Ago number unit p (call ∷ earlier) a b m =
      (IsSaidBy number unit call a.0 b × (m ≡ 0))
      ⊎ ((n : ℕ) × (m ≡ changed_by unit call + n) × Ago number unit a.0 earlier a.1 b n)

  few_ago : (number unit : ℕ) (p : Port K) (calls : List Call) (a : Answered picks start calls p) (b : Buffer) (m : ℕ)
      → Ago number unit p calls a b m → m ≤ changed unit calls
  few_ago number unit p [] a b m h = absurd h
  few_ago number unit p (call ∷ earlier) a b m (inl h) = search (arith, h.1)
  few_ago number unit p (call ∷ earlier) a b m (inr h) =
      let few = few_ago number unit a.0 earlier a.1 b h.0 h.2 in search (arith, few, h.1)

  pub none_ago : (number unit : ℕ) (p : Port K) (calls : List Call) (a : Answered picks start calls p) (b : Buffer)
      (m : ℕ) → m ≡ 0 → Ago number unit p calls a b m → IsOfItsVolume picks number unit start p calls a b
  none_ago number unit p [] a b m none h = absurd h
  none_ago number unit p (call ∷ earlier) a b m none (inl h) = inl h.0
  none_ago number unit p (call ∷ earlier) a b m none (inr h) =
      grind (arith, none_ago number unit a.0 earlier a.1 b h.0 (search (arith, none, h.1)) h.2)

  -- it has changed so often since this was kept
  abbrev pub IsApart : ℕ → ℕ → ℕ → Type 0
  IsApart kept m now = ((m ≡ 0) × (now ≡ kept)) ⊎ (now ≡ (kept + m) % 0x1_0000_0000)

  apart_more : (kept m now n later : ℕ) → IsApart kept m now → After n now later → IsApart kept (n + m) later
  apart_more kept m now n later h k = grind (arith, mod-add-mod)

  abbrev pub SaidAgo : (p : Port K) → (calls : List Call) → Answered picks start calls p → ℕ → Buffer → Type 0
  SaidAgo p calls a unit b = (m : ℕ) × Ago b.reference unit p calls a b m
      × ((place : ℕ) → place_in p.controller.settings.units unit ≡ Some place
      → (length p.volumes ≤ place) ⊎ IsApart b.changes m (volume_at p.volumes place).changes)

  -- what is kept of a message as it comes
  said_now : (call : Call) (p : Port K) (calls : List Call) (a : Answered picks start (call ∷ calls) p) (unit : ℕ)
      (b : Buffer) → VolumesGoOn call a.0 p → p.controller.settings ≡ a.0.controller.settings
      → IsSaidBy b.reference unit call a.0 b → SaidAgo p (call ∷ calls) a unit b
  said_now (WasRead bytes result) p calls a unit b goes same said = grind arith
  said_now call p calls a unit b goes same said = absurd said

  said_before : (call : Call) (p : Port K) (calls : List Call) (a : Answered picks start (call ∷ calls) p) (unit : ℕ)
      (b : Buffer) → VolumesGoOn call a.0 p → p.controller.settings ≡ a.0.controller.settings
      → SaidAgo a.0 calls a.1 unit b → SaidAgo p (call ∷ calls) a unit b
  said_before call p calls a unit b goes same said = (
    changed_by unit call + said.0,
    inr (said.0, refl, said.1),
    λ place here.
        let there : place_in a.0.controller.settings.units unit ≡ Some place =
        ap (λ s. place_in s.units unit) (sym same) ∙ here in
        let on = goes unit place there in
        elim on.1 [
          | inl past ↦ inl (subst (λ n. n ≤ place) (sym on.0) past)
          | inr after ↦ elim (said.2 place there) [
            | inl past ↦ inl (subst (λ n. n ≤ place) (sym on.0) past)
            | inr apart ↦ inr (apart_more b.changes said.0 (volume_at a.0.volumes place).changes
                (changed_by unit call) (volume_at p.volumes place).changes apart after)
          ]
        ],
  )

  pub kept_ago : (hardware : Hardware) (credits : ℕ) (controller : Holdings K) (p : Port K) (calls : List Call)
      → IsMadeOf hardware credits controller start → (a : Answered picks start calls p)
      → Keeps (λ unit b. SaidAgo p calls a unit b) p
  kept_ago hardware credits controller p [] made a =
      keeps_none (λ unit b. SaidAgo p [] a unit b) p (ap (λ q. q.buffers.items) a ∙ made.buffers)
  kept_ago hardware credits controller p (call ∷ calls) made a = elim (goes_on picks call a.0 p a.2) [
    | inl forgotten ↦ keeps_none (λ unit b. SaidAgo p (call ∷ calls) a unit b) p forgotten.1.buffers
    | inr goes ↦ λ b there.
        let same = settings_stay picks call a.0 p a.2 in
        weaker_for (λ unit. More call a.0 (λ u x. SaidAgo a.0 calls a.1 u x) unit b)
        (λ unit. SaidAgo p (call ∷ calls) a unit b) b.reference p.controller.waiting
        (λ unit either. elim either [
          | inl said ↦ said_now call p calls a unit b goes same said
          | inr before ↦ said_before call p calls a unit b goes same before
        ])
        (keeps_after picks (λ unit x. SaidAgo a.0 calls a.1 unit x) call a.0 p a.2
        (kept_ago hardware credits controller a.0 calls made a.1) b there)
  ]

  -- few changes are none where the volume is that which was there
  wraps : (kept m now : ℕ) → IsApart kept m now → kept ≡ now → m < 0x1_0000_0000 → m ≡ 0
  wraps kept m now (inl h) same few = h.0
  wraps kept m now (inr h) same few = omega (arith, h, same, few)

  pub of_its_volume : (p : Port K) (calls : List Call) (a : Answered picks start calls p) (unit place : ℕ) (b : Buffer)
      → SaidAgo p calls a unit b → place_in p.controller.settings.units unit ≡ Some place
      → (volume_at p.volumes place).is_there ≡ true → b.changes ≡ (volume_at p.volumes place).changes
      → changed unit calls < 0x1_0000_0000 → IsOfItsVolume picks b.reference unit start p calls a b
  of_its_volume p calls a unit place b said here there same few =
      grind (arith, false≢true, get_or_past, few_ago, none_ago, wraps)
