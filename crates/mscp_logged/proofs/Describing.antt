-- What ends say of what a unit is, while it is online, is borne out by those that come behind them.
use Rattle.mscp_logged.proofs.Common.{Answer, Bool, First, Identity, List, None, Option, Shape, Some, Told, Volume, [], after_other, after_own, agrees, and_parts, answer_by, ap, brings, cond, describes, eq-eqb, eqb-true, false, false≢true, fits, if◌then◌else◌, inl, inr, is_known_unit, is_single, is_unsure, learns, little_bytes, nat_eq, none-some, not, num, or_right, refl, same_Some, subst, sym, tells_unit, told_after_end, true, was_online, ℕ, ◌%◌, ◌&&◌, ◌++◌, ◌||◌, ◌∙◌, ◌∷◌, ◌≡◌, ◌⊎◌}
use Rattle.mscp_wire.specs.Wire.{leaves}
use Rattle.mscp_logged.proofs.Claims.{Claimed, claimed_as, claimed_more}

-- ---- volumes

-- both are the same volume, as far as hosts are told
pub record IsSame (v w : Volume) : Type 0 where
  pub there : w.is_there ≡ v.is_there
  pub media : w.media ≡ v.media
  pub size : w.size ≡ v.size

pub same_volume : (v : Volume) → IsSame v v
same_volume v = record { there = refl; media = refl; size = refl }

-- a unit that is online was so before, with this volume
abbrev pub IsAsWas : Volume → Volume → Type 0
IsAsWas v w = w.is_mounted ≡ true → (v.is_mounted ≡ true) × IsSame v w

-- what is told of a unit with a volume
abbrev identity_with : Shape → Bool → ℕ → ℕ → Identity
identity_with unit there media size = record {
  identifier = num (little_bytes 8 unit.id) 0 8;
  media = num (little_bytes 4 (if there then media else unit.media)) 0 4;
  size = Some (num (little_bytes 4 (if there then size else unit.size)) 0 4);
}

abbrev pub identity_of : Shape → Volume → Identity
identity_of unit v = identity_with unit v.is_there v.media v.size

abbrev pub sizeless : Identity → Identity
sizeless i = record i { size = None }

-- it is told, with its size or without it
abbrev pub IsIdentityOf : Option Shape → Volume → Option Identity → Type 0
IsIdentityOf None v told = ⊥
IsIdentityOf (Some unit) v told =
    (told ≡ Some (identity_of unit v)) ⊎ (told ≡ Some (sizeless (identity_of unit v)))

-- what is known of a unit is so of this volume
abbrev pub Fits : Option Shape → Volume → Identity → Type 0
Fits None v known = ⊥
Fits (Some unit) v known = agrees (Some (identity_of unit v)) known ≡ true

-- if the unit is online with it
abbrev pub Holds : Option Shape → Volume → Identity → Type 0
Holds o v known = v.is_mounted ≡ true → Fits o v known

fits_same : (o : Option Shape) (v w : Volume) (known : Identity) → IsSame v w → Fits o v known → Fits o w known
fits_same None v w known same f = f
fits_same (Some unit) v w known same f = subst (λ i. agrees (Some i) known ≡ true)
    (sym (ap (λ t. identity_with unit t w.media w.size) same.there
    ∙ ap (λ m. identity_with unit v.is_there m w.size) same.media
    ∙ ap (λ n. identity_with unit v.is_there v.media n) same.size)) f

without_size : (x y z : Bool) → (x && y && z) ≡ true → (x && y && true) ≡ true
without_size true true z e = refl
without_size true false z e = absurd (false≢true e)
without_size false y z e = absurd (false≢true e)

-- what is told agrees with what is known
told_agrees : (o : Option Shape) (v : Volume) (told : Option Identity) (known : Identity) → IsIdentityOf o v told
    → Fits o v known → agrees told known ≡ true
told_agrees None v told known is f = absurd is
told_agrees (Some unit) v told known (inl e) f = subst (λ x. agrees x known ≡ true) (sym e) f
told_agrees (Some unit) v told known (inr e) f = rw e
    (without_size (nat_eq (identity_of unit v).identifier known.identifier) (nat_eq (identity_of unit v).media
    known.media) (fits (identity_of unit v).size known.size) f)

both_same : (a b : ℕ) (z : Bool) → z ≡ true → (nat_eq a a && nat_eq b b && z) ≡ true
both_same a b z e = ap (λ x. x && nat_eq b b && z) (eq-eqb a a refl) ∙ ap (λ x. x && z) (eq-eqb b b refl) ∙ e

-- and is so of the volume
told_fits : (o : Option Shape) (v : Volume) (told : Option Identity) (x : Identity) → IsIdentityOf o v told
    → told ≡ Some x → Fits o v x
told_fits None v told x is e = absurd is
told_fits (Some unit) v told x (inl same) e = rw (← same_Some (identity_of unit v) x (sym same ∙ e))
    (both_same (identity_of unit v).identifier (identity_of unit v).media _
    (eq-eqb (num (little_bytes 4 (cond v.is_there v.size unit.size)) 0 4)
    (num (little_bytes 4 (cond v.is_there v.size unit.size)) 0 4) refl))
told_fits (Some unit) v told x (inr same) e = rw (← same_Some (sizeless (identity_of unit v)) x (sym same ∙ e))
    (both_same (identity_of unit v).identifier (identity_of unit v).media true refl)

tells_online : (c s k x z : Bool) → (c && s) ≡ true → k ≡ true → (s && (x || (c && k) || z)) ≡ true
tells_online true true true true z g j = refl
tells_online true true true false z g j = refl
tells_online true true false x z g j = absurd (false≢true j)
tells_online true false k x z g j = absurd (false≢true g)
tells_online false s k x z g j = absurd (false≢true g)

-- ---- ends

-- an end names the unit of this number
abbrev pub mine : ℕ → List ℕ → Bool
mine u text = nat_eq (num text 4 2) u

-- what it tells is known
abbrev pub Bears : ℕ → Identity → List ℕ → Type 0
Bears u known text = mine u text ≡ true → is_known_unit (Some known) (answer_by First text) ≡ true

-- nothing is known behind it, but what it tells itself
abbrev voids_with : Answer → Bool
voids_with e = leaves e || (brings e && not (was_online e))

abbrev pub voids : ℕ → List ℕ → Bool
voids u text = mine u text && voids_with (answer_by First text)

abbrev claim_with : Answer → Option Identity
claim_with e = if describes e then e.identity else None

abbrev pub claim : ℕ → List ℕ → Option Identity
claim u text = if mine u text then claim_with (answer_by First text) else None

-- it tells what the unit is, with the volume that is there as it comes; before, the unit had this one
pub record Tells (o : Option Shape) (before now : Volume) (e : Answer) : Type 0 where
  pub described : describes e ≡ true → IsIdentityOf o now e.identity
  pub told : tells_unit e ≡ true → is_unsure e ≡ false → (before.is_mounted ≡ true) × IsSame before now
  pub stays : brings e ≡ false → IsAsWas before now

-- if it names that unit. Otherwise that stays as it was
pub record IsTold (u : ℕ) (o : Option Shape) (before now : Volume) (text : List ℕ) : Type 0 where
  pub own : mine u text ≡ true → Tells o before now (answer_by First text)
  pub other : mine u text ≡ false → IsAsWas before now

abbrev pub Known : (u : ℕ) → Option Shape → Volume → Option Identity → List (List ℕ) → Type 0
Known u o v told qs = Claimed (Bears u) (voids u) (claim u) (Holds o v) told qs

module _ (u : ℕ) (o : Option Shape) (v w : Volume) where
  stays_held : IsAsWas v w → (x : Identity) → Holds o v x → Holds o w x
  stays_held was x h is = let s = was is in fits_same o v w x s.1 (h s.0)

  -- the volume stays as it is, or goes
  pub known_still : IsAsWas v w → (told : Option Identity) (qs : List (List ℕ)) → Known u o v told qs
      → Known u o w told qs
  known_still was = claimed_as (Bears u) (voids u) (claim u) (Holds o v) (Holds o w) (stays_held was)

  module _ (text : List ℕ) (is : IsTold u o v w text) where
    abbrev e : Answer
    e = answer_by First text

    known_is : (x : Identity) (b c : Bool) → tells_unit e ≡ b → is_unsure e ≡ c
        → is_known_unit (Some x) (answer_by First text)
        ≡ (not b || c || agrees (answer_by First text).identity x)
    known_is x b c f g = ap (λ t. not t || is_unsure e || agrees e.identity x) f
        ∙ ap (λ t. not b || t || agrees e.identity x) g

    bears : (x : Identity) → Holds o v x → Bears u x text
    bears x h here = by (tells_unit e) refl (is_unsure e) refl
      where
        s : Tells o v w (answer_by First text)
        s = is.own here

        by : (b : Bool) → tells_unit e ≡ b → (c : Bool) → is_unsure e ≡ c
            → is_known_unit (Some x) (answer_by First text) ≡ true
        by false f c g = known_is x false c f g
        by true f true g = known_is x true true f g
        by true f false g = known_is x true false f g
            ∙ told_agrees o w e.identity x (s.described (or_right (brings e) (tells_unit e) f))
            (fits_same o v w x (s.told f g).1 (h (s.told f g).0))

    goes_on : (x : Identity) → Holds o v x → voids u text ≡ false → Holds o w x
    goes_on x h none = by (mine u text) refl none
      where
        still : (l b k : Bool) → leaves e ≡ l → brings e ≡ b → was_online e ≡ k → (l || (b && not k)) ≡ false
            → Tells o v w (answer_by First text) → Holds o w x
        still true b k f g j none s = absurd (false≢true (sym none))
        still false false k f g j none s = stays_held (s.stays g) x h
        still false true false f g j none s = absurd (false≢true (sym none))
        still false true true f g j none s = λ is.
            let t = s.told (tells_online (nat_eq e.code 0x89) (nat_eq (e.status % 32) 0) (was_online e)
            (nat_eq e.code 0x83) (nat_eq e.code 0x8A) g j) (ap (λ n. nat_eq n 0x8A) (eqb-true e.code 0x89
            (and_parts (nat_eq e.code 0x89) (nat_eq (e.status % 32) 0) g).0)) in
            fits_same o v w x t.1 (h t.0)

        by : (b : Bool) → mine u text ≡ b → (b && voids_with (answer_by First text)) ≡ false → Holds o w x
        by false here none = stays_held (is.other here) x h
        by true here none = still (leaves e) (brings e) (was_online e) refl refl refl none (is.own here)

    own : (x : Identity) → claim u text ≡ Some x → Holds o w x
    own x c held = by (mine u text) refl (describes e) refl c
      where
        by : (b : Bool) → mine u text ≡ b → (d : Bool) → describes e ≡ d
            → cond b (cond d (answer_by First text).identity None) None ≡ Some x → Fits o w x
        by false here d f c = absurd (none-some x c)
        by true here false f c = absurd (none-some x c)
        by true here true f c = told_fits o w e.identity x ((is.own here).described f) c

    -- an end comes
    pub known_more : (told : Option Identity) (qs : List (List ℕ)) → Known u o v told qs
        → Known u o w told (qs ++ text ∷ [])
    known_more = claimed_more (Bears u) (voids u) (claim u) (Holds o v) (Holds o w) text
        (λ x h. (bears x h, goes_on x h)) own

-- ---- what a host was told

-- is what it was told before, or what the end tells
pub identity_after : (u : ℕ) (settled : Bool) (told : Told) (text : List ℕ) (x : Identity)
    → (told_after_end First u settled told (answer_by First text)).identity ≡ Some x
    → ((told.identity ≡ Some x) × (voids u text ≡ false)) ⊎ (claim u text ≡ Some x)
identity_after u settled told text x = by (mine u text) refl settled
  where
    e : Answer
    e = answer_by First text

    So : Type 0
    So = ((told.identity ≡ Some x) × (voids u text ≡ false)) ⊎ (claim u text ≡ Some x)

    void_is : (m l b k : Bool) → mine u text ≡ m → leaves e ≡ l → brings e ≡ b → was_online e ≡ k
        → voids u text ≡ (m && (l || (b && not k)))
    void_is m l b k f g h j = ap (λ t. t && (leaves e || (brings e && not (was_online e)))) f
        ∙ ap (λ t. m && (t || (brings e && not (was_online e)))) g
        ∙ ap (λ t. m && (l || (t && not (was_online e)))) h ∙ ap (λ t. m && (l || (b && not t))) j

    claims : mine u text ≡ true → describes e ≡ true → e.identity ≡ Some x → So
    claims f g is = inr (ap (λ t. cond t (claim_with (answer_by First text)) None) f
        ∙ ap (λ t. cond t (answer_by First text).identity None) g ∙ is)

    learnt : (b : Bool) → tells_unit e ≡ b → (b && not told.sure && is_single told.state)
        ≡ true → tells_unit e ≡ true
    learnt true f h = f
    learnt false f h = absurd (false≢true h)

    own : (l b k n : Bool) → mine u text ≡ true → leaves e ≡ l → brings e ≡ b → was_online e ≡ k → learns told e ≡ n
        → cond l None (cond (b || n) (answer_by First text).identity told.identity) ≡ Some x → So
    own true b k n f g h j i is = absurd (none-some x is)
    own false true k n f g h j i is = claims f (ap (λ t. t || tells_unit e) h) is
    own false false k true f g h j i is =
        claims f (or_right (brings e) (tells_unit e) (learnt (tells_unit e) refl i)) is
    own false false k false f g h j i is = inl (is, void_is true false false k f g h j)

    other : (l b k : Bool) → mine u text ≡ true → leaves e ≡ l → brings e ≡ b → was_online e ≡ k
        → cond (l || (b && not k)) None told.identity ≡ Some x → So
    other l b k f g h j = split (l || (b && not k)) refl
      where
        split : (c : Bool) → (l || (b && not k)) ≡ c → cond c None told.identity ≡ Some x → So
        split true v is = absurd (none-some x is)
        split false v is = inl (is, void_is true l b k f g h j ∙ v)

    by : (m : Bool) → mine u text ≡ m → (s : Bool)
        → (cond (not m) told (cond (true && s) (after_own told (answer_by First text))
        (after_other told (answer_by First text)))).identity ≡ Some x → So
    by false f s is = inl (is, ap (λ t. t && voids_with (answer_by First text)) f)
    by true f true is = own (leaves e) (brings e) (was_online e) (learns told e) f refl refl refl refl is
    by true f false is = other (leaves e) (brings e) (was_online e) f refl refl refl is
