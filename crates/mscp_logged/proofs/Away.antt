-- What ends say of whether a unit is online is borne out by those that come behind them: of one that they said isn't
-- none says that it is, before one brought it online.
use Rattle.mscp_logged.proofs.Common.{Answer, Away, Bool, First, List, None, Open, Option, Sent, Shared, Some, State, Told, Volume, [], after_other, after_own, and_parts, answer_by, ap, brings, command_at, cond, count_on, eqb-true, false, false≢true, if◌then◌else◌, inl, inr, is_late, is_settled_at, is_turning, list_any, nat_eq, nat_le, none-some, not, place_of, refl, says_away, says_online, settles, sym, told_after_end, true, turned, went, ℕ, ◌%◌, ◌&&◌, ◌++◌, ◌||◌, ◌∙◌, ◌∷◌, ◌≡◌, ◌⊎◌}
use Rattle.mscp_logged.proofs.Claims.{Claimed, claimed_as, claimed_more}
use Rattle.mscp_logged.proofs.Describing.{IsAsWas, mine}

-- ---- ends

-- the unit was told to be away
abbrev pub told_away : State → Option (Unit {0})
told_away Away = Some tt
told_away state = None

abbrev pub Denies : ℕ → Unit {0} → List ℕ → Type 0
Denies u x text = mine u text ≡ true → says_online (answer_by First text) ≡ false

abbrev pub opens : ℕ → List ℕ → Bool
opens u text = mine u text && brings (answer_by First text)

abbrev pub takes_away : ℕ → List ℕ → Option (Unit {0})
takes_away u text = if mine u text && says_away (answer_by First text) then Some tt else None

abbrev pub IsAway : Volume → Unit {0} → Type 0
IsAway v x = v.is_mounted ≡ false

-- an end says that its unit is online only if it was so with this volume as it came, and that it isn't only if it isn't
-- with that one
pub record Says (before now : Volume) (e : Answer) : Type 0 where
  pub online : says_online e ≡ true → before.is_mounted ≡ true
  pub away : says_away e ≡ true → now.is_mounted ≡ false
  pub stays : brings e ≡ false → IsAsWas before now

pub record IsPlaced (u : ℕ) (before now : Volume) (text : List ℕ) : Type 0 where
  pub own : mine u text ≡ true → Says before now (answer_by First text)
  pub other : mine u text ≡ false → IsAsWas before now

abbrev pub Placed : (u : ℕ) → Volume → Option (Unit {0}) → List (List ℕ) → Type 0
Placed u v told qs = Claimed (Denies u) (opens u) (takes_away u) (IsAway v) told qs

module _ (u : ℕ) (v w : Volume) where
  off : IsAsWas v w → (x : Unit {0}) → IsAway v x → IsAway w x
  off was x away = by w.is_mounted refl
    where
      by : (b : Bool) → w.is_mounted ≡ b → w.is_mounted ≡ false
      by false e = e
      by true e = absurd (false≢true (sym away ∙ (was e).0))

  pub placed_still : IsAsWas v w → (told : Option (Unit {0})) (qs : List (List ℕ)) → Placed u v told qs
      → Placed u w told qs
  placed_still was = claimed_as (Denies u) (opens u) (takes_away u) (IsAway v) (IsAway w) (off was)

  module _ (text : List ℕ) (is : IsPlaced u v w text) where
    abbrev e : Answer
    e = answer_by First text

    denies : (x : Unit {0}) → IsAway v x → Denies u x text
    denies x away here = by (says_online e) refl
      where
        by : (b : Bool) → says_online e ≡ b → says_online (answer_by First text) ≡ false
        by false f = f
        by true f = absurd (false≢true (sym away ∙ (is.own here).online f))

    goes_on : (x : Unit {0}) → IsAway v x → opens u text ≡ false → IsAway w x
    goes_on x away none = by (mine u text) refl none
      where
        by : (b : Bool) → mine u text ≡ b → (b && brings (answer_by First text)) ≡ false → IsAway w x
        by false here none = off (is.other here) x away
        by true here none = off ((is.own here).stays none) x away

    own : (x : Unit {0}) → takes_away u text ≡ Some x → IsAway w x
    own x c = by (mine u text) refl (says_away e) refl c
      where
        by : (b : Bool) → mine u text ≡ b → (d : Bool) → says_away e ≡ d → cond (b && d) (Some tt) None ≡ Some x
            → IsAway w x
        by false here d f c = absurd (none-some x c)
        by true here false f c = absurd (none-some x c)
        by true here true f c = (is.own here).away f

    pub placed_more : (told : Option (Unit {0})) (qs : List (List ℕ)) → Placed u v told qs
        → Placed u w told (qs ++ text ∷ [])
    placed_more = claimed_more (Denies u) (opens u) (takes_away u) (IsAway v) (IsAway w) text
        (λ x away. (denies x away, goes_on x away)) own

-- ---- what a host was told

-- an end that brings its unit online is settled
brings_settled : (xs : List Sent) (e : Answer) → brings e ≡ true → settles xs e ≡ true
brings_settled xs e b = by (place_of xs e)
  where
    p : (nat_eq e.code 0x89 ≡ true) × (nat_eq (e.status % 32) 0 ≡ true)
    p = and_parts (nat_eq e.code 0x89) (nat_eq (e.status % 32) 0) b

    in_time : (y : Sent) → is_late xs y e ≡ false
    in_time y = ap (λ n. nat_eq n 0x83 && (y.beside || list_any (is_turning e.connection e.unit) xs))
        (eqb-true e.code 0x89 p.0)

    stays : went e ≡ false
    stays = ap (λ x. says_away e && not x) p.1 ∙ none (says_away e)
      where
        none : (x : Bool) → (x && false) ≡ false
        none true = refl
        none false = refl

    by : (o : Option ℕ) → is_settled_at xs e o ≡ true
    by None = refl
    by (Some i) = ap (λ x. not x && (not (went e) || nat_le (count_on e.connection xs) 1)) (in_time (command_at xs i))
        ∙ ap (λ x. not x || nat_le (count_on e.connection xs) 1) stays

turned_away : (s : State) (x : Unit {0}) → told_away (turned s Open) ≡ Some x → ⊥
turned_away Shared x e = none-some x e
turned_away other x e = none-some x e

-- it was told so before, or the end tells it
pub away_after : (u : ℕ) (xs : List Sent) (told : Told) (text : List ℕ) (x : Unit {0})
    → told_away (told_after_end First u (settles xs (answer_by First text)) told (answer_by First text)).state ≡ Some x
    → ((told_away told.state ≡ Some x) × (opens u text ≡ false)) ⊎ (takes_away u text ≡ Some x)
away_after u xs told text x =
    by (mine u text) refl (settles xs (answer_by First text)) (brings_settled xs (answer_by First text))
  where
    e : Answer
    e = answer_by First text

    So : Type 0
    So = ((told_away told.state ≡ Some x) × (opens u text ≡ false)) ⊎ (takes_away u text ≡ Some x)

    own : (l b : Bool) → mine u text ≡ true → says_away e ≡ l → brings e ≡ b
        → told_away (cond l (turned told.state Away) (cond b (turned told.state Open) told.state)) ≡ Some x → So
    own true b f g h is = inr (ap (λ t. cond (t && says_away e) (Some tt) None) f
        ∙ ap (λ t. cond t (Some tt) None) g)
    own false true f g h is = absurd (turned_away told.state x is)
    own false false f g h is = inl (is, ap (λ t. t && brings e) f ∙ h)

    not_brought : (s : Bool) → (brings e ≡ true → s ≡ true) → s ≡ false → brings e ≡ false
    not_brought s settled none = by (brings e) refl
      where
        by : (b : Bool) → brings e ≡ b → brings e ≡ false
        by false h = h
        by true h = absurd (false≢true (sym none ∙ settled h))

    by : (m : Bool) → mine u text ≡ m → (s : Bool) → (brings (answer_by First text) ≡ true → s ≡ true)
        → told_away (cond (not m) told (cond (true && s) (after_own told (answer_by First text))
        (after_other told (answer_by First text)))).state ≡ Some x → So
    by false f s settled is = inl (is, ap (λ t. t && brings e) f)
    by true f true settled is = own (says_away e) (brings e) f refl refl is
    by true f false settled is = inl (is, ap (λ t. t && brings e) f ∙ not_brought false settled refl)
