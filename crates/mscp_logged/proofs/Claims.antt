-- What was told is borne out by the ends that are still to come, until one of them makes it void: so is what a host was
-- told, and what each of these ends tells itself.
use Rattle.mscp_logged.proofs.Common.{Bool, List, Option, Some, [], false, inl, inr, ℕ, ◌++◌, ◌∷◌, ◌≡◌, ◌⊎◌}

-- an end bears a claim out or not, makes those in front of it void or not, and claims something itself or not
module _ {X : Type 0} (Bears : X → List ℕ → Type 0) (voids : List ℕ → Bool) (claim : List ℕ → Option X) where
  -- these ends bear it out, and behind them it holds, if none made it void
  abbrev pub Borne : (X → Type 0) → X → List (List ℕ) → Type 0
  Borne Holds x [] = Holds x
  Borne Holds x (q ∷ qs) = Bears x q × (voids q ≡ false → Borne Holds x qs)

  -- so it is of the claims of each of them
  abbrev pub AllBorne : (X → Type 0) → List (List ℕ) → Type 0
  AllBorne Holds [] = Unit {0}
  AllBorne Holds (q ∷ qs) = ((x : X) → claim q ≡ Some x → Borne Holds x qs) × AllBorne Holds qs

  -- and of what was told
  pub record Claimed (Holds : X → Type 0) (told : Option X) (qs : List (List ℕ)) : Type 0 where
    pub own : (x : X) → told ≡ Some x → Borne Holds x qs
    pub each : AllBorne Holds qs

  -- ---- what holds changes

  module _ (Holds Then : X → Type 0) (on : (x : X) → Holds x → Then x) where
    borne_as : (x : X) (qs : List (List ℕ)) → Borne Holds x qs → Borne Then x qs
    borne_as x [] b = on x b
    borne_as x (q ∷ qs) b = (b.0, λ v. borne_as x qs (b.1 v))

    all_as : (qs : List (List ℕ)) → AllBorne Holds qs → AllBorne Then qs
    all_as [] all = tt
    all_as (q ∷ qs) all = ((λ x e. borne_as x qs (all.0 x e)), all_as qs all.1)

    pub claimed_as : (told : Option X) (qs : List (List ℕ)) → Claimed Holds told qs → Claimed Then told qs
    claimed_as told qs c = record { own = λ x e. borne_as x qs (c.own x e); each = all_as qs c.each }

  -- ---- an end comes

  module _ (Holds Then : X → Type 0) (end : List ℕ)
      (on : (x : X) → Holds x → Bears x end × (voids end ≡ false → Then x))
      (own : (x : X) → claim end ≡ Some x → Then x) where
    borne_more : (x : X) (qs : List (List ℕ)) → Borne Holds x qs → Borne Then x (qs ++ end ∷ [])
    borne_more x [] b = on x b
    borne_more x (q ∷ qs) b = (b.0, λ v. borne_more x qs (b.1 v))

    all_more : (qs : List (List ℕ)) → AllBorne Holds qs → AllBorne Then (qs ++ end ∷ [])
    all_more [] all = ((λ x e. own x e), tt)
    all_more (q ∷ qs) all = ((λ x e. borne_more x qs (all.0 x e)), all_more qs all.1)

    pub claimed_more : (told : Option X) (qs : List (List ℕ)) → Claimed Holds told qs
        → Claimed Then told (qs ++ end ∷ [])
    claimed_more told qs c = record { own = λ x e. borne_more x qs (c.own x e); each = all_more qs c.each }

  -- ---- the first one leaves

  module _ (Holds : X → Type 0) (told : Option X) (q : List ℕ) (qs : List (List ℕ))
      (c : Claimed Holds told (q ∷ qs)) where
    pub claim_bears : (x : X) → told ≡ Some x → Bears x q
    claim_bears x e = (c.own x e).0

    pub claimed_left : (now : Option X)
        → ((x : X) → now ≡ Some x → ((told ≡ Some x) × (voids q ≡ false)) ⊎ (claim q ≡ Some x))
        → Claimed Holds now qs
    claimed_left now is = record { own = λ x e. by x (is x e); each = c.each.1 }
      where
        by : (x : X) → ((told ≡ Some x) × (voids q ≡ false)) ⊎ (claim q ≡ Some x) → Borne Holds x qs
        by x (inl was) = (c.own x was.0).1 was.1
        by x (inr new) = c.each.0 x new
