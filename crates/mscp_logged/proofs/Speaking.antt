-- What ends that come tell of units, and so what is known of those goes on.
use Rattle.mscp_logged.proofs.Common.{Hardware, Identity, List, Option, Port, Shape, Volume, [], append-nil, append_assoc, unit_found, volume_found, ℕ, ◌++◌, ◌∷◌, ◌≡◌}
use Rattle.mscp_logged.proofs.Away.{IsPlaced, Placed, placed_more, placed_still}
use Rattle.mscp_logged.proofs.Describing.{IsAsWas, IsTold, Known, known_more, known_still}
use Rattle.mscp_logged.proofs.Texts.{waiting}

-- of each end that comes this is so, and before the last one comes a volume is as it was
abbrev pub Each : (Volume → Volume → List ℕ → Type 0) → Volume → Volume → List (List ℕ) → Type 0
Each Is v w [] = IsAsWas v w
Each Is v w (q ∷ []) = Is v w q
Each Is v w (q ∷ r ∷ qs) = Is v v q × Each Is v w (r ∷ qs)

-- by a call these come, and if drives tell what they may (F), each says whether its unit is online as that is so
pub record Speaks (h : Hardware) (units : List Shape) (F : Type 0) {K : Type 0} (old new : Port K)
    (more : List (List ℕ)) : Type 0 where
  pub behind : waiting h units new ≡ waiting h units old ++ more
  pub told : (u : ℕ) → Each (IsTold u (unit_found units u)) (volume_found units old.volumes u)
      (volume_found units new.volumes u) more
  pub placed : F → (u : ℕ) → Each (IsPlaced u) (volume_found units old.volumes u) (volume_found units new.volumes u)
      more

-- what is known of a unit goes on
pub known_goes : (u : ℕ) (o : Option Shape) (v w : Volume) (told : Option Identity) (qs more : List (List ℕ))
    → Each (IsTold u o) v w more → Known u o v told qs → Known u o w told (qs ++ more)
known_goes u o v w told qs [] each k = rw (append-nil qs) (known_still u o v w each told qs k)
known_goes u o v w told qs (q ∷ []) each k = known_more u o v w q each told qs k
known_goes u o v w told qs (q ∷ r ∷ more) each k = rw (← append_assoc qs (q ∷ []) (r ∷ more))
    (known_goes u o v w told (qs ++ q ∷ []) (r ∷ more) each.1 (known_more u o v v q each.0 told qs k))

-- and so does whether it is online
pub placed_goes : (u : ℕ) (v w : Volume) (told : Option (Unit {0})) (qs more : List (List ℕ))
    → Each (IsPlaced u) v w more → Placed u v told qs → Placed u w told (qs ++ more)
placed_goes u v w told qs [] each k = rw (append-nil qs) (placed_still u v w each told qs k)
placed_goes u v w told qs (q ∷ []) each k = placed_more u v w q each told qs k
placed_goes u v w told qs (q ∷ r ∷ more) each k = rw (← append_assoc qs (q ∷ []) (r ∷ more))
    (placed_goes u v w told (qs ++ q ∷ []) (r ∷ more) each.1 (placed_more u v v q each.0 told qs k))
