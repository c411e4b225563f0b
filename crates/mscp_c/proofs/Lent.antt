-- A handle whose value was lent and came back as it was.
use Rattle.mscp_c.proofs.Common.{◌≡◌, ◌∙◌, ap, HandleOf}

pub lent_back : {X : Type 0} (h old : HandleOf X) (x : X) → x ≡ h.held → h ≡ old
    → (let back : HandleOf X = record h { held = x } in back ≡ old)
lent_back {X} h old x same kept = ap (λ (y : X). record h { held = y }) same ∙ kept
