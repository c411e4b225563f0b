-- Text at the front of bytes that grows.
use Rattle.std.proofs.Common.{◌≡◌, ◌≤◌, ◌<◌, ◌+◌, ℕ, List, ◌++◌, length, take, Option, Some, None, arith, sym, ap, ◌∙◌, length-append, length-take-le}
use Rattle.mscp_text.specs.Fronts.{IsFront}

-- it grows by bytes that fit
pub longer : {bytes new text : List ℕ} {held : Option ℕ} (count : ℕ) (more : List ℕ) → IsFront bytes held text
    → held ≡ Some count → take (count + length more) new ≡ take count bytes ++ more → count + length more ≤ length new
    → IsFront new (Some (count + length more)) (text ++ more)
longer {bytes} {new} {text} {held} count more at h is fits =
    let whole : take (count + length more) new ≡ text ++ more = is ∙ ap (λ t. t ++ more) (at.front count h) in
    record { fits = search (arith, fits); front = search (arith, whole); over = search arith }

-- it grows by bytes that don't
pub too_long : {bytes text : List ℕ} {held : Option ℕ} (count : ℕ) (more : List ℕ) → IsFront bytes held text
    → held ≡ Some count → length bytes < count + length more → IsFront bytes None (text ++ more)
too_long {bytes} {text} {held} count more at h less =
    let size : length text ≡ count =
    ap length (sym (at.front count h)) ∙ length-take-le count bytes (at.fits count h) in
    record { fits = search arith; front = search arith; over = λ e. omega (arith, less, size, length-append text more) }
