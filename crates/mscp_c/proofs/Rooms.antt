-- Text that was put at the front of a room.
use Rattle.std.proofs.Common.{◌≡◌, ◌≤◌, ℕ, List, ◌++◌, length, take, Option, Some, Result, Ok, Err, arith, subst, sym, ◌∙◌, length-append, IfOk, IfSome}
use Rattle.std.proofs.lemmas.List.{take-append-le}
use Rattle.mscp_c.specs.Running.{HasText}

-- so many of these bytes are the text
abbrev IsPut : List ℕ → List ℕ → ℕ → Type 0
IsPut front text n = (n ≤ length front) × (take n front ≡ text)

-- it is there in the whole room, whose front isn't longer than what is behind
pub has_text : {E : Type 0} (Is : List ℕ → Type 0) (r : Result ℕ E) (put : Option ℕ) (front back text : List ℕ)
    → Is text → IfSome put (IsPut front text) → IfOk r (λ n. put ≡ Some n)
    → length front ≤ length back → IfOk r (HasText Is (front ++ back))
has_text Is (Ok n) put front back text is fits told half =
    let at : IsPut front text n = subst (λ p. IfSome p (IsPut front text)) told fits in
    record {
      inside = omega (arith, at.0, half, length-append front back);
      text = subst Is (sym at.1 ∙ sym (take-append-le n front back at.0)) is;
    }
has_text Is (Err fault) put front back text is fits told half = tt
