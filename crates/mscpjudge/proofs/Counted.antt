-- One text more.
use Rattle.mscpjudge.proofs.Common.{Err, List, Ok, OnOk, Result, [], add-one, ap, append_assoc, refl, texts, ℕ, ◌++◌, ◌+◌, ◌∙◌, ◌≡◌}

pub texts_none : (f : ℕ → List ℕ) → texts f 0 ≡ []
unfolding texts
texts_none f = refl

pub texts_more : (f : ℕ → List ℕ) (n : ℕ) → texts f (n + 1) ≡ texts f n ++ f n
unfolding texts
texts_more f n = ap (texts f) (add-one n)

-- three texts behind another
pub joined : {T E : Type 0} (r : Result T E) (old first second new a b c : List ℕ) → first ≡ old ++ a
    → second ≡ first ++ b → OnOk r (new ≡ second ++ c) → OnOk r (new ≡ old ++ (a ++ b ++ c))
joined (Ok x) old first second new a b c p q h =
    h ∙ ap (λ z. z ++ c) (q ∙ ap (λ z. z ++ b) p) ∙ simp append_assoc
joined (Err x) old first second new a b c p q h = h

-- and two
pub joined_two : {T E : Type 0} (r : Result T E) (old first new a b : List ℕ) → first ≡ old ++ a
    → OnOk r (new ≡ first ++ b) → OnOk r (new ≡ old ++ (a ++ b))
joined_two (Ok x) old first new a b p h = h ∙ ap (λ z. z ++ b) p ∙ append_assoc old a b
joined_two (Err x) old first new a b p h = h
