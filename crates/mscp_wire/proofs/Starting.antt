-- A log that begins in the middle says so first.
use Rattle.mscp_wire.proofs.Common.{Bool, History, IsMiddle, IsMiddleOf, Log, Middle, None, Option, Shows, Some, Totals, [], ap, arith, eqb-true, false, is_first, is_fresh, is_middle, is_none, is_some, length, nat_tests, not, refl, subst, sym, totals_of, true, ℕ, ◌&&◌, ◌∙◌, ◌∷◌, ◌≡◌}
use Rattle.std.proofs.Common.{nat_eq}
use Rattle.mscp_wire.proofs.Sparing.{both_true}

empty_of : (h : History) → length h ≡ 0 → h ≡ []
empty_of [] e = refl
empty_of (m ∷ h) e = absurd (omega (arith, e))

-- nothing was said so far
pub fresh_by : (log : Log) (credits : Option ℕ) (told : Bool) (t : Totals) → credits ≡ log.credits
    → told ≡ is_some credits → told ≡ false → t ≡ totals_of log.moments → t.counts.moments ≡ 0 → is_fresh log ≡ true
fresh_by log credits told t c i e s z = grind (arith, nat_tests)

pub no_moments : (log : Log) → is_fresh log ≡ true → log.moments ≡ []
no_moments log f =
    empty_of log.moments (eqb-true (length log.moments) 0
    (both_true (is_none log.credits) (nat_eq (length log.moments) 0) f).1)

-- and not that it begins there
pub first_by : {A : Type 0} (log : Log) (o : Option (Middle A)) (some : Bool) → IsMiddleOf log o → some ≡ is_some o
    → some ≡ false → is_fresh log ≡ true → is_first log ≡ true
first_by {A} log o some i e none f =
    by_middle o i (sym e ∙ none)
  where
    by_begun : (b : Bool) → (b && true) ≡ false → (not b && is_fresh log) ≡ true
    by_begun true h = cc
    by_begun false h = f

    by_middle : (o : Option (Middle A)) → IsMiddleOf log o → is_some o ≡ false
        → (not log.begun && is_fresh log) ≡ true
    by_middle None i k = by_begun log.begun
        (sym (ap (λ h. is_middle log.begun h) (no_moments log f)) ∙ i)
    by_middle (Some middle) i k = cc

-- what is kept then
pub begun_kept : {A : Type 0} (log : Log) (middle : Middle A) → is_fresh log ≡ true → Shows [] [] middle
    → IsMiddle true log.moments [] (Some middle)
begun_kept {A} log middle f s =
    subst (λ h. IsMiddle {A = A} true h [] (Some middle)) (sym (no_moments log f)) (refl, s)
