-- Outstanding submissions whose numbers differ: one leaves, and one is told.
use Rattle.mscp_host.proofs.Common.{◌≡◌, ℕ, true, false, List, [], ◌∷◌, map, refl, ap, subst, arith, filter, not, if◌then◌else◌, Option, Some, None, AllByRecursion, list_any, and_parts, eqb-true, not-true, Submission, has_reference, with_told, without, are_apart}
use Rattle.mscp_host.proofs.Lists.{every_weaker, filter_all, none_any}

-- a submission of which that was told, if something was
abbrev pub told_now : Option ℕ → Submission → Submission
told_now None s = s
told_now (Some figure) s = record s { told = Some figure }

-- none of the others has the number of the first
others : (s : Submission) (rest : List Submission) (r : ℕ) → has_reference r s ≡ true → are_apart (s ∷ rest) ≡ true
    → AllByRecursion (λ x. has_reference r x ≡ false) rest
others s rest r e apart =
    let both = and_parts (not (list_any (has_reference s.reference) rest)) (are_apart rest) apart in
    subst (λ n. AllByRecursion (λ x. has_reference n x ≡ false) rest) (eqb-true s.reference r e)
    (none_any (has_reference s.reference) rest (not-true (list_any (has_reference s.reference) rest) both.0))

none_kept : (r : ℕ) (rest : List Submission) → AllByRecursion (λ x. has_reference r x ≡ false) rest
    → filter (λ s. not (has_reference r s)) rest ≡ rest
none_kept r rest h = filter_all _ rest (every_weaker _ (λ s. not (has_reference r s) ≡ true) (λ x e. ap not e) rest h)

pub without_kept : (r : ℕ) (xs : List Submission) → are_apart xs ≡ true
    → without r xs ≡ filter (λ s. not (has_reference r s)) xs
without_kept r [] apart = refl
without_kept r (s ∷ rest) apart = search (arith, without_kept r rest, and_parts, others, none_kept)

none_each : (r figure : ℕ) (rest : List Submission) → AllByRecursion (λ x. has_reference r x ≡ false) rest
    → map (λ s. if has_reference r s then told_now (Some figure) s else s) rest ≡ rest
none_each r figure [] h = refl
none_each r figure (x ∷ rest) h = search (arith, none_each r figure rest h.1)

pub told_each : (r figure : ℕ) (xs : List Submission) → are_apart xs ≡ true
    → with_told r figure xs ≡ map (λ s. if has_reference r s then told_now (Some figure) s else s) xs
told_each r figure [] apart = refl
told_each r figure (s ∷ rest) apart = search (arith, told_each r figure rest, and_parts, others, none_each)
