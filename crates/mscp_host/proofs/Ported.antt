-- What is kept of commands beside the bytes that they ask for, on both sides.
use Rattle.mscp_host.proofs.Common.{Account, Asked, Bool, End, List, Name, Submission, [], arith, as_read, is_of, map, name_of_asked, name_of_submission, nat_eq, received, refl, with_told, without, without_by, ℕ, ◌∷◌, ◌≡◌}

abbrev is_named : ℕ → Name → Bool
is_named reference n = nat_eq n.reference reference

asked_without : (r : ℕ) (xs : List Asked)
    → map name_of_asked (without_by (is_of r) xs) ≡ without_by (is_named r) (map name_of_asked xs)
asked_without r [] = refl
asked_without r (x ∷ xs) = search (arith, asked_without r xs)

submissions_without : (r : ℕ) (xs : List Submission)
    → map name_of_submission (without r xs) ≡ without_by (is_named r) (map name_of_submission xs)
submissions_without r [] = refl
submissions_without r (x ∷ xs) = search (arith, submissions_without r xs)

told_named : (r f : ℕ) (xs : List Submission) → map name_of_submission (with_told r f xs) ≡ map name_of_submission xs
told_named r f [] = refl
told_named r f (x ∷ xs) = search (arith, told_named r f xs)

pub read_reference : (e : End) → (as_read e).reference ≡ e.reference
read_reference e = search arith

pub same_ended : (a : Account) (e : End) (xs : List Asked) → map name_of_asked xs ≡ map name_of_submission a.outstanding
    → map name_of_asked (without_by (is_of e.reference) xs)
    ≡ map name_of_submission (received a (as_read e)).outstanding
same_ended a e xs same = grind (arith, read_reference, asked_without, submissions_without, told_named)
