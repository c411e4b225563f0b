-- A figure is told of the oldest command alone, and a credit is kept for those that are answered when they arrive.
use Rattle.mscp_host.proofs.Common.{◌≡◌, ◌≤◌, ◌<◌, ◌-◌, ℕ, Bool, true, false, ◌&&◌, ◌||◌, List, [], ◌∷◌, ◌++◌, length, refl, subst, arith, not, Option, Some, None, is_none, list_all, list_any, and_parts, eqb-true, not-true, or_left, or_parts, false≢true, length-append, filter-append, list_all-append, count_by-le-length, length-filter, Submission, Watch, Account, balance, has_reference, is_about_polled, is_immediate, polled_is_outstanding, refusal, with_told, without, are_apart, waiting, are_told, is_oldest, is_watched}
use Rattle.mscp_host.proofs.Watched.{is_oldest_told, oldest_more, oldest_without}

-- ---- all pass a test

all_weaker : (p q : Submission → Bool) → ((s : Submission) → p s ≡ true → q s ≡ true) → (xs : List Submission)
    → list_all p xs ≡ true → list_all q xs ≡ true
all_weaker p q f [] e = refl
all_weaker p q f (s ∷ rest) e = search (arith, and_parts, all_weaker p q f rest)

all_without : (p : Submission → Bool) (r : ℕ) (xs : List Submission) → list_all p xs ≡ true
    → list_all p (without r xs) ≡ true
all_without p r [] e = refl
all_without p r (s ∷ rest) e = search (arith, all_without p r rest, and_parts)

all_told : (p q : Submission → Bool) (r f : ℕ) → ((s : Submission) → p s ≡ true → q s ≡ true)
    → ((s : Submission) → has_reference r s ≡ true → q (record s { told = Some f }) ≡ true) → (xs : List Submission)
    → list_all p xs ≡ true → list_all q (with_told r f xs) ≡ true
all_told p q r f weaker told [] e = refl
all_told p q r f weaker told (s ∷ rest) e = search (arith, all_told p q r f weaker told rest, and_parts, all_weaker)

-- of the others none has the number of the one that left
none_left : (r : ℕ) (xs : List Submission) → are_apart xs ≡ true
    → list_all (λ s. not (has_reference r s)) (without r xs) ≡ true
none_left r [] e = refl
none_left r (s ∷ rest) e =
    let both = and_parts (not (list_any (has_reference s.reference) rest)) (are_apart rest) e in
    by (has_reference r s) refl (not-true (list_any (has_reference s.reference) rest) both.0) (none_left r rest both.1)
  where
    others : (xs : List Submission) → s.reference ≡ r → list_any (has_reference s.reference) xs ≡ false
        → list_all (λ x. not (has_reference r x)) xs ≡ true
    others [] same none = refl
    others (x ∷ xs) same none =
        let both = or_parts (has_reference s.reference x) (list_any (has_reference s.reference) xs) none in
        λ i. not (subst (λ n. has_reference n x ≡ false) same both.0 i) && others xs same both.1 i

    by : (b : Bool) → has_reference r s ≡ b → list_any (has_reference s.reference) rest ≡ false
        → list_all (λ x. not (has_reference r x)) (without r rest) ≡ true
        → list_all (λ x. not (has_reference r x)) (without r (s ∷ rest)) ≡ true
    by true is none h = rw is (others rest (eqb-true s.reference r is) none)
    by false is none h = rw is (λ i. not (is i) && h i)

-- ---- figures

abbrev may : List Submission → Submission → Bool
may xs s = is_none s.told || is_oldest s.reference xs

pub told_more : (s : Submission) (xs : List Submission) → s.told ≡ None → are_told xs ≡ true
    → are_told (xs ++ s ∷ []) ≡ true
told_more s xs none e = search (arith, list_all-append, all_weaker, or_left, oldest_more)

pub told_without : (r : ℕ) (xs : List Submission) → are_apart xs ≡ true → are_told xs ≡ true
    → are_told (without r xs) ≡ true
told_without r xs apart e =
    all_both (may xs) (λ s. not (has_reference r s)) (may (without r xs)) still (without r xs)
    (all_without (may xs) r xs e) (none_left r xs apart)
  where
    still : (x : Submission) → may xs x ≡ true → not (has_reference r x) ≡ true → may (without r xs) x ≡ true
    still x h other = grind (arith, oldest_without, not-true)

    all_both : (p q t : Submission → Bool) → ((s : Submission) → p s ≡ true → q s ≡ true → t s ≡ true)
        → (ys : List Submission) → list_all p ys ≡ true → list_all q ys ≡ true → list_all t ys ≡ true
    all_both p q t f [] a b = refl
    all_both p q t f (s ∷ rest) a b =
        let one = and_parts (p s) (list_all p rest) a in
        let two = and_parts (q s) (list_all q rest) b in
        λ i. f s one.0 two.0 i && all_both p q t f rest one.1 two.1 i

-- the figure of the command that is polled
pub told_told : (r f : ℕ) (xs : List Submission) → is_oldest r xs ≡ true → are_told xs ≡ true
    → are_told (with_told r f xs) ≡ true
told_told r f xs oldest e = search (arith, all_told, is_oldest_told, eqb-true)

-- which is the oldest
pub polled_oldest : (xs : List Submission) (watch : Option Watch) (number figure : ℕ) → is_watched xs watch ≡ true
    → is_about_polled watch (Some (number, figure)) ≡ true → polled_is_outstanding watch ≡ true
    → is_oldest number xs ≡ true
polled_oldest xs watch number figure h1 h2 h3 = search (arith, false≢true, and_parts, eqb-true)

-- ---- credits

pub waiting_told : (r f : ℕ) (xs : List Submission) → length (waiting (with_told r f xs)) ≡ length (waiting xs)
waiting_told r f [] = refl
waiting_told r f (s ∷ rest) = search (arith, waiting_told r f rest)

pub waiting_without : (r : ℕ) (xs : List Submission) → length (waiting (without r xs)) ≤ length (waiting xs)
waiting_without r [] = let e : 0 ≤ 0 = omega arith in e
waiting_without r (s ∷ rest) = search (arith, waiting_without r rest)

-- one that waits leaves a credit
pub spare_more : (s : Submission) (xs : List Submission) (credits : ℕ)
    → (is_immediate s.opcode ≡ false → 2 ≤ credits - length xs) → length (waiting xs) < credits
    → length (waiting (xs ++ s ∷ [])) < credits
spare_more s xs credits spare less = search (arith, filter-append, length-append, length-filter, count_by-le-length)

-- a command that isn't refused leaves one
pub not_refused : (a : Account) (opcode reference : ℕ) → refusal a opcode reference ≡ None → (1 ≤ balance a)
    × (is_immediate opcode ≡ false → 2 ≤ balance a) × (list_any (has_reference reference) a.outstanding ≡ false)
not_refused a opcode reference e = search (arith, false≢true)
