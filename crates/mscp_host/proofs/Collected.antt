-- What a list of moments says of the commands that are outstanding, with one moment more.
use Rattle.mscp_host.proofs.Common.{◌≡◌, ⊎_elim, ℕ, ◌+◌, ◌<◌, Bool, true, false, cond, List, [], ◌∷◌, ◌++◌, refl, ap, sym, ◌∙◌, subst, arith, append-nil, filter, find, flat_map, not, ◌&&◌, Some, None, option_to_list, option_or, AllByRecursion, last_or, list_any, and-false, or-false, cases_lt, false≢true, nat_tests, flat_map-append, filter-append, list_any-append, History, before, end_heard, is_end_of, is_ended, is_outstanding, is_sent, last_told, moment, outstanding, reference, told_at}
use Rattle.mscp_host.proofs.Lists.{before_at, before_below, before_more, every_kept, every_passes, every_weaker, filter_filter, filter_on, found, last_more}

-- ---- which are outstanding

-- the end of the command i is heard at j
abbrev pub ends_now : History → ℕ → ℕ → Bool
ends_now h j i = is_end_of (reference h i) (end_heard (moment h j))

none_ended : (h : History) (j : ℕ) (ks : List ℕ) → AllByRecursion (λ k. k < j + 1) ks
    → list_any (is_ended h j) ks ≡ false
none_ended h j [] e = refl
none_ended h j (k ∷ ks) e = search (arith, none_ended h j ks e.1, nat_tests)

pub out_old : (h : History) (j i : ℕ) → i < j
    → is_outstanding h (j + 1) i ≡ (is_outstanding h j i && not (ends_now h j i))
out_old h j i l = grind (arith, nat_tests, before_more, list_any-append, or-false)

pub out_new : (h : History) (j : ℕ) → is_outstanding h (j + 1) j ≡ is_sent (moment h j)
out_new h j = grind (arith, none_ended, before_below, nat_tests)

pub out_below : (h : History) (j i : ℕ) → is_outstanding h j i ≡ true → i < j
out_below h j i e = grind (arith, nat_tests)

pub outstanding_more : (h : History) (j : ℕ) → outstanding h (j + 1)
    ≡ filter (λ i. not (ends_now h j i)) (outstanding h j) ++ cond (is_sent (moment h j)) (j ∷ []) []
unfolding outstanding
outstanding_more h j =
    let p = is_outstanding h (j + 1) in
    let q : ℕ → Bool = λ i. not (ends_now h j i) in
    let old : filter p (before j) ≡ filter (λ i. is_outstanding h j i && q i) (before j) =
    search (arith, before_below j, filter_on, every_weaker, out_old) in
    search (arith, before_more, filter-append, filter_filter, out_new)

-- ---- each that is outstanding

pub all_out : (h : History) (j : ℕ) → AllByRecursion (λ i. is_outstanding h j i ≡ true) (outstanding h j)
unfolding outstanding
all_out h j = every_passes (is_outstanding h j) (before j)

-- what holds of all holds of each
pub each_out : (P : ℕ → Type 0) (h : History) (j x : ℕ) → AllByRecursion P (outstanding h j)
    → is_outstanding h j x ≡ true → P x
unfolding outstanding
each_out P h j x all e =
    before_at (λ i. is_outstanding h j i ≡ true → P i) j x (every_kept P (is_outstanding h j) (before j) all)
    (out_below h j x e) e

-- what holds of each holds of all
pub out_all : (P : ℕ → Type 0) (h : History) (j : ℕ) → ((x : ℕ) → is_outstanding h j x ≡ true → P x)
    → AllByRecursion P (outstanding h j)
out_all P h j f = every_weaker (λ i. is_outstanding h j i ≡ true) P f (outstanding h j) (all_out h j)

pub found_out : (h : History) (j x : ℕ) (p : ℕ → Bool) → find p (outstanding h j) ≡ Some x
    → (is_outstanding h j x ≡ true) × (p x ≡ true)
found_out h j x p e = found (λ i. is_outstanding h j i ≡ true) p (outstanding h j) x (all_out h j) e

-- ---- at most one

-- those that are outstanding before j and agree so are one
abbrev pub AtMostOne : (ℕ → ℕ → Type 0) → History → ℕ → Type 0
AtMostOne R h j = (x y : ℕ) → is_outstanding h j x ≡ true → is_outstanding h j y ≡ true → R x y → x ≡ y

pub was_out : (h : History) (j x : ℕ) → is_outstanding h (j + 1) x ≡ true → x < j → is_outstanding h j x ≡ true
was_out h j x e l = grind (arith, out_old, false≢true)

pub one_more : (R : ℕ → ℕ → Type 0) (h : History) (j : ℕ) → ((x y : ℕ) → R x y → R y x)
    → (is_sent (moment h j) ≡ true → (x : ℕ) → is_outstanding h j x ≡ true → R x j → ⊥)
    → AtMostOne R h j → AtMostOne R h (j + 1)
one_more R h j turn new old x y ex ey r =
    let lx = out_below h (j + 1) x ex in
    let ly = out_below h (j + 1) y ey in
    ⊎_elim
    (λ a. ⊎_elim (λ b. old x y (was_out h j x ex a) (was_out h j y ey b) r)
    (λ b. let same : y ≡ j = omega (arith, ly, b) in
    absurd (new (sym (out_new h j) ∙ subst (λ z. is_outstanding h (j + 1) z ≡ true) same ey) x (was_out h j x ex a)
    (subst (R x) same r)))
    (cases_lt y j))
    (λ a. let same : x ≡ j = omega (arith, lx, a) in
    ⊎_elim (λ b.
    absurd (new (sym (out_new h j) ∙ subst (λ z. is_outstanding h (j + 1) z ≡ true) same ex) y (was_out h j y ey b)
    (subst (R y) same (turn x y r))))
    (λ b. omega (arith, same, ly, b))
    (cases_lt y j))
    (cases_lt x j)

-- ---- what was told

pub last_then : (h : History) (j i : ℕ) → last_told h (j + 1) i ≡ option_or (told_at h i j) (last_told h j i)
last_then h j i = search (arith, before_more, flat_map-append, append-nil, last_more)

pub found_before : (h : History) (j x : ℕ) (p : ℕ → Bool) → find p (outstanding h j) ≡ Some x → x < j
found_before h j x p e = out_below h j x (found_out h j x p e).0

-- nothing is told of a command before it was sent
untold_in : (h : History) (j : ℕ) (ks : List ℕ) → AllByRecursion (λ k. k < j + 1) ks
    → flat_map (λ k. option_to_list (told_at h j k)) ks ≡ []
untold_in h j [] e = refl
untold_in h j (k ∷ ks) e = grind (arith, untold_in h j ks e.1, found_before, and-false, nat_tests)

pub untold : (h : History) (j : ℕ) → last_told h (j + 1) j ≡ None
untold h j = ap (last_or None) (untold_in h j (before (j + 1)) (before_below (j + 1)))
