-- Ends that are to be heard: which comes first, and how often a number is claimed.
use Rattle.mscp_heard.proofs.Claims.{claim_of, claim_said, claims_said, tally, tally_append}
use Rattle.mscp_heard.proofs.Common.{AllByRecursion, Bool, End, List, None, Option, OutgoingKind, Pending, Said, Some, [], ap, arith, cond, eqb-true, false, filter, flat_map, has_number, inl, inr, length, map, nat_eq, none-some, num, pending_end, pending_in, pending_said, refl, subst, sym, true, ℕ, ◌++◌, ◌+◌, ◌∷◌, ◌≡◌, ◌≢◌, ◌≤◌, ◌⊎◌}

-- ---- ends that are to be heard

abbrev pub first_of : ℕ → List Pending → Option ℕ
first_of n [] = None
first_of n (e ∷ es) = cond (nat_eq e.number n) (Some e.figure) (first_of n es)

-- an end of number x stands in front of each of number w
abbrev pub Before : ℕ → ℕ → List Pending → Type 0
Before x w [] = ⊥
Before x w (e ∷ es) = (nat_eq e.number x ≡ true) ⊎ ((nat_eq e.number w ≡ false) × Before x w es)

abbrev pub IsIn : ℕ → List Pending → Type 0
IsIn x [] = ⊥
IsIn x (e ∷ es) = (nat_eq e.number x ≡ true) ⊎ IsIn x es

pub before_more : (x w : ℕ) (es more : List Pending) → Before x w es → Before x w (es ++ more)
before_more x w [] more b = absurd b
before_more x w (e ∷ es) more (inl is) = inl is
before_more x w (e ∷ es) more (inr b) = inr (b.0, before_more x w es more b.1)

pub first_more : (n : ℕ) (es more : List Pending) (g : ℕ) → first_of n es ≡ Some g → first_of n (es ++ more) ≡ Some g
first_more n [] more g e = absurd (none-some g e)
first_more n (x ∷ es) more g e = by (nat_eq x.number n) e (λ h. first_more n es more g h)
  where
    by : (b : Bool) → cond b (Some x.figure) (first_of n es) ≡ Some g
        → (first_of n es ≡ Some g → first_of n (es ++ more) ≡ Some g)
        → cond b (Some x.figure) (first_of n (es ++ more)) ≡ Some g
    by b h rest = grind arith

pub first_behind : (n : ℕ) (es more : List Pending) → first_of n es ≡ None → first_of n (es ++ more) ≡ first_of n more
first_behind n [] more e = refl
first_behind n (x ∷ es) more e = by (nat_eq x.number n) e (λ h. first_behind n es more h)
  where
    by : (b : Bool) → cond b (Some x.figure) (first_of n es) ≡ None
        → (first_of n es ≡ None → first_of n (es ++ more) ≡ first_of n more)
        → cond b (Some x.figure) (first_of n (es ++ more)) ≡ first_of n more
    by b h rest = grind (arith, none-some)

-- where w isn't there yet, all stand in front of it
pub in_front : (x w : ℕ) (es more : List Pending) → first_of w es ≡ None → IsIn x es → Before x w (es ++ more)
in_front x w [] more none is = absurd is
in_front x w (e ∷ es) more none (inl is) = inl is
in_front x w (e ∷ es) more none (inr is) = inr (
  apart (nat_eq e.number w) none,
  in_front x w es more (rest (nat_eq e.number w) none) is,
)
  where
    apart : (b : Bool) → cond b (Some e.figure) (first_of w es) ≡ None → b ≡ false
    apart b h = grind (arith, none-some)

    rest : (b : Bool) → cond b (Some e.figure) (first_of w es) ≡ None → first_of w es ≡ None
    rest b h = grind (arith, none-some)

pub first_in : (n : ℕ) (es : List Pending) (g : ℕ) → first_of n es ≡ Some g → IsIn n es
first_in n [] g e = absurd (none-some g e)
first_in n (x ∷ es) g e = by (nat_eq x.number n) refl e (λ h. first_in n es g h)
  where
    by : (b : Bool) → nat_eq x.number n ≡ b → cond b (Some x.figure) (first_of n es) ≡ Some g
        → (first_of n es ≡ Some g → IsIn n es) → (nat_eq x.number n ≡ true) ⊎ IsIn n es
    by b is h rest = grind arith

pub in_either : (n : ℕ) (es fs : List Pending) → IsIn n (es ++ fs) → IsIn n es ⊎ IsIn n fs
in_either n [] fs is = inr is
in_either n (e ∷ es) fs (inl is) = inl (inl is)
in_either n (e ∷ es) fs (inr is) = elim (in_either n es fs is) [ inl x ↦ inl (inr x) | inr x ↦ inr x ]

pub in_left : (n : ℕ) (es fs : List Pending) → IsIn n es → IsIn n (es ++ fs)
in_left n [] fs is = absurd is
in_left n (e ∷ es) fs (inl is) = inl is
in_left n (e ∷ es) fs (inr is) = inr (in_left n es fs is)

pub in_right : (n : ℕ) (es fs : List Pending) → IsIn n fs → IsIn n (es ++ fs)
in_right n [] fs is = is
in_right n (e ∷ es) fs is = inr (in_right n es fs is)

pub all_in : (P : ℕ → Type 0) (n : ℕ) (es : List Pending) → AllByRecursion (λ (e : Pending). P e.number) es
    → IsIn n es → P n
all_in P n [] all is = absurd is
all_in P n (e ∷ es) all (inl is) = subst P (eqb-true e.number n is) all.0
all_in P n (e ∷ es) all (inr is) = all_in P n es all.1 is

-- ---- how often a number is claimed

pub tally_texts : (n : ℕ) (ts : List (List ℕ)) → tally n (map claim_of ts) ≡ length (filter (has_number n) ts)
tally_texts n [] = refl
tally_texts n (t ∷ ts) = by (nat_eq (num t 0 4) n) (tally_texts n ts)
  where
    by : (b : Bool) → tally n (map claim_of ts) ≡ length (filter (has_number n) ts)
        → cond b (1 + tally n (map claim_of ts)) (tally n (map claim_of ts))
        ≡ length (cond b (t ∷ filter (has_number n) ts) (filter (has_number n) ts))
    by b e = grind arith

pub tally_in : (n : ℕ) (us : List Said) → 1 ≤ tally n (claims_said us) → IsIn n (flat_map pending_in us)
tally_in n [] h = absurd (search (arith, h))
tally_in n (s ∷ us) h = by s.kind (subst (λ k. 1 ≤ k)
    (tally_append n (claim_said s.kind s.text) (claims_said us)) h) (λ g. tally_in n us g)
  where
    plain : (x : ℕ) → 1 ≤ 0 + x → 1 ≤ x
    plain x h = omega (arith, h)

    by : (kind : OutgoingKind) → 1 ≤ tally n (claim_said kind s.text) + tally n (claims_said us)
        → (1 ≤ tally n (claims_said us) → IsIn n (flat_map pending_in us))
        → IsIn n (pending_said kind s.text ++ flat_map pending_in us)
    by kind h rest = grind (arith, plain, tally, claims_said, nat_eq)

pub has_some : (n : ℕ) (xs : List (List ℕ)) → 1 ≤ length (filter (has_number n) xs) → filter (has_number n) xs ≢ []
has_some n xs h e = search (arith, h, ap length e)

pub some_has : (n : ℕ) (xs : List (List ℕ)) → filter (has_number n) xs ≢ [] → 1 ≤ length (filter (has_number n) xs)
some_has n xs h = by (filter (has_number n) xs) refl
  where
    by : (ys : List (List ℕ)) → filter (has_number n) xs ≡ ys → 1 ≤ length ys
    by [] e = absurd (h e)
    by (y ∷ ys) e = search arith

-- ---- ends that are held

pub in_of_holds : (n : ℕ) (es : List End) → filter (λ (e : End). nat_eq e.reference n) es ≢ []
    → IsIn n (map pending_end es)
in_of_holds n [] h = absurd (h refl)
in_of_holds n (e ∷ es) h = grind (arith, in_of_holds n es, nat_eq)

pub holds_of_in : (n : ℕ) (es : List End) → IsIn n (map pending_end es)
    → filter (λ (e : End). nat_eq e.reference n) es ≢ []
holds_of_in n [] is h = is
holds_of_in n (e ∷ es) is h = grind (arith, holds_of_in n es, nat_eq)

pub in_said : (n : ℕ) (us : List Said) → IsIn n (flat_map pending_in us) → 1 ≤ tally n (claims_said us)
in_said n [] is = absurd is
in_said n (s ∷ us) is = subst (λ k. 1 ≤ k) (sym (tally_append n (claim_said s.kind s.text) (claims_said us)))
    (by s.kind is (λ g. in_said n us g))
  where
    more : (a b : ℕ) → 1 ≤ b → 1 ≤ a + b
    more a b h = omega (arith, h)

    by : (kind : OutgoingKind) → IsIn n (pending_said kind s.text ++ flat_map pending_in us)
        → (IsIn n (flat_map pending_in us) → 1 ≤ tally n (claims_said us))
        → 1 ≤ tally n (claim_said kind s.text) + tally n (claims_said us)
    by kind is rest = grind (arith, more, tally, claims_said, claim_said)
