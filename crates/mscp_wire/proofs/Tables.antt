-- What is found in a table of units once one is put there.
use Rattle.mscp_wire.proofs.Common.{Bool, Entry, Identity, List, None, Numbers, Option, Pair, Row, Some, [], ap, arith, counted, entry_with, eqb-false, eqb-true, false, get_or, get_or-set_other, get_or-set_same, has_any, if◌then◌else◌, is_some, kept_in, length, nat_eq, nat_tests, no_numbers, no_pair, or_parts, pair_has_any, pair_of, refl, replicate, row_of, set, slice_get, slice_get_past, slice_get_read, suc, sym, take, true, true≢false, zero, ℕ, ◌++◌, ◌<◌, ◌∙◌, ◌∷◌, ◌≡◌}
use Rattle.std.specs.Prelude.{◌||◌}

-- more of what is read behind the last one changes nothing that is read
pub padded : {A : Type 0} (d : A) (xs : List A) (n more q : ℕ) → length xs < n
    → get_or (take n xs ++ replicate more d) q d ≡ get_or xs q d
padded d xs zero more q few = absurd (omega (arith, few))
padded d [] (suc n) more q few = all more q
  where
    all : (m i : ℕ) → get_or (replicate m d) i d ≡ d
    all zero i = refl
    all (suc m) zero = refl
    all (suc m) (suc i) = all m i
padded d (x ∷ xs) (suc n) more zero few = refl
padded d (x ∷ xs) (suc n) more (suc q) few = padded d xs n more q (omega (arith, few))

pub resized : (d v : Pair) (xs ys : List Pair) (n more q : ℕ) → ys ≡ take n xs ++ replicate more v → v ≡ d
    → length xs < n → get_or ys q d ≡ get_or xs q d
resized d v xs ys n more q is same few =
    ap (λ zs. get_or zs q d) is
    ∙ (ap (λ z. get_or (take n xs ++ replicate more z) q d) same ∙ padded d xs n more q few)

-- ---- numbers beside a row
no_numbers_told : (i : Option Identity) (s t : Option ℕ) → (is_some i || is_some s || is_some t) ≡ false
    → no_numbers ≡ record { identity = i; size = s; table = t }
no_numbers_told None None None h = refl
no_numbers_told None None (Some t) h = absurd (true≢false h)
no_numbers_told None (Some s) t h = absurd (true≢false h)
no_numbers_told (Some i) s t h = absurd (true≢false h)

no_pair_told : (p : Pair) → pair_has_any p ≡ false → no_pair ≡ p
no_pair_told p h =
    let parts = or_parts (has_any p.first) (has_any p.second) h in
    ap (λ (n : Numbers). record no_pair { first = n })
    (no_numbers_told p.first.identity p.first.size p.first.table parts.0)
    ∙ ap (λ (n : Numbers). record p { second = n })
    (no_numbers_told p.second.identity p.second.size p.second.table parts.1)

-- an entry has none, or those that stand there
pub without_numbers : (e : Entry) (pair : Pair) → pair_has_any (pair_of e) ≡ false
    → counted (row_of e) pair ≡ pair_of e
without_numbers e pair h = ap (λ b. if b then pair else no_pair) h ∙ no_pair_told (pair_of e) h

pub with_numbers : (e : Entry) (pair : Pair) → pair_has_any (pair_of e) ≡ true → pair ≡ pair_of e
    → counted (row_of e) pair ≡ pair_of e
with_numbers e pair h is = ap (λ b. if b then pair else no_pair) h ∙ is

-- ---- tests of numbers
apart : (n : ℕ) → nat_eq (suc n) zero ≡ false
apart n = grind (arith, nat_tests)

apart_turned : (n : ℕ) → nat_eq zero (suc n) ≡ false
apart_turned n = grind (arith, nat_tests)

next : (m n : ℕ) → nat_eq (suc m) (suc n) ≡ nat_eq m n
next m n = grind (arith, nat_tests)

same : (n : ℕ) → nat_eq n n ≡ true
same n = grind (arith, nat_tests)

-- ---- rows
-- the row at a place once one more came
at_pushed : (xs : List Row) (e : Row) (p : ℕ)
    → slice_get (xs ++ e ∷ []) p ≡ (if nat_eq p (length xs) then Some e else slice_get xs p)
at_pushed [] e zero = refl
at_pushed [] e (suc p) = sym (ap (λ b. if b then Some e else None) (apart p))
at_pushed (x ∷ xs) e zero = sym (ap (λ b. if b then Some e else Some x) (apart_turned (length xs)))
at_pushed (x ∷ xs) e (suc p) =
    at_pushed xs e p ∙ sym (ap (λ b. if b then Some e else slice_get xs p) (next p (length xs)))

-- and once one stands at a place
at_set : (xs : List Row) (e : Row) (i p : ℕ) → i < length xs
    → slice_get (set xs i e) p ≡ (if nat_eq p i then Some e else slice_get xs p)
at_set [] e i p few = grind (arith, few)
at_set (x ∷ xs) e zero zero few = refl
at_set (x ∷ xs) e zero (suc p) few = sym (ap (λ b. if b then Some e else slice_get xs p) (apart p))
at_set (x ∷ xs) e (suc i) zero few = sym (ap (λ b. if b then Some e else Some x) (apart_turned i))
at_set (x ∷ xs) e (suc i) (suc p) few =
    at_set xs e i p (omega (arith, few)) ∙ sym (ap (λ b. if b then Some e else slice_get xs p) (next p i))

-- a row is kept of its own number alone
of_another : (r : Row) (pair : Pair) (q : ℕ) → nat_eq r.number q ≡ false → kept_in q pair (Some r) ≡ None
of_another r pair q h = ap (λ b. if b then Some (entry_with r (counted r pair)) else None) h

of_its_own : (e : Entry) (pair : Pair) (q : ℕ) → counted (row_of e) pair ≡ pair_of e → nat_eq e.number q ≡ true
    → kept_in q pair (Some (row_of e)) ≡ Some e
of_its_own e pair q own h =
    ap (λ b. if b then Some (entry_with (row_of e) (counted (row_of e) pair)) else None) h
    ∙ ap (λ z. Some (entry_with (row_of e) z)) own

-- what is kept at a place, of rows and the numbers beside them
abbrev pub at_place : List Row → List Pair → ℕ → ℕ → Option Entry
at_place xs ns q p = kept_in q (get_or ns p no_pair) (slice_get xs p)

-- one more row, to which its number leads
pub found_pushed : (xs : List Row) (ns ms : List Pair) (ps : List ℕ) (e : Entry) (last : ℕ) → e.number < length ps
    → last ≡ length xs → counted (row_of e) (get_or ms last no_pair) ≡ pair_of e
    → ((p : ℕ) → nat_eq p last ≡ false → get_or ms p no_pair ≡ get_or ns p no_pair) → (q : ℕ)
    → at_place (xs ++ row_of e ∷ []) ms q (get_or (set ps e.number last) q 0)
    ≡ (if nat_eq e.number q then Some e else at_place xs ns q (get_or ps q 0))
found_pushed xs ns ms ps e last few many own others q = by_number (nat_eq e.number q) refl
  where
    at_other : (p : ℕ) → (b : Bool) → nat_eq p (length xs) ≡ b → nat_eq e.number q ≡ false
        → kept_in q (get_or ms p no_pair) (if b then Some (row_of e) else slice_get xs p) ≡ at_place xs ns q p
    at_other p true h f =
        of_another (row_of e) (get_or ms p no_pair) q f
        ∙ sym (ap (kept_in q (get_or ns p no_pair)) (ap (slice_get xs) (eqb-true p (length xs) h)
        ∙ slice_get_past xs (length xs) (omega arith)))
    at_other p false h f =
        ap (λ n. kept_in q n (slice_get xs p)) (others p (ap (nat_eq p) many ∙ h))

    by_number : (b : Bool) → nat_eq e.number q ≡ b
        → at_place (xs ++ row_of e ∷ []) ms q (get_or (set ps e.number last) q 0)
        ≡ (if b then Some e else at_place xs ns q (get_or ps q 0))
    by_number true h =
        ap (λ n. at_place (xs ++ row_of e ∷ []) ms q (get_or (set ps e.number last) n 0))
        (sym (eqb-true e.number q h))
        ∙ ap (at_place (xs ++ row_of e ∷ []) ms q) (get_or-set_same ps e.number last 0 few)
        ∙ ap (kept_in q (get_or ms last no_pair)) (ap (slice_get (xs ++ row_of e ∷ [])) many
        ∙ at_pushed xs (row_of e) (length xs)
        ∙ ap (λ b. if b then Some (row_of e) else slice_get xs (length xs)) (same (length xs)))
        ∙ of_its_own e (get_or ms last no_pair) q own h
    by_number false h =
        ap (at_place (xs ++ row_of e ∷ []) ms q)
        (get_or-set_other ps e.number q last 0 (λ like. eqb-false e.number q h (sym like)))
        ∙ ap (kept_in q (get_or ms (get_or ps q 0) no_pair)) (at_pushed xs (row_of e) (get_or ps q 0))
        ∙ at_other (get_or ps q 0) (nat_eq (get_or ps q 0) (length xs)) refl h

-- another row of a number, in the place of that which it leads to
pub found_set : (xs : List Row) (ns ms : List Pair) (ps : List ℕ) (e : Entry) (old : Row) (place : ℕ)
    → place < length xs → place ≡ get_or ps e.number 0 → old ≡ get_or xs place old → old.number ≡ e.number
    → counted (row_of e) (get_or ms place no_pair) ≡ pair_of e
    → ((p : ℕ) → nat_eq p place ≡ false → get_or ms p no_pair ≡ get_or ns p no_pair) → (q : ℕ)
    → at_place (set xs place (row_of e)) ms q (get_or ps q 0)
    ≡ (if nat_eq e.number q then Some e else at_place xs ns q (get_or ps q 0))
found_set xs ns ms ps e old place few leads there like own others q =
    ap (kept_in q (get_or ms (get_or ps q 0) no_pair)) (at_set xs (row_of e) place (get_or ps q 0) few)
    ∙ by_number (nat_eq e.number q) refl
  where
    stands : slice_get xs place ≡ Some old
    stands = slice_get_read xs (length xs) place old refl few there

    at_other : (p : ℕ) → (b : Bool) → nat_eq p place ≡ b → nat_eq e.number q ≡ false
        → kept_in q (get_or ms p no_pair) (if b then Some (row_of e) else slice_get xs p) ≡ at_place xs ns q p
    at_other p true h f =
        of_another (row_of e) (get_or ms p no_pair) q f
        ∙ sym (ap (kept_in q (get_or ns p no_pair)) (ap (slice_get xs) (eqb-true p place h) ∙ stands)
        ∙ of_another old (get_or ns p no_pair) q (ap (λ n. nat_eq n q) like ∙ f))
    at_other p false h f = ap (λ n. kept_in q n (slice_get xs p)) (others p h)

    by_number : (b : Bool) → nat_eq e.number q ≡ b
        → kept_in q (get_or ms (get_or ps q 0) no_pair)
        (if nat_eq (get_or ps q 0) place then Some (row_of e) else slice_get xs (get_or ps q 0))
        ≡ (if b then Some e else at_place xs ns q (get_or ps q 0))
    by_number true h =
        let here : get_or ps q 0 ≡ place = ap (λ n. get_or ps n 0) (sym (eqb-true e.number q h)) ∙ sym leads in
        ap (λ p. kept_in q (get_or ms p no_pair) (if nat_eq p place then Some (row_of e) else slice_get xs p)) here
        ∙ ap (λ b. kept_in q (get_or ms place no_pair) (if b then Some (row_of e) else slice_get xs place)) (same place)
        ∙ of_its_own e (get_or ms place no_pair) q own h
    by_number false h = at_other (get_or ps q 0) (nat_eq (get_or ps q 0) place) refl h
