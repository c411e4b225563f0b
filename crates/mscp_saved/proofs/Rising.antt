-- Units whose numbers rise.
use Rattle.mscp_saved.proofs.Common.{◌≡◌, ℕ, zero, suc, ◌+◌, ◌<◌, true, List, [], ◌∷◌, get_or, length, refl, subst, arith, nat_lt, nat_le, and_from, and_parts, false≢true, le-leb, leb-true, lt-ltb, ltb-true, Shape, IsUnitList, NumbersRise, are_units, rise_above}

rising_at : (number : ℕ) (us : List Shape) → rise_above number us ≡ true → (i : ℕ) (d : Shape) → i < length us
    → (number < (get_or us zero d).number) × (suc i < length us → (get_or us i d).number < (get_or us (suc i) d).number)
rising_at number [] h i d l = absurd (omega (arith, l))
rising_at number (u ∷ us) h zero d l =
    let p = and_parts (nat_lt number u.number) (rise_above u.number us) h in
    (ltb-true number u.number p.0, λ m. (rising_at u.number us p.1 zero d (omega (arith, m))).0)
rising_at number (u ∷ us) h (suc i) d l =
    let p = and_parts (nat_lt number u.number) (rise_above u.number us) h in
    (ltb-true number u.number p.0, λ m. (rising_at u.number us p.1 i d (omega (arith, l))).1 (omega (arith, m)))

pub units_of_test : (us : List Shape) → are_units us ≡ true → IsUnitList us
units_of_test [] h = absurd (false≢true h)
units_of_test (u ∷ us) h =
    let p = and_parts (nat_le (length (u ∷ us)) 16) (rise_above u.number us) h in
    record { some = omega arith; few = leb-true (length (u ∷ us)) 16 p.0; rising = λ i d l. rising u us p.1 i d l }
  where
    rising : (u : Shape) (us : List Shape) → rise_above u.number us ≡ true → NumbersRise (u ∷ us)
    rising u us r zero d l = (rising_at u.number us r zero d (omega (arith, l))).0
    rising u us r (suc i) d l =
        let e : suc (suc i) ≡ suc i + 1 = omega arith in
        subst (λ n. (get_or us i d).number < (get_or (u ∷ us) n d).number) e
        ((rising_at u.number us r i d (omega (arith, l))).1 (omega (arith, l)))

rest_of : (u : Shape) (us : List Shape) → NumbersRise (u ∷ us) → NumbersRise us
rest_of u us rest i d l =
    let e : suc i + 1 ≡ suc (i + 1) = omega arith in
    subst (λ n. (get_or us i d).number < (get_or (u ∷ us) n d).number) e (rest (suc i) d (omega (arith, l)))

rises : (number : ℕ) (us : List Shape)
    → ((d : Shape) → 0 < length us → number < (get_or us 0 d).number) → NumbersRise us → rise_above number us ≡ true
rises number [] first rest = refl
rises number (u ∷ us) first rest = and_from (nat_lt number u.number) (rise_above u.number us) (lt-ltb number
    u.number (first u (omega arith))) (rises u.number us (λ d l. rest 0 d (omega (arith, l))) (rest_of u us rest))

pub test_of_units : (us : List Shape) → IsUnitList us → are_units us ≡ true
test_of_units us h1 = grind (arith, and_from, le-leb, rises, rest_of)
