-- The unit at the place of its number is the one that a search finds: no other has the number.
use Rattle.std.proofs.Common.{◌≡◌, ◌+◌, ◌<◌, ℕ, zero, suc, List, [], ◌∷◌, length, get_or, Some, cond, ap, sym, ◌∙◌, subst, arith, eq-eqb, ne_eqb}
use Rattle.mscp_drive.specs.UnitList.{NumbersRise, unit_found}
use Rattle.mscp_drive.specs.Shape.{Shape}

next_is : (i : ℕ) → i + 1 ≡ suc i
next_is i = omega arith

-- the numbers behind the first rise too
behind : (x : Shape) (us : List Shape) → NumbersRise (x ∷ us) → NumbersRise us
behind x us r = λ i u l. subst (λ k. (get_or us i u).number < (get_or (x ∷ us) k u).number)
    (next_is (suc i) ∙ ap suc (sym (next_is i))) (r (suc i) u (omega (arith, l)))

-- the first number is below each behind it
below : (x : Shape) (us : List Shape) (i : ℕ) (u : Shape) → NumbersRise (x ∷ us) → i < length us
    → x.number < (get_or us i u).number
below x us zero u r l = r 0 u (omega (arith, l))
below x us (suc i) u r l =
    let first = below x us i u r (omega (arith, l)) in
    let next = subst (λ k. (get_or us i u).number < (get_or (x ∷ us) k u).number) (next_is (suc i))
    (r (suc i) u (omega (arith, l))) in
    omega (arith, first, next)

pub found_at : (us : List Shape) (i n : ℕ) (u : Shape) → NumbersRise us → i < length us → u ≡ get_or us i u
    → u.number ≡ n → unit_found us n ≡ Some u
found_at [] i n u r l e num = absurd (omega (arith, l))
found_at (x ∷ us) zero n u r l e num =
    let own : x.number ≡ n = ap (λ (s : Shape). s.number) (sym e) ∙ num in
    ap (λ b. cond b (Some x) (unit_found us n)) (eq-eqb x.number n own) ∙ ap Some (sym e)
found_at (x ∷ us) (suc i) n u r l e num =
    let inside : i < length us = omega (arith, l) in
    let less : x.number < u.number = subst (λ (s : Shape). x.number < s.number) (sym e) (below x us i u r inside) in
    ap (λ b. cond b (Some x) (unit_found us n)) (ne_eqb x.number n (λ s. omega (arith, s, num, less)))
    ∙ found_at us i n u (behind x us r) inside e num
