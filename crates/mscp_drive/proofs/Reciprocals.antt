-- A block number divided by a number is the high half of its product with the next of the number's reciprocal.
use Rattle.std.proofs.Common.{◌≡◌, ◌<◌, ◌≤◌, ◌+◌, ◌-◌, ◌*◌, ◌/◌, ℕ, arith, ⊎_elim}
use Rattle.std.proofs.Math.Nat.{div-mul-le_self, lt-div-mul-add, mul-le-mul_left, mul-le-mul_right, lt_of_mul-lt-mul_left}
use Rattle.std.proofs.lemmas.Nat.{div-mul-add, mul-le}
use Rattle.std.proofs.lemmas.Bool.{cases_lt}
use Rattle.mscp_drive.specs.Reciprocals.{reciprocal_of}

abbrev whole : ℕ
whole = 18446744073709551616

-- the next of the reciprocal, times the number, is at least the whole
covers : (b : ℕ) → 0 < b → whole ≤ (reciprocal_of b + 1) * b
covers b some = let over : 18446744073709551615 < reciprocal_of b * b + b = lt-div-mul-add some in grind (arith, over)

-- and over it by less than the number
exceeds : (b : ℕ) → 0 < b → (reciprocal_of b + 1) * b ≤ whole + (b - 1)
exceeds b some = let under : reciprocal_of b * b ≤ 18446744073709551615 = div-mul-le_self 18446744073709551615 b in
    grind (arith, under)

-- so the quotient isn't more than the product's high half
low : (n b m q : ℕ) → q * b ≤ n → whole ≤ m * b → q * whole ≤ n * m
low n b m q h k =
    let all : q * whole ≤ q * (m * b) = mul-le-mul_left q k in
    let more : q * b * m ≤ n * m = mul-le-mul_right m h in
    grind (arith, all, more)

-- and not less, for a number of at most 2^32
high_small : (n b m q : ℕ) → n < 4294967296 → b ≤ 4294967296 → n < q * b + b → m * b ≤ whole + (b - 1)
    → n * m < q * whole + whole
high_small n b m q few small over k =
    let spare : n * (b - 1) ≤ 4294967295 * 4294967295 =
    mul-le n (b - 1) 4294967295 4294967295 (omega arith) (omega arith) in
    let product : n * (m * b) ≤ n * (whole + (b - 1)) = mul-le-mul_left n k in
    let next : (n + 1) * whole ≤ (q * b + b) * whole = mul-le-mul_right whole (omega arith) in
    let all : b * (n * m) < b * (q * whole + whole) = grind (arith, spare, product, next) in
    lt_of_mul-lt-mul_left b all

-- and for a larger one
high_large : (n b r q : ℕ) → n < 4294967296 → 4294967296 < b → r * b ≤ 18446744073709551615
    → n * (r + 1) < q * whole + whole
high_large n b r q few large k =
    let tiny : r < 4294967296 =
    ⊎_elim (λ below. below) (λ above. let all : 4294967296 * 4294967297 ≤ r * b =
    mul-le 4294967296 4294967297 r b above (omega arith) in absurd (omega (arith, all))) (cases_lt r 4294967296) in
    let product : n * (r + 1) ≤ 4294967295 * 4294967296 =
    mul-le n (r + 1) 4294967295 4294967296 (omega arith) (omega arith) in
    omega (arith, product)

high : (n b q : ℕ) → n < 4294967296 → 0 < b → n < q * b + b → n * (reciprocal_of b + 1) < q * whole + whole
high n b q few some over =
    ⊎_elim (λ large. high_large n b (reciprocal_of b) q few large (div-mul-le_self 18446744073709551615 b))
    (λ small. high_small n b (reciprocal_of b + 1) q few small over (exceeds b some)) (cases_lt 4294967296 b)

pub divides : (n b : ℕ) → n < 4294967296 → 0 < b → n * (reciprocal_of b + 1) / whole ≡ n / b
divides n b few some =
    let q = n / b in
    let from : q * whole ≤ n * (reciprocal_of b + 1) =
    low n b (reciprocal_of b + 1) q (div-mul-le_self n b) (covers b some) in
    let to : n * (reciprocal_of b + 1) < q * whole + whole = high n b q few some (lt-div-mul-add some) in
    let rest = n * (reciprocal_of b + 1) - q * whole in
    let sum : n * (reciprocal_of b + 1) ≡ q * whole + rest = omega (arith, from) in
    rw sum (div-mul-add q whole rest (omega (arith, from, to)))
