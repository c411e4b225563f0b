-- Decimal digits.
use Rattle.mscp_reader.proofs.Common.{◌≡◌, ◌<◌, ◌≤◌, ◌+◌, ◌-◌, ◌*◌, ◌^◌, ℕ, true, List, take, length, get_or, arith, decimal, length-decimal-le, list_all, digits_value, nat_tests, common_steps, digits_value_more, digit_value_digit, list_all_more, is_digit}

pub value_more : (word : List ℕ) (i v : ℕ) → i < length word → 48 ≤ get_or word i 0 → get_or word i 0 ≤ 57
    → v ≡ digits_value 10 (take i word) → v * 10 + (get_or word i 0 - 48) ≡ digits_value 10 (take (i + 1) word)
value_more word i v h low high e = search (arith, digits_value_more, digit_value_digit)

pub all_more : (word : List ℕ) (i : ℕ) → i < length word → 48 ≤ get_or word i 0 → get_or word i 0 ≤ 57
    → list_all is_digit (take i word) ≡ true → list_all is_digit (take (i + 1) word) ≡ true
all_more word i h low high e = rw (list_all_more is_digit word i 0 h, e) (grind (arith, nat_tests))

pub small_more : (i v d : ℕ) → d < 10 → v < 10 ^ i → v * 10 + d < 10 ^ (i + 1)
small_more i v d h e = grind (arith, common_steps)

-- ---- how many there are

pub few_digits : (n : ℕ) → n < 2 ^ 32 → length (decimal n) ≤ 10
few_digits n h = length-decimal-le 10 n (omega arith) (omega (arith, h)) (omega (arith, h))
