use Rattle.mscp_reader.proofs.Common.{◌≡◌, ◌==◌, ℕ, Bool, true, false, List, length, arith, nat_lt, position, Option, Some, None, lt-ltb, nat_tests, position_or_len_is, IsFirstByte, is_byte}
use Rattle.mscp_reader.proofs.pieces.feed_in.Goals as goal

not_true : (b : Bool) → ¬ (b ≡ true) → b ≡ false
not_true b h1 = search arith

-- the first byte of a kind, by its place
first_place : (xs : List ℕ) (r : Option ℕ) → IsFirstByte (is_byte 10) xs r → r ≡ position (λ b. b == 10) xs
first_place xs None h =
    let e = position_or_len_is (λ b. b == 10) xs (length xs) 0 (omega arith)
    (λ k l. not_true _ (h k (omega arith) l)) (λ l. absurd (omega arith)) in
    search (arith, nat_lt, nat_tests)
first_place xs (Some k) h = search (arith, position_or_len_is, nat_lt, lt-ltb)

pub returns : goal.returns
returns c = first_place c.args.bytes.now c.memchr.result c.memchr.ensures
