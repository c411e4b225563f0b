-- What the table says that a port answers, and what it says is a transfer, opcode by opcode.
use Rattle.mscp_ported.proofs.Common.{Some, and_parts, arith, ends_formality, eqb-true, false≢true, is_transfer_opcode, kind_of_code, none-some, port_answers, subst, sym, true, BodyKind, ℕ, ◌+◌, ◌-◌, ◌≡◌, refl, false}
use Rattle.std.specs.Prelude.{nat_le}

pub formal_opcode : (P : ℕ → Type 0) → P 11 → P 17 → P 19 → (n : ℕ) → port_answers n ≡ true → P n
unfolding port_answers
formal_opcode P a b c n e = grind arith

-- and endcode by endcode
same_code : (code : ℕ) → nat_le 0x80 code ≡ true → code - 0x80 + 0x80 ≡ code
same_code code high = search (arith, high)

pub formal_endcode : (P : ℕ → Type 0) → P 0x8B → P 0x91 → P 0x93 → (code : ℕ) → ends_formality code ≡ true → P code
formal_endcode P a b c code e =
    let p = and_parts (nat_le 0x80 code) (port_answers (code - 0x80)) e in
    subst P (same_code code p.0) (formal_opcode (λ n. P (n + 0x80)) a b c (code - 0x80) p.1)

-- the code of an end whose opcode isn't known is none of them
pub unknown_plain : ends_formality 0x80 ≡ false
unfolding port_answers
unknown_plain = refl

-- their ends have no body
pub no_body : (k : BodyKind) (n : ℕ) → port_answers n ≡ true → kind_of_code (n + 0x80) ≡ Some k → ⊥
unfolding port_answers
no_body k n e =
    formal_opcode (λ n. port_answers n ≡ true → kind_of_code (n + 0x80) ≡ Some k → ⊥)
    (λ a is. grind (arith, none-some, false≢true)) (λ a is. grind (arith, none-some, false≢true))
    (λ a is. grind (arith, none-some, false≢true)) n e e

pub formal_none : (code : ℕ) (k : BodyKind) → ends_formality code ≡ true → kind_of_code code ≡ Some k → ⊥
formal_none code k e is =
    let p = and_parts (nat_le 0x80 code) (port_answers (code - 0x80)) e in
    no_body k (code - 0x80) p.1 (subst (λ c. kind_of_code c ≡ Some k) (sym (same_code code p.0)) is)

pub move_opcode : (P : ℕ → Type 0) → P 16 → P 18 → P 32 → P 33 → P 34 → (n : ℕ) → is_transfer_opcode n ≡ true → P n
unfolding is_transfer_opcode
move_opcode P a b c d f n e = grind (arith, eqb-true, false≢true)
