-- The opcode byte of a message is that of its command.
use Rattle.mscp_packet.proofs.Common.{arith, ◌≡◌, ℕ, Bool, List, [], ◌∷◌, ap, ◌∙◌, find, nat_eq, nat_lt, is_some, Option, Some, slice_index, eqb-true, false≢true, Opcode, Order, least, row_of, opcode_of, opcodes, opcode_byte, order_with}

-- what is found of a byte has that byte
found_byte : (os : List Opcode) (byte : ℕ) (o : Opcode) → find (λ x. nat_eq (row_of x).byte byte) os ≡ Some o
    → (row_of o).byte ≡ byte
found_byte [] byte o h = absurd (false≢true (ap is_some h))
found_byte (x ∷ xs) byte o h = search (arith, nat_eq, Bool, eqb-true, found_byte xs byte o)

order_byte : (found : Option Opcode) (b : List ℕ) → ((o : Opcode) → found ≡ Some o → (row_of o).byte ≡ slice_index b 8)
    → opcode_byte (order_with found b) ≡ slice_index b 8
order_byte found b h1 = search (arith, nat_lt, least)

pub opcode_kept : (b : List ℕ) (o : Order) → o ≡ order_with (opcode_of (slice_index b 8)) b
    → opcode_byte o ≡ slice_index b 8
opcode_kept b o e = ap opcode_byte e ∙ order_byte (opcode_of (slice_index b 8)) b
    (λ o e. found_byte opcodes (slice_index b 8) o e)
