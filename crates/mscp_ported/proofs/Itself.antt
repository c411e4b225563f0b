-- An answer of the port's own has the number of its message, and is whole.
use Rattle.mscp_ported.proofs.Common.{BodyKind, Call, IsWhole, List, Option, Own, Some, Stage, Volume, WriteIp, [], and_parts, ap, arith, asks_nothing, cond, end_length, false, four, is_dead, kind_of_code, length, moves_data, none-some, num, own_answer, own_text, refl, same_Some, since, slice_index, true, ℕ, ◌++◌, ◌+◌, ◌<◌, ◌^◌, ◌≡◌, ◌≢◌, ◌≤◌, ◌⊎◌, port_answers, is_transfer_opcode}
use Rattle.std.specs.Prelude.{nat_le}
use Rattle.mscp_packet.specs.declared.end.BodyKind.TheVariants.{Moved}
use Rattle.mscp_ported.proofs.Rows.{move_opcode, no_body}

pub own_number : (b : List ℕ) (own : Own) → num b 0 4 < 2 ^ 32 → num (own_text b own) 0 4 ≡ num b 0 4
own_number b own small = four (num b 0 4) small

pub own_bytes : (b : List ℕ) (own : Own) → num (own_text b own) 12 4 ≡ 0
own_bytes b own = grind arith

-- what the port answers is whole
high : (n : ℕ) → 0x80 ≤ n + 0x80
high n = omega arith

low_body : (k : BodyKind) (opcode : ℕ) → is_transfer_opcode opcode ≡ true → kind_of_code (opcode + 0x80) ≡ Some k
    → end_length k ≤ 32
low_body k = move_opcode (λ n. kind_of_code (n + 0x80) ≡ Some k → end_length k ≤ 32) moved moved moved moved moved
  where
    moved : Some Moved ≡ Some k → end_length k ≤ 32
    moved is = grind (arith, is)

-- of the past of a volume
abbrev pub IsPast : ℕ → Type 0
IsPast status = (status ≡ 0x1C01) ⊎ (status ≡ 0x0C01)

-- the answer to one that asks nothing, and that to a transfer which isn't on its volume
abbrev pub own_formal : List ℕ → Own
own_formal b = record { code = slice_index b 8 + 0x80; status = 0; tells_bytes = false }

abbrev pub own_refused : List ℕ → ℕ → Own
own_refused b status = record { code = slice_index b 8 + 0x80; status = status; tells_bytes = true }

-- it answers just these
pub own_cases : (v : Option Volume) (b : List ℕ) (P : Own → Type 0)
    → (asks_nothing (slice_index b 8) ≡ true → P (own_formal b))
    → ((status : ℕ) → moves_data b ≡ true → IsPast status → P (own_refused b status)) → (own : Own)
    → own_answer false v b ≡ Some own → P own
own_cases v b P formal refused own h = grind (arith, same_Some, none-some, and_parts)

pub own_whole : (v : Option Volume) (b : List ℕ) (own : Own) → own_answer false v b ≡ Some own
    → IsWhole (own_text b own)
own_whole v b = own_cases v b (λ own. IsWhole (own_text b own)) (λ asks. record {
  long = omega arith;
  short = omega arith;
  top = high (slice_index b 8);
  body = λ k e. absurd (no_body k (slice_index b 8) asks e);
}) (λ status moves past. record {
  long = omega arith;
  short = omega arith;
  top = high (slice_index b 8);
  body = λ k is. low_body k (slice_index b 8)
      (and_parts (is_transfer_opcode (slice_index b 8)) (nat_le 32 (length b)) moves).0 is;
})

-- what the port answers has the code of the message's opcode, and answers neither a poll nor an ABORT
pub own_coded : (v : Option Volume) (b : List ℕ) (own : Own) → own_answer false v b ≡ Some own
    → (own.code ≡ slice_index b 8 + 0x80) × (own.code ≢ 0x82) × (own.code ≢ 0x81)
unfolding port_answers is_transfer_opcode
own_coded v b = grind (arith, own_cases)

-- ---- a call

pub since_alive : {X : Type 0} (s : Stage) (call : Call) (xs ys : List X) → call ≢ WriteIp → is_dead s ≡ false
    → since s call xs ys ≡ xs ++ ys
since_alive s WriteIp xs ys never lives = absurd (never refl)
since_alive s call xs ys never lives = ap (λ b. cond b [] (xs ++ ys)) lives
