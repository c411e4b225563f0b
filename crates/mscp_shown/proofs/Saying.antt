-- What a message says on the wire, by what it asks for.
use Rattle.mscp_shown.proofs.Common.{Bool, Connection, List, None, Opcode, Option, Order, Sent, Some, arith, command_of, eqb-true, false, false≢true, find, found_is, if◌then◌else◌, inl, inr, invalid_length, invalid_opcode, is_about_another, is_required, is_short, le-ltb, least, length, ltb-false, ltb-true, move_byte, nat_eq, nat_lt, opcode_byte, opcode_of, opcodes, order_with, parameters, refl, row_of, sent_by, slice_index, true, ℕ, ◌<◌, ◌≡◌, ◌≤◌, ◌⊎◌}
use Rattle.mscp_packet.specs.OpcodeBytes as bytes
use Rattle.mscp_packet.specs.declared.command.Order.TheVariants as orders

-- it is shorter than its opcode asks
pub record IsShort (o : Opcode) (number fault : ℕ) (s : Sent) : Type 0 where
  pub why : fault ≡ invalid_length
  pub byte : number ≡ (row_of o).byte
  pub opcode : s.opcode ≡ (row_of o).byte
  pub about : is_about_another (row_of o).byte ≡ true → s.parameter ≡ None
  pub short : is_short s ≡ true

-- the command asks for this
abbrev pub Says : Order → Sent → Type 0
Says (orders.Abort other) s = (s.opcode ≡ bytes.abort) × (s.parameter ≡ Some other)
Says (orders.Status other) s = (s.opcode ≡ bytes.get_command_status) × (s.parameter ≡ Some other)
Says (orders.Move kind count block) s = (s.opcode ≡ move_byte kind) × (s.parameter ≡ Some count)
Says (orders.Invalid byte status) s =
    ((status ≡ invalid_opcode) × (is_required s.opcode ≡ false)) ⊎ ((o : Opcode) × IsShort o byte status s)
Says order s = s.opcode ≡ opcode_byte order

-- how many bytes a message that asks for this has at least
abbrev pub span : Order → ℕ
span (orders.Abort other) = 16
span (orders.Status other) = 16
span (orders.SetController version) = 14
span (orders.Move kind count block) = 32
span (orders.Invalid byte status) = 0
span order = 12

-- the message isn't too short for what it asks
abbrev pub IsLong : Order → Sent → Type 0
IsLong (orders.Invalid byte status) s = Unit {0}
IsLong order s = (is_short s ≡ false) × (span order ≤ s.bytes)

-- a byte that a controller may not leave out is in the table
required_found : (b : ℕ) → find (λ o. nat_eq (row_of o).byte b) opcodes ≡ None → is_required b ≡ false
required_found b h = grind (arith, false≢true)

module _ (via : Connection) (b : List ℕ) where
  short_is : (o : Opcode) → (row_of o).byte ≡ slice_index b 8
      → is_short (sent_by via b) ≡ nat_lt (length b) (least o)
  short_is o e = grind arith

  is_long : (o : Opcode) → (row_of o).byte ≡ slice_index b 8 → least o ≤ length b
      → IsLong (parameters o b) (sent_by via b)
  is_long o e h = grind (arith, short_is, le-ltb)

  says_long : (o : Opcode) → (row_of o).byte ≡ slice_index b 8 → least o ≤ length b
      → Says (parameters o b) (sent_by via b)
  says_long code e h = grind arith

  says_short : (o : Opcode) → (row_of o).byte ≡ slice_index b 8 → length b < least o
      → IsShort o (slice_index b 8) invalid_length (sent_by via b)
  says_short o e h = grind arith

  says_found : (found : Option Opcode) → find (λ o. nat_eq (row_of o).byte (slice_index b 8)) opcodes ≡ found
      → Says (order_with found b) (sent_by via b)
  says_found None e = inl (refl, required_found (slice_index b 8) e)
  says_found (Some o) e =
      let byte : (row_of o).byte ≡ slice_index b 8 = eqb-true (row_of o).byte (slice_index b 8)
      (found_is (λ o. nat_eq (row_of o).byte (slice_index b 8)) opcodes o e) in
      let P : Bool → Type 0 = λ short. nat_lt (length b) (least o) ≡ short
      → Says (if short then orders.Invalid (slice_index b 8) invalid_length else parameters o b) (sent_by via b) in
      elim (nat_lt (length b) (least o)) as P [
        | true ↦ λ h. inr (o, says_short o byte (ltb-true (length b) (least o) h))
        | false ↦ λ h. says_long o byte (ltb-false (length b) (least o) h)
      ] refl

  long_found : (found : Option Opcode) → find (λ o. nat_eq (row_of o).byte (slice_index b 8)) opcodes ≡ found
      → IsLong (order_with found b) (sent_by via b)
  long_found None e = tt
  long_found (Some o) e =
      let byte : (row_of o).byte ≡ slice_index b 8 = eqb-true (row_of o).byte (slice_index b 8)
      (found_is (λ o. nat_eq (row_of o).byte (slice_index b 8)) opcodes o e) in
      let P : Bool → Type 0 = λ short. nat_lt (length b) (least o) ≡ short
      → IsLong (if short then orders.Invalid (slice_index b 8) invalid_length else parameters o b) (sent_by via b) in
      elim (nat_lt (length b) (least o)) as P [
        | true ↦ λ h. tt
        | false ↦ λ h. is_long o byte (ltb-false (length b) (least o) h)
      ] refl

  pub sent_long : IsLong (command_of b).order (sent_by via b)
  unfolding command_of
  sent_long = long_found (opcode_of (slice_index b 8)) refl

  pub sent_says : Says (command_of b).order (sent_by via b)
  unfolding command_of
  sent_says = says_found (opcode_of (slice_index b 8)) refl
