-- Bytes whose head tells how many they are.
use Rattle.mscp_saved.proofs.Common.{◌≡◌, ◌+◌, ◌*◌, ◌≤◌, true, List, length, ℕ, arith, nat_le, and_parts, eqb-true, leb-true, drive_count, first_count, second_count, waiting_count, is_framed}

pub record IsFramed (b : List ℕ) : Type 0 where
  pub head : 48 ≤ length b
  pub length_is : 48 + 34 * drive_count b + 41 * waiting_count b + 48 * (first_count b + second_count b) ≡ length b
  pub drives : drive_count b ≤ 16
  pub parts : waiting_count b + (first_count b + second_count b) ≤ 64

pub framed_of : (b : List ℕ) → is_framed b ≡ true → IsFramed b
framed_of b h = search (arith, and_parts (nat_le 48 (length b)) _ h, leb-true, eqb-true)
