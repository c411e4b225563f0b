-- The bytes of a number, the lowest first, give it back.
use Rattle.mscp_packet.proofs.Common.{◌≡◌, ℕ, ◌+◌, ◌*◌, ◌/◌, ◌%◌, ◌^◌, ◌<◌, arith}

pub two : (x : ℕ) → x < 2 ^ 16 → 0 + x % 256 * 1 + x / 256 % 256 * 256 ≡ x
two x h = omega arith

pub four : (x : ℕ) → x < 2 ^ 32
    → 0 + x % 256 * 1 + x / 256 % 256 * 256 + x / 65536 % 256 * 65536 + x / 16777216 % 256 * 16777216 ≡ x
four x h = omega arith

pub eight : (x : ℕ) → x < 2 ^ 64
    → 0 + x % 256 * 1 + x / 256 % 256 * 256 + x / 65536 % 256 * 65536 + x / 16777216 % 256 * 16777216
    + x / 4294967296 % 256 * 4294967296 + x / 1099511627776 % 256 * 1099511627776
    + x / 281474976710656 % 256 * 281474976710656 + x / 72057594037927936 % 256 * 72057594037927936 ≡ x
eight x h = omega arith
