-- What a message is read as.
use Rattle.mscp_c.proofs.Common.{◌≡◌, ℕ, ◌<◌, List, length, Ok, Err, Result, IfOk, refl, ap, ◌∙◌, ◌↔◌, Command, PacketFault, IsCommand, command_of, command_is, message_read}
use native.Mathlib.Omega.{arith}
use Rattle.mscp_packet.specs.declared.reading.PacketFault.TheVariants as sizes

short : (b : List ℕ) → length b < 12 → Err sizes.Short ≡ message_read b
short b l = grind arith

long : (b : List ℕ) → 64 < length b → Err sizes.Long ≡ message_read b
long b l = grind arith

right : (b : List ℕ) (c : Command) → IsCommand b c → Ok (command_of b) ≡ message_read b
right b c h = grind arith

pub read_is : (b : List ℕ) (r : Result Command PacketFault) → ((r ≡ Err sizes.Short) ↔ (length b < 12))
    → ((r ≡ Err sizes.Long) ↔ (64 < length b)) → IfOk r (λ c. IsCommand b c) → r ≡ message_read b
read_is b (Err sizes.Short) s l h = short b (s.0 refl)
read_is b (Err sizes.Long) s l h = long b (l.0 refl)
read_is b (Ok c) s l h = ap Ok (command_is b c h) ∙ right b c h
