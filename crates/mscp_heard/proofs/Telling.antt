-- What a port told, as what it said is packed.
use Rattle.mscp_heard.proofs.Common.{AreAccepted, Envelope, List, Opened, OutgoingKind, Packet, Said, Slot, Some, Talk, TellAll, Tells, [], arith, connection_told, credits_in, left_after, length, length-map, none-some, same_Some, slice_get, suc, zero, ℕ, ◌%◌, ◌*◌, ◌++◌, ◌+◌, ◌∷◌, ◌≡◌}
use Rattle.std.specs.Prelude.{◌/◌}

pub counted : (t : Talk) (texts : List (List ℕ)) (slot : Slot) (header : ℕ) → t.turn ≡ Opened slot header
    → AreAccepted t.heard t.turn texts → length t.heard ≡ length texts
counted t texts slot header opened h = grind (arith, length-map)

pub tell_at : (left : ℕ) (told : List Packet) (gone : List Said) (k : ℕ) (packet : Packet) → TellAll left told gone
    → slice_get told k ≡ Some packet → (s : Said) × (rest : ℕ) × (slice_get gone k ≡ Some s) × Tells rest packet s
tell_at left [] gone k packet t e = absurd (none-some packet e)
tell_at left (x ∷ told) [] k packet t e = absurd t
tell_at left (x ∷ told) (s ∷ gone) zero packet t e = grind (arith, same_Some)
tell_at left (x ∷ told) (s ∷ gone) (suc k) packet t e = tell_at (left_after left s.kind) told gone k packet t.1 e

pub first_part : (xs ys : List Said) (k : ℕ) (s : Said) → slice_get xs k ≡ Some s → slice_get (xs ++ ys) k ≡ Some s
first_part [] ys k s e = absurd (none-some s e)
first_part (x ∷ xs) ys zero s e = e
first_part (x ∷ xs) ys (suc k) s e = first_part xs ys k s e

pub size_of : (n : ℕ) → 0 + n % 256 * 1 + n / 256 % 256 * 256 ≡ n % 0x1_0000
size_of n = omega arith

pub few_credits : (left : ℕ) (kind : OutgoingKind) → credits_in left kind / 16 ≡ 0
few_credits left kind = grind arith

pub record IsHeard (ss : List Said) (k : ℕ) (v : Envelope) (b : List ℕ) : Type 0 where
  pub said : Said
  pub at : slice_get ss k ≡ Some said
  pub text : b ≡ said.text
  pub connection : v.connection ≡ connection_told said.kind
  pub size : v.length ≡ length said.text % 0x1_0000
  pub kind : v.kind ≡ 0
