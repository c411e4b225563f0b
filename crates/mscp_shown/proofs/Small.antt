-- The messages of a trace are of bytes.
use Rattle.mscp_shown.proofs.Common.{AllByRecursion, AreBytes, Event, IsPossible, Moment, Trace, arith, every_weaker, moment, sent_bytes, suc, ℕ, ◌∷◌}

-- a moment's message is of bytes, if it has one
abbrev pub IsOfBytes : Moment → Type 0
IsOfBytes m = AreBytes (sent_bytes m.0)

of_bytes : (event : Event) → IsPossible event → AreBytes (sent_bytes event)
of_bytes x h = grind arith

pub all_bytes : (t : Trace) → AllByRecursion (λ (m : Moment). IsPossible m.0) t → AllByRecursion IsOfBytes t
all_bytes t h = every_weaker (λ (m : Moment). IsPossible m.0) IsOfBytes (λ m k. of_bytes m.0 k) t h

pub bytes_at : (t : Trace) → AllByRecursion IsOfBytes t → (x : ℕ) → AreBytes (sent_bytes (moment t x).0)
unfolding moment
bytes_at (m ∷ ms) h (suc x) = bytes_at ms h.1 x
bytes_at t h x = grind arith
