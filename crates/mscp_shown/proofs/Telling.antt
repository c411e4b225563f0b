-- The ends that a controller makes tell of a unit what it is.
use Rattle.mscp_shown.proofs.Common.{Command, None, Order, Settings, answer_body, arith, false, fault_of, is_immediate, is_queued, true, true≢false, ℕ, ◌≡◌}
use Rattle.mscp_shown.proofs.Identity.{BodyControls}

pub answer_controls : (c : Settings) (figure unit : ℕ) (o : Order) → is_immediate o ≡ true
    → BodyControls c (answer_body c figure unit o)
answer_controls c figure unit o h = grind arith

-- what isn't queued and isn't refused is answered when it comes
pub immediate : (c : Settings) (k : Command) → is_queued c k ≡ false → fault_of c k ≡ None
    → is_immediate k.order ≡ true
immediate c k h e = grind (arith, true≢false)
