-- At most one command is in service, and if none is, the oldest that waits may start.
use Rattle.mscp_controller.proofs.Basics.{◌≡◌, ℕ, ◌≤◌, true, not, List, [], ◌∷◌, length, ap, arith, filter, slice_get, Some, is_some, false≢true, ltb-true, every_weaker, filter_none, Settings, Trace, in_service, is_idle, waiting, is_free, is_startable, Single, cut_of, earlier_is}

-- beside one that was served nobody is
pub one_served : (t : Trace) (xs : List ℕ) → Single t xs → length (filter (in_service t) xs) ≤ 1
one_served t [] h = omega arith
one_served t (x ∷ xs) h = grind (arith, one_served t xs h.1, ltb-true, filter_none, every_weaker)

first_starts : (c : Settings) (t : Trace) (x : ℕ) (rest : List ℕ) → waiting t ≡ x ∷ rest → is_idle t ≡ true
    → is_startable c t x ≡ true
unfolding is_startable is_free
first_starts c t x rest e idle =
    search (arith, earlier_is t x [] rest (cut_of t [] x rest e), cut_of t [] x rest e, not)

first_of : (x : ℕ) (ws : List ℕ) → slice_get ws 0 ≡ Some x → (rest : List ℕ) × (ws ≡ x ∷ rest)
first_of x [] e = absurd (false≢true (ap is_some e))
first_of x (w ∷ ws) e = let same : w ≡ x = cc in (ws, ap (λ y. y ∷ ws) same)

pub oldest_starts : (c : Settings) (t : Trace) (x : ℕ) → slice_get (waiting t) 0 ≡ Some x → is_idle t ≡ true
    → is_startable c t x ≡ true
oldest_starts c t x e idle = let f = first_of x (waiting t) e in first_starts c t x f.0 f.1 idle
