-- One more round of each loop that writes the longest run.
use Rattle.mscp_control.proofs.Common.{◌≡◌, ℕ, suc, ◌*◌, ◌≤◌, ◌+◌, ◌-◌, [], ◌∷◌, ◌++◌, ap, arith, Shape, First, Transfer, Settings, Trace, come_on, connection_at, long_read, pass_on, queueing, read_command, rest_on, runs_on, short_read, stepping, steps_on}

pub steps_next : (s : Shape) (x : Transfer) (from : ℕ) (t : Trace) (j : ℕ)
    → steps_on s x from t (j + 1) ≡ steps_on s x from t j ++ stepping s x from j ∷ []
steps_next s x from t j = let e : j + 1 ≡ suc j = omega arith in ap (λ i. steps_on s x from t i) e

pub come_next : (c : Settings) (s : Shape) (t : Trace) (i : ℕ)
    → come_on c s t (i + 1) ≡ come_on c s t i ++ queueing (connection_at c i) (read_command s (long_read c i)) ∷ []
come_next c s t i = let e : i + 1 ≡ suc i = omega arith in ap (λ k. come_on c s t k) e

pub pass_next : (c : Settings) (s : Shape) (t : Trace) (j : ℕ) → pass_on c s t (j + 1) ≡ runs_on s (short_read c)
    (c.longest - 1) (pass_on c s t j ++ queueing First (read_command s (short_read c)) ∷ [])
pass_next c s t j = let e : j + 1 ≡ suc j = omega arith in ap (λ i. pass_on c s t i) e

pub rest_next : (c : Settings) (s : Shape) (t : Trace) (i : ℕ)
    → rest_on c s t (i + 1) ≡ runs_on s (long_read c (i + 1)) (c.longest - 1) (rest_on c s t i)
rest_next c s t i = let e : i + 1 ≡ suc i = omega arith in ap (λ k. rest_on c s t k) e

-- The moments of the run: three of an ONLINE, one for each long READ that comes, those of the first, three for each
-- short one, and those of the other long ones. The end of the last isn't taken.
pub moments_enough : (R L Q : ℕ) → 2 ≤ R → 1 ≤ L
    → 3 + R + L + 1 + 3 * Q + (R - 2) * (L + 1) + L ≤ R * L + Q + 2 * Q + 2 * R + 2
moments_enough R L Q many some = search arith
