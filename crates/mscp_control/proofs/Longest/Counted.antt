-- The figure of a command that waits as long as the bound counts down to its end, one by one.
use Rattle.mscp_control.proofs.Common.{◌≡◌, ℕ, zero, suc, ◌+◌, ◌-◌, ◌<◌, ◌≤◌, true, not, length, take, ap, ◌∙◌, arith, and_parts, length-take-le, take_all, Settings, IsValid, bound, Trace, moment, is_waiting, steps_after, figure, IsLegal, Promise, is_waiting_before, steps_last, steps_more, more_at, progress, waits_in}

-- what its figure and its steps so far come to, after so many moments
abbrev total : Settings → Trace → ℕ → ℕ → ℕ
total c t x i = figure c (take i t) x + steps_after (take i t) x

-- who waits after a moment that came later waited before it
waited : (t : Trace) (x i : ℕ) → x < i → i < length t → is_waiting (take (i + 1) t) x ≡ true
    → is_waiting (take i t) x ≡ true
waited t x i l h w =
    search (arith, length-take-le i t (omega (arith, h)), more_at t i h, and_parts, not, is_waiting_before)

-- and so after each moment between
waited_all : (t : Trace) (x n : ℕ) → n < length t → is_waiting (take n t) x ≡ true → (d i : ℕ) → x < i → i + d ≡ n
    → is_waiting (take i t) x ≡ true
waited_all t x n h w zero i l e = search arith
waited_all t x n h w (suc d) i l e =
    waited t x i l (omega (arith, e, h)) (waited_all t x n h w d (i + 1) (omega (arith, l)) (omega (arith, e)))

-- it doesn't rise while the command waits
sinks : (c : Settings) (t : Trace) (x i : ℕ) → Promise c t → x < i → i < length t → is_waiting (take i t) x ≡ true
    → total c t x (i + 1) ≤ total c t x i
sinks c t x i p l h w =
    search (arith, length-take-le i t (omega (arith, h)), waits_in (take i t) x w, more_at t i h, steps_more)

sinks_all : (c : Settings) (t : Trace) (x : ℕ) → Promise c t
    → ((i : ℕ) → x < i → i < length t → is_waiting (take i t) x ≡ true)
    → (d i : ℕ) → x < i → i + d ≤ length t → total c t x (i + d) ≤ total c t x i
sinks_all c t x p w zero i l h = search arith
sinks_all c t x p w (suc d) i l h =
    search (arith, sinks, sinks_all c t x p w d (i + 1) (omega (arith, l)) (omega (arith, h)))

-- at first it is at most the bound
first_total : (c : Settings) (t : Trace) (x : ℕ) → Promise c t → x < length t → total c t x (x + 1) ≤ bound c
first_total c t x p h =
    search (arith, length-take-le x t (omega (arith, h)), more_at t x h, steps_last (take x t) (moment t x))

-- The figure of a command that waits until the last moment, which is the bound-th step after it.
pub counted : (c : Settings) (t : Trace) (x n : ℕ) → IsValid c → IsLegal c t → length t ≡ n + 1 → x < n
    → is_waiting (take n t) x ≡ true → steps_after t x ≡ bound c
    → (i : ℕ) → x < i → i ≤ length t → total c t x i ≡ bound c
counted c t x n v legal len after w steps i l h =
    let p = progress c t v legal in
    let waits : (i : ℕ) → x < i → i < length t → is_waiting (take i t) x ≡ true =
    λ i l h. waited_all t x n (omega (arith, len)) w (n - i) i l (omega (arith, len, h)) in
    let all : i + (length t - i) ≡ length t = omega (arith, h) in
    let whole : take (i + (length t - i)) t ≡ t = ap (λ k. take k t) all ∙ take_all (length t) t (omega arith) in
    let low = sinks_all c t x p waits (length t - i) i l (omega (arith, h)) in
    let end = ap (λ u. steps_after u x) whole in
    let high = sinks_all c t x p waits (i - (x + 1)) (x + 1) (omega arith) (omega (arith, l, h)) in
    search (arith, first_total)
