-- The figure of a command that waits falls between two moments with a step between them.
use Rattle.mscp_shown.proofs.Common.{Promise, Settings, Trace, ap, arith, figure, is_step, is_waiting, length, length-take-le, moment, more_at, subst, suc, take, take_all, true, waits_in, zero, ℕ, ◌+◌, ◌-◌, ◌<◌, ◌≡◌, ◌≤◌}
use Rattle.mscp_shown.proofs.Placing.{waited}

module _ (c : Settings) (t : Trace) (x : ℕ) (w : is_waiting t x ≡ true) (promise : Promise c t) where
  -- it waited since it came
  waited_at : (n j : ℕ) → j + n ≡ length t → x < j → is_waiting (take j t) x ≡ true
  waited_at zero j e l = grind (arith, take_all)
  waited_at (suc n) j e l =
      grind (arith, waited_at n (j + 1) (omega (arith, e)) (omega (arith, l)), waited, length-take-le, more_at)

  there : (j : ℕ) → j ≤ length t → x < j → is_waiting (take j t) x ≡ true
  there j h l = waited_at (length t - j) j (omega (arith, h)) l

  lower : (n j : ℕ) → j + n ≤ length t → x < j → figure c (take (j + n) t) x ≤ figure c (take j t) x
  lower zero j h l = grind arith
  lower (suc n) j h l = grind (arith, lower n (j + 1) (omega (arith, h)) (omega (arith, l)), waits_in, there)

  lower_to : (i j : ℕ) → i ≤ j → j ≤ length t → x < i → figure c (take j t) x ≤ figure c (take i t) x
  lower_to i j h l k =
      let e : i + (j - i) ≡ j = omega (arith, h) in
      subst (λ q. figure c (take q t) x ≤ figure c (take i t) x) e (lower (j - i) i (omega (arith, h, l)) k)

  pub falls_since : (i k : ℕ) → x < i → i < k → k < length t → is_step (moment t k).0 ≡ true
      → figure c t x < figure c (take i t) x
  falls_since i k l h low step =
      let fall = promise.falls k low step x
      (waits_in (take k t) x (there k (omega (arith, low)) (omega (arith, l, h)))) in
      let before = lower_to i k (omega (arith, h)) (omega (arith, low)) l in
      let after = lower_to (k + 1) (length t) (omega (arith, low)) (omega arith) (omega (arith, l, h)) in
      let all : take (length t) t ≡ t = take_all (length t) t (omega arith) in
      omega (arith, fall, before, after, ap (λ p. figure c p x) all)
