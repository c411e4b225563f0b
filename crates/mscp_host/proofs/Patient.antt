-- A watch waits a whole timeout.
use Rattle.mscp_host.proofs.Common.{Advice, Bool, Heard, Lately, List, PortAccount, Tick, Told, WatchMoment, Watched, WatchesArePatient, [], advice, and_parts, ap, arith, cond, counted, false, false≢true, if◌then◌else◌, is_silent, is_tick, is_unpolled, leb-true, ltb-true, min, not-true, refl, sum_by-cons, ticked, true, ℕ, ◌&&◌, ◌+◌, ◌∷◌, ◌≡◌, ◌≤◌}
use Rattle.mscp_host.specs.declared.ticking.Advice.TheVariants as advices
use Rattle.mscp_host.specs.declared.ticking.Watch.{Watch}

-- ---- the newest moments

none : (test : WatchMoment → Bool) (before : List WatchMoment) → Lately test 0 before
none test before = record { lately = []; earlier = before; is = refl; all = refl; many = omega arith }

one_tick : (test : WatchMoment → Bool) (n : ℕ) (before : List WatchMoment) (m : WatchMoment) (k : ℕ)
    → cond (is_tick m) 1 0 ≡ k → test m ≡ true → Lately test n before → Lately test (n + k) (m ∷ before)
one_tick test n before m k t e l =
    let many = l.many in
    let more = sum_by-cons (λ x. cond (is_tick x) 1 0) m l.lately in
    record {
      lately = m ∷ l.lately;
      earlier = l.earlier;
      is = ap (λ (xs : List WatchMoment). m ∷ xs) l.is;
      all = λ i. e i && l.all i;
      many = omega (arith, many, more, t);
    }

fewer : (test : WatchMoment → Bool) (n k : ℕ) (before : List WatchMoment) → k ≤ n → Lately test n before
    → Lately test k before
fewer test n k before less l = grind arith

-- a tick more, if that goes on
counts_on : (test : WatchMoment → Bool) (n : ℕ) (before : List WatchMoment) (p : PortAccount) (answer : Advice)
    (b : Bool) → (b ≡ true → test (Tick p answer) ≡ true) → Lately test n before
    → Lately test (counted b n) (Tick p answer ∷ before)
counts_on test n before p answer true t l =
    fewer test (n + 1) (min (n + 1) 4294967295) _ (omega arith)
    (one_tick test n before (Tick p answer) 1 refl (t refl) l)
counts_on test n before p answer false t l = none test _

told_on : (test : WatchMoment → Bool) (n : ℕ) (before : List WatchMoment) (heard : Heard) → test (Told heard) ≡ true
    → Lately test n before → Lately test n (Told heard ∷ before)
told_on test n before heard t l =
    let same : n ≤ n + 0 = omega arith in
    fewer test (n + 0) n _ same (one_tick test n before (Told heard) 0 refl t l)

-- ---- what a watch has counted

record Has (timeout : ℕ) (before : List WatchMoment) (w : Watch) : Type 0 where
  is : w.timeout ≡ timeout
  waited : Lately is_unpolled w.waited before
  silent : Lately is_silent w.silent before

has : (timeout : ℕ) (before : List WatchMoment) (w : Watch) → Watched timeout before w → Has timeout before w
has timeout [] w e = grind (arith, none)
has timeout (Tick p answer ∷ before) w x = grind (arith, has timeout before x.0 x.2, counts_on, none)
has timeout (Told heard ∷ before) w x = grind (arith, has timeout before x.0 x.2, told_on, none)

-- ---- what it says

-- the reasons
resets : (b d : Bool) → (if b then advices.Reset else (if d then advices.Poll else advices.Nothing)) ≡ advices.Reset
    → b ≡ true
resets o d e = grind (arith, false≢true)

polls : (b d : Bool) → (if b then advices.Reset else (if d then advices.Poll else advices.Nothing)) ≡ advices.Poll
    → d ≡ true
polls o d e = grind (arith, false≢true)

counted_most : (b : Bool) (n : ℕ) → counted b n ≤ n + 1
counted_most o n = grind arith

pub are_patient : WatchesArePatient
are_patient timeout before w new p answer watched e =
    let h = has timeout before w watched in
    let said : advice (ticked w p) p ≡ answer = ap (λ q. q.0) e in
    let same = h.is in
    grind (arith, polls, and_parts, leb-true, counted_most, not-true, resets, ltb-true, fewer, h, said, same)
