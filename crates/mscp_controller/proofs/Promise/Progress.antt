-- Each legal trace keeps its promise.
use Rattle.mscp_controller.proofs.Bridge.Basics.{◌≡◌, ◌≢◌, ℕ, suc, ◌+◌, ◌<◌, ◌≤◌, Bool, true, false, cond, List, [], ◌∷◌, ◌++◌, take, get_or, length, sym, ◌∙◌, subst, append-nil, arith, filter, Some, Contains, false≢true, AllByRecursion, range_with_len, All-contains, All-from_recursion, Settings, IsValid, bound, Trace, Moment, moment, positions, Service, service_in, WhenStarted, name, weight, is_waiting, waiting, done, left, steps_after, service_name, passed, is_free, figure, figure_of, answer, IsRight, IsLegal, IsFreeStart, LeavesOther, Promise, TellsFigure, every_weaker, every_append, every_both, shaped, ends_more, alone, figure_of_one, cut_of, waits_below, step_right, startable_of, startable_parts, Steady, Known, known, more_at}
use Rattle.mscp_controller.proofs.Promise.Alone.{oldest_starts, one_served}
use Rattle.mscp_controller.proofs.Promise.Falls.{figure_gone, figure_left, every_split}
use Rattle.mscp_controller.proofs.Promise.Falling.{falling}
use Rattle.mscp_controller.proofs.Promise.Others.{leaves_other}

-- what holds of each that waits, of one of them
one_of : (P : ℕ → Type 0) (xs : List ℕ) → AllByRecursion P xs → (x : ℕ) → Contains xs x → P x
one_of P xs h x k = All-contains P xs x (All-from_recursion P xs h) k

-- ---- fences
free_start : (c : Settings) (t : Trace) (m : Moment) (s : Service)
    → IsRight c t m.0 m.1 → Steady c t → service_in m.1 ≡ Some s → WhenStarted (IsFreeStart t) (Some s)
free_start c t m s r steady e started x w same =
    let z = step_right c t m s steady.apart e r in
    let y = z.1 in
    let free = (startable_parts c t y (startable_of c t z.0 s y z.4.served started)).free in
    let P : ℕ → Type 0 = λ x. name t x ≡ service_name s → is_free t x ≡ true in
    let other : (x : ℕ) → name t x ≢ name t y → P x = λ x n h. absurd (n (h ∙ z.4.serves.same)) in
    let each : AllByRecursion P (waiting t) = search (arith, every_append, every_weaker) in
    one_of P (waiting t) each x w same

free_starts : (c : Settings) (t : Trace) (m : Moment) → IsRight c t m.0 m.1 → Steady c t
    → WhenStarted (IsFreeStart t) (service_in m.1)
free_starts c t m r steady = search (arith, free_start)

-- ---- who waits
there : (y x : ℕ) (xs : List ℕ) → Contains xs x → Contains (y ∷ xs) x
there y x xs h = let l = h.1 in (suc h.0, omega arith, h.2)

kept_in : (p : ℕ → Bool) (xs : List ℕ) (x k : ℕ) → k < length xs → get_or xs k x ≡ x → p x ≡ true
    → Contains (filter p xs) x
kept_in p (y ∷ ys) x (suc k) l is e =
    let rest = kept_in p ys x k (omega arith) is e in
    elim (p y) as (λ b. Contains (cond b (y ∷ filter p ys) (filter p ys)) x)
    [ true ↦ there y x (filter p ys) rest | false ↦ rest ]
kept_in p o x k l is e = grind arith

in_range : (a n i : ℕ) → i < n → Contains (range_with_len a n) (a + i)
in_range a (suc n) (suc i) h =
    let e : a + 1 + i ≡ a + suc i = omega arith in
    subst (λ x. Contains (range_with_len a (suc n)) x) e
    (there a (a + 1 + i) (range_with_len (a + 1) n) (in_range (a + 1) n i (omega arith)))
in_range a n i h3 = grind arith

pub waits_in : (t : Trace) (x : ℕ) → is_waiting t x ≡ true → Contains (waiting t) x
unfolding waiting
waits_in t x e =
    let z : 0 + x ≡ x = omega arith in
    let h : Contains (positions t) x = search (arith, in_range 0 (length t) x (waits_below t x e), waits_below t x e) in
    kept_in (is_waiting t) (positions t) x h.0 h.1 h.2 e

-- ---- the size of figures
low : (c : Settings) (t : Trace) → Known c t → (x : ℕ) → Contains (waiting t) x → 1 ≤ figure c t x
low c t k x h =
    let P : ℕ → Type 0 = λ x. 1 ≤ figure c t x in
    one_of P (waiting t) (every_weaker (λ x. (done t x < weight t x) × (left t x ≤ figure c t x)) P
    (λ x e. omega (arith, e.0, e.1)) (waiting t) (every_both (λ x. done t x < weight t x) (λ x. left t x ≤ figure c t x)
    (waiting t) k.steady.unfinished (every_split (λ x. left t x ≤ figure c t x) (waiting t) (figure_left c t)))) x h

module _ (c : Settings) (t : Trace) where
  high : Known c t → (x : ℕ) → Contains (waiting t) x → figure c t x + steps_after t x ≤ bound c
  high k x h = one_of (λ x. figure c t x + steps_after t x ≤ bound c) (waiting t) k.within x h

  some_waits : (x : ℕ) → 1 ≤ figure c t x → Contains (waiting t) x
  some_waits x h = search (arith, waits_in, figure_gone)

  small : Known c t → (x : ℕ) → figure c t x ≤ bound c
  small k x = search (arith, high, waits_in, figure_gone)

  -- ---- polls
  figure_told : Steady c t → (x : ℕ) → Contains (waiting t) x → figure_of c t (name t x) ≡ figure c t x
  figure_told steady x w =
      let P : ℕ → Type 0 = λ x. figure_of c t (name t x) ≡ figure c t x in
      one_of P (waiting t) (every_split P
      (waiting t) (λ A y B e. figure_of_one c t y A B (alone t y A B steady.apart (cut_of t A y B e)))) x w

told : (c : Settings) (t : Trace) (m : Moment) → TellsFigure c t m (t ++ m ∷ [])
unfolding answer
told c t m via r a e = search (arith, ends_more c via t m, append-nil, false≢true)

-- ---- the promise
pub progress : (c : Settings) (t : Trace) → IsValid c → IsLegal c t → Promise c t
progress c t valid legal =
    let at : (i : ℕ) → i ≤ length t → Known c (take i t) = known c valid.some_blocks t legal in
    let before : (i : ℕ) → i < length t → Known c (take i t) = λ i h. at i (omega (arith, h)) in
    let fall = λ (i : ℕ) (h : i < length t). falling c (take i t) (moment t i) (legal i h) (before i h).steady in
    record {
      credits = λ i h. (at i h).room.room;
      other = λ i h. subst (LeavesOther c (take i t) (moment t i)) (sym (more_at t i h))
          (leaves_other c (take i t) (moment t i) (legal i h) (before i h).room);
      fences = λ i h. free_starts c (take i t) (moment t i) (legal i h) (before i h).steady;
      one_served = λ i h. one_served (take i t) (waiting (take i t)) (at i h).steady.single;
      oldest_starts = λ i h x. oldest_starts c (take i t) x;
      passed = λ i h x w. one_of (λ x. passed (take i t) x ≤ c.budget) (waiting (take i t)) (at i h).limited x w;
      falls = search (arith, fall, more_at);
      never_rises = search (arith, fall, more_at);
      within = λ i h x w. let l = low c (take i t) (at i h) x w in let k = high c (take i t) (at i h) x w in
          omega (arith, l, k);
      positive = λ i h x. ((λ w. low c (take i t) (at i h) x w), (λ l. some_waits c (take i t) x l));
      small = λ i h x. small c (take i t) (at i h) x;
      own = λ i h x w. figure_told c (take i t) (at i h).steady x w;
      polled = search (arith, more_at, told);
      shaped = λ via. shaped c via t legal;
    }
