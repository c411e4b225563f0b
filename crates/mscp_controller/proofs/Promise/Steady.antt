-- What is true after every part of a legal run, from the definitions alone.
use Rattle.mscp_controller.proofs.Common.{◌≡◌, ◌⊎◌, inl, inr, ⊎_elim, ℕ, ◌<◌, Bool, true, false, cond, not, ◌||◌, List, [], ◌∷◌, ◌++◌, length, refl, ap, subst, arith, append-nil, filter, Option, Some, None, is_some, AllByRecursion, ltb-true, or_cases, true≢false, false≢true, Command, some_steps, Block, Settings, order_weight, Trace, Moment, Service, service_in, name, order, weight, waiting, done, left, in_service, ends_in, is_startable, IsRight, end_of, Pairs, every_weaker, every_kept, every_append, every_parts, every_both, pairs_filter, pairs_append, pairs_middle}
use Rattle.mscp_controller.proofs.Promise.Grows.{command_before, done_before, done_last, waiting_more}
use Rattle.mscp_controller.proofs.Promise.Waits.{waiting_below}
use Rattle.mscp_controller.proofs.Promise.Apart.{Apart, apart_more}
use Rattle.mscp_controller.proofs.Promise.Served.{Step, step_right, below_parts}
use Rattle.mscp_controller.proofs.Promise.Starts.{startable_parts}

abbrev pub Unfinished : Trace → List ℕ → Type 0
Unfinished t xs = AllByRecursion (λ x. done t x < weight t x) xs

-- of two that wait one was never served
abbrev pub Single : Trace → List ℕ → Type 0
Single t xs = Pairs (λ x z. (done t x ≡ 0) ⊎ (done t z ≡ 0)) xs

pub record Steady (c : Settings) (t : Trace) : Type 0 where
  pub apart : Apart t (waiting t)
  pub unfinished : Unfinished t (waiting t)
  pub single : Single t (waiting t)

-- ---- from one run to the next
pub weight_before : (t : Trace) (m : Moment) (x : ℕ) → x < length t → weight (t ++ m ∷ []) x ≡ weight t x
weight_before t m x h = ap (λ (k : Command). order_weight k.order) (command_before t m x h)

unfinished_same : (t : Trace) (m : Moment) (xs : List ℕ) → AllByRecursion (λ x. x < length t) xs
    → AllByRecursion (λ x. done (t ++ m ∷ []) x ≡ done t x) xs → Unfinished t xs → Unfinished (t ++ m ∷ []) xs
unfinished_same t m [] l d u = tt
unfinished_same t m (x ∷ xs) l d u = search (arith, weight_before t m x l.0, unfinished_same t m xs l.1 d.1 u.1)

single_from : (t t' : Trace) (x : ℕ) (xs : List ℕ) → done t' x ≡ done t x
    → AllByRecursion (λ z. done t' z ≡ done t z) xs → AllByRecursion (λ z. (done t x ≡ 0) ⊎ (done t z ≡ 0)) xs
    → AllByRecursion (λ z. (done t' x ≡ 0) ⊎ (done t' z ≡ 0)) xs
single_from t t' x [] e h s = tt
single_from t t' x (z ∷ zs) e h s = search (arith, single_from t t' x zs e h.1 s.1, ⊎_elim)

single_same : (t t' : Trace) (xs : List ℕ) → AllByRecursion (λ x. done t' x ≡ done t x) xs → Single t xs → Single t' xs
single_same t t' [] h s = tt
single_same t t' (x ∷ xs) h s = (single_from t t' x xs h.0 h.1 s.0, single_same t t' xs h.1 s.1)

module _ (t : Trace) where
  idle_before : (x : ℕ) → done t x ≡ 0 → (xs : List ℕ) → AllByRecursion (λ z. (done t x ≡ 0) ⊎ (done t z ≡ 0)) xs
  idle_before x e [] = tt
  idle_before x e (z ∷ zs) = (inl e, idle_before x e zs)

  single_of : (xs ys : List ℕ) → AllByRecursion (λ x. done t x ≡ 0) xs → Single t ys → Single t (xs ++ ys)
  single_of [] ys h s = s
  single_of (x ∷ xs) ys h s = (idle_before x h.0 (xs ++ ys), single_of xs ys h.1 s)

  single_idle : (xs : List ℕ) → AllByRecursion (λ x. done t x ≡ 0) xs → Single t xs
  single_idle [] h = tt
  single_idle (x ∷ xs) h = (idle_before x h.0 xs, single_idle xs h.1)

  single_own : (y : ℕ) (back : List ℕ)
      → AllByRecursion (λ x. done t x ≡ 0) back → (b : Bool) → Single t (cond b [] (y ∷ []) ++ back)
  single_own y back h3 b = grind (arith, single_idle, every_weaker)

  idle_same : (t' : Trace) (xs : List ℕ) → AllByRecursion (λ x. done t' x ≡ done t x) xs
      → AllByRecursion (λ x. done t x ≡ 0) xs → AllByRecursion (λ x. done t' x ≡ 0) xs
  idle_same t' xs d h = search (arith, every_weaker, every_both)

  -- ---- a moment that serves nobody
  pub done_kept : (m : Moment) (x : ℕ) → service_in m.1 ≡ None → x < length t → done (t ++ m ∷ []) x ≡ done t x
  done_kept m x e l = search (arith, done_before t m x l)

quiet : (c : Settings) (t : Trace) (m : Moment)
    → IsRight c t m.0 m.1 → Steady c t → service_in m.1 ≡ None → Steady c (t ++ m ∷ [])
quiet c t m r s e =
    let t' = t ++ m ∷ [] in
    let keep : ℕ → Bool = λ x. not (ends_in (name t x) m.1) in
    let kept = filter keep (waiting t) in
    let below = every_kept (λ x. x < length t) keep (waiting t) (waiting_below t) in
    let same = every_weaker (λ x. x < length t) (λ x. done t' x ≡ done t x) (λ x l. done_kept t m x e l) kept below in
    let unfinished =
    unfinished_same t m kept below same (every_kept (λ x. done t x < weight t x) keep (waiting t) s.unfinished) in
    let single =
    single_same t t' kept same (pairs_filter (λ x z. (done t x ≡ 0) ⊎ (done t z ≡ 0)) keep (waiting t) s.single) in
    let new : Unfinished t' (length t ∷ []) = (omega (arith, done_last t m, some_steps (order t' (length t))), tt) in
    let news : AllByRecursion (λ x. (done t' x ≡ 0) ⊎ (done t' (length t) ≡ 0)) kept = every_weaker (λ x. x < length t)
    (λ x. (done t' x ≡ 0) ⊎ (done t' (length t) ≡ 0)) (λ x l. inr (done_last t m)) kept below in
    search (arith, apart_more c t m r s.apart, waiting_more t m, append-nil kept, every_append, pairs_append)

-- ---- a step
idle_where : (t : Trace) (y : ℕ) (xs : List ℕ) → 0 < done t y → AllByRecursion (λ x. (done t x ≡ 0) ⊎ (done t y ≡ 0)) xs
    → AllByRecursion (λ x. done t x ≡ 0) xs
idle_where t y xs h s = search (arith, every_weaker, ⊎_elim)

-- where y is served, no other is in service
pub idle_others : (c : Settings) (t : Trace) (y : ℕ) (front back : List ℕ) → waiting t ≡ front ++ y ∷ back
    → Single t (waiting t) → (in_service t y || is_startable c t y) ≡ true
    → AllByRecursion (λ x. done t x ≡ 0) front × AllByRecursion (λ x. done t x ≡ 0) back
idle_others c t y front back w s h =
    let pairs = pairs_middle (λ x z. (done t x ≡ 0) ⊎ (done t z ≡ 0)) front y back (subst (Single t) w s) in
    ⊎_elim
    (λ e. let d = ltb-true 0 (done t y) e in (
      idle_where t y front d pairs.0,
      idle_where t y back d
          (every_weaker (λ x. (done t y ≡ 0) ⊎ (done t x ≡ 0)) (λ x. (done t x ≡ 0) ⊎ (done t y ≡ 0))
          (λ x p. ⊎_elim (λ k. inr k) (λ k. inl k) p) back pairs.1),
    ))
    (λ e. let all = every_parts (λ x. done t x ≡ 0) front (y ∷ back)
    (subst (AllByRecursion (λ x. done t x ≡ 0)) w (startable_parts c t y e).idle) in (all.0, all.1.1))
    (or_cases (in_service t y) (is_startable c t y) h)

-- a command that a step doesn't end has more than one step left
pub more_left : (c : Settings) (t : Trace) (k : Block) (y : ℕ) → is_some (end_of c t k y) ≡ false → 1 < left t y
more_left c t k y h = search (arith, ltb-true, true≢false, false≢true)

stepped : (c : Settings) (t : Trace) (m : Moment) (s : Service) (k : Block) (y : ℕ) (front back : List ℕ)
    → IsRight c t m.0 m.1 → Steady c t → Step c t m s k y front back → Steady c (t ++ m ∷ [])
stepped c t m s k y front back r h st =
    let t' = t ++ m ∷ [] in
    let w = st.serves.among.at.is in
    let ch = st.changes in
    let below = below_parts t y front back st.serves.among.at in
    let parts = every_parts (λ x. done t x < weight t x) front (y ∷ back) (subst (Unfinished t) w h.unfinished) in
    let idle = idle_others c t y front back w h.single st.served.next in
    let own : (b : Bool) → is_some s.ended ≡ b
    → Unfinished t' (cond b [] (y ∷ [])) = search (arith, weight_before t m y below.1.0, more_left) in
    grind (
      arith,
      apart_more,
      every_append,
      unfinished_same,
      single_of,
      idle_same,
      single_own,
      t,
      ch,
      below,
      parts,
      idle,
      own,
    )

-- Each right moment keeps it.
pub steady_more : (c : Settings) (t : Trace) (m : Moment) → IsRight c t m.0 m.1 → Steady c t → Steady c (t ++ m ∷ [])
steady_more c t m r h =
    let both : (o : Option Service) → service_in m.1 ≡ o → Steady c (t ++ m ∷ []) =
    λ o. elim o as (λ o. service_in m.1 ≡ o → Steady c (t ++ m ∷ [])) [
      | None ↦ λ e. quiet c t m r h e
      | Some s ↦ λ e. let z = step_right c t m s h.apart e r in stepped c t m s z.0 z.1 z.2 z.3 r h z.4
    ] in
    both (service_in m.1) refl
