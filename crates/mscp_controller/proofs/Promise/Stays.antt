-- The figures never rise at a moment that serves nobody.
use Rattle.mscp_controller.proofs.Basics.{◌≡◌, ℕ, ◌+◌, ◌-◌, ◌<◌, ◌≤◌, Bool, true, false, cond, not, ◌&&◌, List, [], ◌∷◌, ◌++◌, length, refl, ap, ◌∙◌, subst, arith, filter, sum_by, nat_lt, Contains, AllByRecursion, append_assoc, filter-append, All-from_recursion, All-contains, sum_by-cons, Settings, Trace, Moment, queues, name, is_waiting, waiting, done, left, in_service, ends_in, passed, figure, every_weaker, every_parts, every_kept, filter_on, is_waiting_before, waiting_more, waiting_waits, waiting_below}
use Rattle.mscp_controller.proofs.Promise.Figured.{Figured, record_of, record_left}
use Rattle.mscp_controller.proofs.Promise.Falls.{working, figure_at, figure_gone, every_split, working_append, working_idle, left_same}

-- a moment that leaves each record as it is
abbrev pub Leaves : Trace → Moment → Type 0
Leaves t m = AllByRecursion (λ x. record_of (t ++ m ∷ []) x ≡ record_of t x) (waiting t)

sum_kept : (f : ℕ → ℕ) (p : ℕ → Bool) (xs : List ℕ) → sum_by f (filter p xs) ≤ sum_by f xs
sum_kept f p [] = omega arith
sum_kept f p (x ∷ xs) = search (arith, sum_kept f p xs, sum_by-cons f x xs, sum_by-cons f x (filter p xs))

sum_kept_of : (f : ℕ → ℕ) (p q : ℕ → Bool) (xs : List ℕ) → sum_by f (filter p (filter q xs)) ≤ sum_by f (filter p xs)
sum_kept_of f p q [] = omega arith
sum_kept_of f p q (x ∷ xs) = grind (arith, sum_kept_of f p q xs, sum_by-cons)

working_same : (t t' : Trace) (xs : List ℕ) → AllByRecursion (λ x. record_of t' x ≡ record_of t x) xs
    → working t' xs ≡ working t xs
working_same t t' xs h = search (arith, filter_on, every_weaker, record_of, left_same, every_kept)

new_idle : (t : Trace) (m : Moment) → done (t ++ m ∷ []) (length t) ≡ 0 → (b : Bool)
    → working (t ++ m ∷ []) (cond b (length t ∷ []) []) ≡ 0
new_idle t m h2 b = grind (arith, working_idle)

module _ (c : Settings) (t : Trace) (m : Moment) (h : Leaves t m) (d : done (t ++ m ∷ []) (length t) ≡ 0) where
  -- the figure of a command that stays doesn't rise
  pub rises_not : (A : List ℕ) (x : ℕ) (B : List ℕ)
      → waiting t ≡ A ++ x ∷ B → (b : Bool) → not (ends_in (name t x) m.1) ≡ b → figure c (t ++ m ∷ []) x ≤ figure c t x
  rises_not A x B q false k =
      let gone : is_waiting (t ++ m ∷ []) x ≡ false = is_waiting_before t m x ((every_parts
      (λ z. z < length t) A (x ∷ B) (subst (λ l. AllByRecursion (λ z. z < length t) l) q (waiting_below t))).1.0)
      ∙ (ap (λ b. b && not (ends_in (name t x) m.1)) ((every_parts (λ z. is_waiting t z ≡ true) A
      (x ∷ B) (subst (λ l. AllByRecursion (λ z. is_waiting t z ≡ true) l) q (waiting_waits t))).1.0) ∙ k) in
      omega (arith, figure_gone c (t ++ m ∷ []) x gone)
  rises_not A x B q true k =
      let t' = t ++ m ∷ [] in
      let keep : ℕ → Bool = λ x. not (ends_in (name t x) m.1) in
      let new : List ℕ = cond (queues m.1) (length t ∷ []) [] in
      let same = every_parts (λ z. record_of t' z ≡ record_of t z) A (x ∷ B)
      (subst (λ l. AllByRecursion (λ z. record_of t' z ≡ record_of t z) l) q h) in
      let e' : waiting t' ≡ filter keep A ++ x ∷ (filter keep B ++ new) =
      grind (arith, waiting_more, filter-append, append_assoc, t, keep, new) in
      let S = sum_by (left t) A + working t B + (c.budget - passed t x) + left t x in
      let S' =
      sum_by (left t') (filter keep A) + working t' (filter keep B ++ new) + (c.budget - passed t' x) + left t' x in
      let lx : left t' x ≡ left t x = ap record_left same.1.0 in
      let px : c.budget - passed t' x ≡ c.budget - passed t x = ap (λ (r : Figured). c.budget - r.passed) same.1.0 in
      let a1 = left_same t t' (filter keep A) (every_kept (λ z. record_of t' z ≡ record_of t z) keep A same.0) in
      let a2 = sum_kept (left t) keep A in
      let b1 = working_append t' (filter keep B) new in
      let b2 = working_same t t' (filter keep B) (every_kept (λ z. record_of t' z ≡ record_of t z) keep B same.1.1) in
      let b3 = sum_kept_of (left t) (in_service t) keep B in
      let less : S' ≤ S = omega (arith, a1, a2, b1, b2, b3, new_idle t m d (queues m.1), lx, px) in
      let both : (b : Bool) → cond b (left t' x) S' ≤ cond b (left t x) S =
      λ b. elim b as (λ b. cond b (left t' x) S' ≤ cond b (left t x) S) [ true ↦ omega (arith, lx) | false ↦ less ] in
      let served : in_service t' x ≡ in_service t x = ap (λ (r : Figured). nat_lt 0 r.done) same.1.0 in
      let now = figure_at c t' (filter keep A) x (filter keep B ++ new) e' ∙ ap (λ b. cond b (left t' x) S') served in
      let old = figure_at c t A x B q in
      search arith

  -- At a moment that serves nobody no figure rises.
  pub never_rises : (x : ℕ) → Contains (waiting t) x → figure c (t ++ m ∷ []) x ≤ figure c t x
  never_rises x k =
      let P : ℕ → Type 0 = λ x. figure c (t ++ m ∷ []) x ≤ figure c t x in
      All-contains P (waiting t) x (All-from_recursion P
      (waiting t) (every_split P (waiting t) (λ A x B q. rises_not A x B q (not (ends_in (name t x) m.1)) refl))) k
