-- The figures of the waiting commands fall at each step of a legal run.
use Rattle.mscp_controller.proofs.Basics.{◌≡◌, ℕ, ◌+◌, ◌-◌, ◌<◌, ◌≤◌, Bool, true, false, cond, not, List, [], ◌∷◌, ◌++◌, length, refl, ap, sym, ◌∙◌, subst, arith, filter, sum_by, nat_eq, Contains, Some, is_some, AllByRecursion, append_assoc, filter-append, All-from_recursion, All-contains, sum_by-append, sum_by-cons, lt-ltb, le-ltb, and_right, eqb-true, eqb-false, Settings, Trace, Moment, Service, service_in, name, weight, is_waiting, waiting, done, left, in_service, ends_in, service_name, charge, passed, figure, every_weaker, every_append, every_parts, filter_none, sum_on, is_waiting_before, waiting_waits, waiting_below, cut_of, earlier_is, later_is, kept_own}
use Rattle.mscp_controller.proofs.Promise.Figured.{Figured, record_of, charged, step_charge, served, record_left, Marks}

-- the blocks left of those in service
abbrev pub working : Trace → List ℕ → ℕ
working t xs = sum_by (left t) (filter (in_service t) xs)

-- a figure by the commands before it and behind it
abbrev pub figure_split : Settings → Trace → List ℕ → ℕ → List ℕ → ℕ
figure_split c t A x B = cond (in_service t x) (left t x)
    (sum_by (left t) A + working t B + (c.budget - passed t x) + left t x)

pub figure_at : (c : Settings) (t : Trace) (A : List ℕ) (x : ℕ) (B : List ℕ)
    → waiting t ≡ A ++ x ∷ B → figure c t x ≡ figure_split c t A x B
unfolding figure
figure_at c t A x B e =
    let w = (every_parts (λ z. is_waiting t z ≡ true) A
    (x ∷ B) (subst (λ l. AllByRecursion (λ z. is_waiting t z ≡ true) l) e (waiting_waits t))).1.0 in
    let F : List ℕ → List ℕ → ℕ =
    λ P Q. cond (in_service t x) (left t x) (sum_by (left t) P + working t Q + (c.budget - passed t x) + left t x) in
    search (arith, cut_of t A x B e, w, F, earlier_is, later_is)

pub working_append : (t : Trace) (A B : List ℕ) → working t (A ++ B) ≡ working t A + working t B
working_append t o w = grind (arith, filter-append, sum_by-append)

pub working_idle : (t : Trace) (A : List ℕ) → AllByRecursion (λ x. done t x ≡ 0) A → working t A ≡ 0
working_idle t A h = search (arith, filter_none, every_weaker, le-ltb)

module _ (c : Settings) (t : Trace) (A : List ℕ) (x : ℕ) (B : List ℕ) (e : waiting t ≡ A ++ x ∷ B) where
  -- of a command that is not in service
  pub figure_idle : done t x ≡ 0 → figure c t x ≡ sum_by (left t) A + working t B + (c.budget - passed t x) + left t x
  figure_idle d = search (arith, figure_at c t A x B e, le-ltb 0 (done t x) (omega arith))

  -- of one in service
  figure_working : 0 < done t x → figure c t x ≡ left t x
  figure_working d = search (arith, figure_at c t A x B e, lt-ltb 0 (done t x) d)

pub figure_gone : (c : Settings) (t : Trace) (x : ℕ) → is_waiting t x ≡ false → figure c t x ≡ 0
unfolding figure
figure_gone c t x e = search arith

-- a step of y, with what is known of those that wait
pub record Fit (c : Settings) (t : Trace) (m : Moment) (s : Service) (front : List ℕ) (y : ℕ) (back : List ℕ) :
    Type 0 where
  pub is : waiting t ≡ front ++ y ∷ back
  pub after : waiting (t ++ m ∷ []) ≡ front ++ (cond (is_some s.ended) [] (y ∷ []) ++ back)
  pub marks : Marks t (t ++ m ∷ []) s front y back
  pub serves : service_in m.1 ≡ Some s
  pub same : service_name s ≡ name t y
  pub started : s.started ≡ nat_eq (done t y) 0
  pub more : is_some s.ended ≡ false → 1 < left t y
  pub unfinished : done t y < weight t y
  pub idle_front : AllByRecursion (λ x. done t x ≡ 0) front
  pub idle_back : AllByRecursion (λ x. done t x ≡ 0) back
  pub affordable : s.started ≡ true → AllByRecursion (λ x. passed t x + charge t y ≤ c.budget) front

-- what the step leaves of y, in sums
own_left : (t t' : Trace) (s : Service) (y : ℕ) → record_of t' y ≡ served (record_of t y) → (is_some s.ended ≡ false
    → 1 < left t y) → done t y < weight t y → sum_by (left t') (cond (is_some s.ended) [] (y ∷ [])) + 1 ≤ left t y
own_left t t' s y e is u = search (arith, record_left)

pub every_split : (P : ℕ → Type 0) (xs : List ℕ) → ((A : List ℕ) (x : ℕ) (B : List ℕ) → xs ≡ A ++ x ∷ B → P x)
    → AllByRecursion P xs
every_split P [] f = tt
every_split P (x ∷ xs) f = (f [] x xs refl, every_split P xs (λ A y B e. f (x ∷ A) y B (ap (λ l. x ∷ l) e)))

-- what is in service before a step of y, behind a command in front of y
working_before : (c : Settings) (t : Trace) (m : Moment) (s : Service) (front : List ℕ) (y : ℕ) (back B : List ℕ)
    → Fit c t m s front y back
    → AllByRecursion (λ x. done t x ≡ 0) B → working t (B ++ y ∷ back) ≡ cond s.started 0 (left t y)
working_before c t m s front y back B f b =
    let both : (d : Bool) → d ≡ nat_eq (done t y) 0
    → working t (y ∷ []) ≡ cond d 0 (left t y) = search (arith, le-ltb, eqb-true, lt-ltb, eqb-false) in
    let one = both s.started f.started in
    let rest = working_append t B (y ∷ back) in
    omega (arith, one, rest, working_append t (y ∷ []) back, working_idle t B b, working_idle t back f.idle_back)

-- and after it
working_after : (t t' : Trace) (s : Service) (y : ℕ) (back B : List ℕ) → record_of t' y ≡ served (record_of t y)
    → AllByRecursion (λ x. done t' x ≡ 0) B → AllByRecursion (λ x. done t' x ≡ 0) back → working t'
    (B ++ (cond (is_some s.ended) [] (y ∷ []) ++ back)) ≡ sum_by (left t') (cond (is_some s.ended) [] (y ∷ []))
working_after t t' s y back o e b k = grind (arith, working_idle, working_append, lt-ltb)

pub idle_stays : (t t' : Trace) (n : ℕ) (xs : List ℕ) → AllByRecursion (λ x. record_of t' x ≡ charged n (record_of t x))
    xs → AllByRecursion (λ x. done t x ≡ 0) xs → AllByRecursion (λ x. done t' x ≡ 0) xs
idle_stays t t' n [] h k = tt
idle_stays t t' n (x ∷ xs) h k = (ap (λ (r : Figured). r.done) h.0 ∙ k.0, idle_stays t t' n xs h.1 k.1)

pub idle_same : (t t' : Trace) (xs : List ℕ) → AllByRecursion (λ x. record_of t' x ≡ record_of t x) xs
    → AllByRecursion (λ x. done t x ≡ 0) xs → AllByRecursion (λ x. done t' x ≡ 0) xs
idle_same t t' [] h k = tt
idle_same t t' (x ∷ xs) h k = (ap (λ (r : Figured). r.done) h.0 ∙ k.0, idle_same t t' xs h.1 k.1)

left_all : (t t' : Trace) (n : ℕ) (xs : List ℕ) → AllByRecursion (λ x. record_of t' x ≡ charged n (record_of t x)) xs
    → sum_by (left t') xs ≡ sum_by (left t) xs
left_all t t' n xs h = search (arith, sum_on, every_weaker, record_of, charged, record_left)

pub left_same : (t t' : Trace) (xs : List ℕ) → AllByRecursion (λ x. record_of t' x ≡ record_of t x) xs
    → sum_by (left t') xs ≡ sum_by (left t) xs
left_same t t' xs h = search (arith, sum_on, every_weaker, record_of, record_left)

-- the numbers before and after, for a command in front
front_pays : (b : Bool) (a l q o w Q p p' : ℕ) → p' ≡ p + cond b w 0 → (b ≡ true → p + w ≤ Q) → o + 1 ≤ q → q ≤ w
    → a + o + (Q - p') + l < a + cond b 0 q + (Q - p) + l
front_pays b a l q o w Q p p' h9 h10 h11 h12 = grind arith

module _ (c : Settings) (t : Trace) (m : Moment) (s : Service)
    (front : List ℕ) (y : ℕ) (back : List ℕ) (f : Fit c t m s front y back) (A : List ℕ) (x : ℕ) (B : List ℕ) where
  pub falls_front : front ≡ A ++ x ∷ B → figure c (t ++ m ∷ []) x < figure c t x
  falls_front q =
      let t' = t ++ m ∷ [] in
      let ch = f.marks in
      let own : List ℕ = cond (is_some s.ended) [] (y ∷ []) in
      let Same : ℕ → Type 0 = λ z. record_of t' z ≡ charged (step_charge t s y) (record_of t z) in
      let new = every_parts Same A (x ∷ B) (subst (λ l. AllByRecursion Same l) q ch.at_front) in
      let idle =
      every_parts (λ z. done t z ≡ 0) A (x ∷ B) (subst (λ l. AllByRecursion (λ z. done t z ≡ 0) l) q f.idle_front) in
      let e : waiting t ≡ A ++ x ∷ (B ++ y ∷ back) = grind (arith, append_assoc) in
      let e' : waiting t' ≡ A ++ x ∷ (B ++ (own ++ back)) = grind (arith, append_assoc, own) in
      let old = figure_idle c t A x (B ++ y ∷ back) e idle.1.0 in
      let now = figure_idle c t' A x (B ++ (own ++ back)) e' (ap (λ (r : Figured). r.done) new.1.0 ∙ idle.1.0) in
      let sA = left_all t t' (step_charge t s y) A new.0 in
      let lx : left t' x ≡ left t x = ap record_left new.1.0 in
      let w' = working_after t t' s y back B ch.at_own (idle_stays t t' (step_charge t s y) B new.1.1 idle.1.1)
      (idle_same t t' back ch.at_back f.idle_back) in
      let o = own_left t t' s y ch.at_own f.more f.unfinished in
      let affordable : s.started ≡ true
      → passed t x + charge t y ≤ c.budget = λ h. (every_parts (λ z. passed t z + charge t y ≤ c.budget) A
      (x ∷ B) (subst (λ l. AllByRecursion (λ z. passed t z + charge t y ≤ c.budget) l) q (f.affordable h))).1.0 in
      let pays = front_pays s.started (sum_by (left t) A) (left t x) (left t y) (sum_by (left t') own) (charge t y)
      c.budget (passed t x) (passed t' x) (ap (λ (r : Figured). r.passed) new.1.0) affordable o (omega arith) in
      omega (arith, old, now, sA, lx, working_before c t m s front y back B f idle.1.1, w', pays)

  pub falls_back : back ≡ A ++ x ∷ B → figure c (t ++ m ∷ []) x < figure c t x
  falls_back q =
      let t' = t ++ m ∷ [] in
      let ch = f.marks in
      let own : List ℕ = cond (is_some s.ended) [] (y ∷ []) in
      let Same : ℕ → Type 0 = λ z. record_of t' z ≡ record_of t z in
      let new = every_parts Same A (x ∷ B) (subst (λ l. AllByRecursion Same l) q ch.at_back) in
      let idle =
      every_parts (λ z. done t z ≡ 0) A (x ∷ B) (subst (λ l. AllByRecursion (λ z. done t z ≡ 0) l) q f.idle_back) in
      let e : waiting t ≡ (front ++ y ∷ A) ++ x ∷ B = grind (arith, append_assoc) in
      let e' : waiting t' ≡ (front ++ (own ++ A)) ++ x ∷ B =
      search (arith, append_assoc own A (x ∷ B), append_assoc front (own ++ A) (x ∷ B)) in
      let old = figure_idle c t (front ++ y ∷ A) x B e idle.1.0 in
      let now = figure_idle c t' (front ++ (own ++ A)) x B e' (ap (λ (r : Figured). r.done) new.1.0 ∙ idle.1.0) in
      let sF = left_all t t' (step_charge t s y) front ch.at_front in
      let sA = left_same t t' A new.0 in
      let s1 = sum_by-append (left t) front (y ∷ A) in
      let s2 = sum_by-cons (left t) y A in
      let s3 = sum_by-append (left t') front (own ++ A) in
      let s4 = sum_by-append (left t') own A in
      let lx : left t' x ≡ left t x = ap record_left new.1.0 in
      let px : c.budget - passed t' x ≡ c.budget - passed t x = ap (λ (r : Figured). c.budget - r.passed) new.1.0 in
      let w = working_idle t B idle.1.1 in
      let w' = working_idle t' B (idle_same t t' B new.1.1 idle.1.1) in
      omega (arith, old, now, sF, sA, s1, s2, s3, s4, lx, px, w, w', own_left t t' s y ch.at_own f.more f.unfinished)

-- the figure is at least what is left
pub figure_left : (c : Settings) (t : Trace) (A : List ℕ) (x : ℕ) (B : List ℕ) → waiting t ≡ A ++ x ∷ B
    → left t x ≤ figure c t x
figure_left c t A x B e = search (arith, figure_at c t A x B e)

module _ (c : Settings) (t : Trace) (m : Moment) (s : Service) (front : List ℕ) (y : ℕ) (back : List ℕ) where
  pub falls_own : Fit c t m s front y back → (b : Bool) → is_some s.ended ≡ b → figure c (t ++ m ∷ []) y < figure c t y
  falls_own f true is =
      let gone : is_waiting (t ++ m ∷ []) y ≡ false = is_waiting_before t m y ((every_parts (λ z. z < length t)
      front (y ∷ back) (subst (λ l. AllByRecursion (λ z. z < length t) l) f.is (waiting_below t))).1.0)
      ∙ and_right (is_waiting t y) (not (ends_in (name t y) m.1)) (kept_own t m s y f.serves f.same ∙ ap not is) in
      omega (arith, figure_gone c (t ++ m ∷ []) y gone, figure_left c t front y back f.is, f.unfinished)
  falls_own f false is = search (arith, figure_left c t front y back f.is, figure_working, record_left)

  -- At a step the figure of each command that waits falls.
  pub step_falls : Fit c t m s front y back → (x : ℕ) → Contains (waiting t) x → figure c (t ++ m ∷ []) x < figure c t x
  step_falls f x h =
      let P : ℕ → Type 0 = λ x. figure c (t ++ m ∷ []) x < figure c t x in
      All-contains P (waiting t) x (All-from_recursion P (waiting t) (subst (λ l. AllByRecursion P l)
      (sym f.is) (every_append P front (y ∷ back) (every_split P front (falls_front c t m s front y back f))
      (falls_own f (is_some s.ended) refl, every_split P back (falls_back c t m s front y back f))))) h
