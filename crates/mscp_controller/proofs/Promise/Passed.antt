-- What a moment changes of how often each command was passed.
use Rattle.mscp_controller.proofs.Common.{◌≡◌, ◌≢◌, ℕ, ◌+◌, ◌<◌, ◌≤◌, Bool, true, false, cond, ◌&&◌, List, [], ◌∷◌, ◌++◌, ap, sym, ◌∙◌, subst, arith, nat_lt, filter, sum_by, Some, AllByRecursion, sum_by-cons, lt-ltb, le-ltb, and_left, and_right, Block, Settings, Trace, Moment, Service, service_in, name, waiting, later, starts_in, service_name, charge, is_unstarted, passed_at, passed, Name, is_differ, is_same, every_weaker, every_append, every_from, filter_filter, filter_none, filter_one}
use Rattle.mscp_controller.proofs.Promise.Grows.{passed_more}
use Rattle.mscp_controller.proofs.Promise.Served.{Step}

-- the commands behind x that start
abbrev pub starters : Trace → Moment → ℕ → List ℕ
starters t m x = filter (λ z. starts_in (name t z) m.1) (later t x)

abbrev pub starts_behind : Trace → Moment → ℕ → ℕ → Bool
starts_behind t m x z = nat_lt x z && starts_in (name t z) m.1

starters_at : (t : Trace) (m : Moment) (x : ℕ) → starters t m x ≡ filter (starts_behind t m x) (waiting t)
starters_at t m x = filter_filter (λ z. starts_in (name t z) m.1) (λ z. nat_lt x z) (waiting t)

passed_by_starters : (t : Trace) (m : Moment) (x : ℕ) (ys : List ℕ) → starters t m x ≡ ys
    → passed (t ++ m ∷ []) x ≡ passed t x + cond (is_unstarted t x) (sum_by (charge t) ys) 0
unfolding passed_at
passed_by_starters t m x ys e = search (arith, passed_more t m x)

unpassed : (t : Trace) (m : Moment) (x : ℕ) → starters t m x ≡ [] → passed (t ++ m ∷ []) x ≡ passed t x
unpassed t m x e = search (arith, passed_by_starters t m x [] e)

module _ (t : Trace) (m : Moment) where
  -- Where nobody starts, nobody is passed.
  pub none_starts : (x : ℕ) → ((r : Name) → starts_in r m.1 ≡ false) → passed (t ++ m ∷ []) x ≡ passed t x
  none_starts x f = search (arith, unpassed, filter_none, every_from)

  starts_own : (s : Service) (y : ℕ)
      → service_in m.1 ≡ Some s → service_name s ≡ name t y → s.started ≡ true → starts_in (name t y) m.1 ≡ true
  starts_own s y e r h = search (arith, is_same (service_name s) (name t y) r)

  behind_other : (s : Service) (x y : ℕ) → service_in m.1 ≡ Some s → service_name s ≡ name t y → (xs : List ℕ)
      → AllByRecursion (λ z. name t z ≢ name t y) xs → AllByRecursion (λ z. starts_behind t m x z ≡ false) xs
  behind_other s x y e r xs h = search (arith, every_weaker, and_right, is_differ)

module _ (c : Settings) (t : Trace) (m : Moment) (s : Service) (k : Block) (y : ℕ) (front back : List ℕ) where
  -- A command that isn't earlier than y isn't passed by a step of y.
  pub passed_behind : Step c t m s k y front back → (x : ℕ) → y ≤ x → passed (t ++ m ∷ []) x ≡ passed t x
  passed_behind st x h =
      let a = st.serves.among in
      let P : ℕ → Type 0 = λ z. starts_behind t m x z ≡ false in
      let all : AllByRecursion P (front ++ y ∷ back) =
      every_append P front (y ∷ back) (behind_other t m s x y st.serves.is st.serves.same front a.before) (
        and_left (nat_lt x y) (starts_in (name t y) m.1) (le-ltb x y h),
        behind_other t m s x y st.serves.is st.serves.same back a.behind,
      ) in
      unpassed t m
      x (starters_at t m x ∙ filter_none (starts_behind t m x) (waiting t) (subst (AllByRecursion P) (sym a.at.is) all))

  -- An earlier one that was never served is passed by a start of y, at its charge.
  pub passed_front : Step c t m s k y front back
      → s.started ≡ true → (x : ℕ) → x < y → is_unstarted t x ≡ true → passed (t ++ m ∷ []) x ≡ passed t x + charge t y
  passed_front st e x h u =
      let a = st.serves.among in
      let own : starts_behind t m x y ≡ true = grind (arith, lt-ltb, starts_own) in
      let one : starters t m x ≡ y ∷ [] = starters_at t m x ∙ (ap (filter (starts_behind t m x)) a.at.is ∙ filter_one
      (starts_behind t m x) front y back (behind_other t m s x y st.serves.is st.serves.same front a.before)
      own (behind_other t m s x y st.serves.is st.serves.same back a.behind)) in
      search (arith, passed_by_starters t m x (y ∷ []) one, sum_by-cons (charge t) y [])
