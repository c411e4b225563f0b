-- Whether one of a list that passes a test has another in front of it that keeps it back.
use Rattle.mscp_logged.proofs.Common.{AllByRecursion, Bool, First, List, Sent, [], and_false, ap, cond, false, false≢true, filter, has_number, keeps_back, list_any, or_parts, refl, sent_by, some_none, sym, true, ℕ, ◌&&◌, ◌++◌, ◌||◌, ◌∙◌, ◌∷◌, ◌≡◌}
use Rattle.mscp_logged.proofs.Lined.{AreLined}
use Rattle.mscp_logged.proofs.Wired.{named, stem}

abbrev pub passes : {X : Type 0} → (X → Bool) → (X → X → Bool) → List X → Bool
passes f k [] = false
passes f k (x ∷ xs) = cond (f x) false (list_any (λ y. f y && k y x) xs) || passes f k xs

-- ---- tests

pub both_none : (a b : Bool) → a ≡ false → b ≡ false → (a || b) ≡ false
both_none a b p q = ap (λ x. x || b) p ∙ q

module _ {X : Type 0} where
  pub any_beside : (g : X → Bool) (xs : List X) (m : X) → g m ≡ false → list_any g (xs ++ m ∷ []) ≡ list_any g xs
  any_beside g [] m e = ap (λ b. b || false) e
  any_beside g (x ∷ xs) m e = ap (λ b. g x || b) (any_beside g xs m e)

  pub any_fewer : (f g : X → Bool) (xs : List X) → list_any f xs ≡ false → list_any f (filter g xs) ≡ false
  any_fewer f g [] e = e
  any_fewer f g (x ∷ xs) e = by (g x) (or_parts (f x) (list_any f xs) e) (any_fewer f g xs)
    where
      by : (b : Bool) → (f x ≡ false) × (list_any f xs ≡ false)
          → (list_any f xs ≡ false → list_any f (filter g xs) ≡ false)
          → list_any f (cond b (x ∷ filter g xs) (filter g xs)) ≡ false
      by true p rest = both_none (f x) (list_any f (filter g xs)) p.0 (rest p.1)
      by false p rest = rest p.1

  pub any_of_fewer : (f g : X → Bool) (xs : List X) → list_any f (filter g xs) ≡ true → list_any f xs ≡ true
  any_of_fewer f g xs e = by (list_any f xs) refl
    where
      by : (b : Bool) → list_any f xs ≡ b → list_any f xs ≡ true
      by true h = h
      by false h = absurd (false≢true (sym (any_fewer f g xs h) ∙ e))

  none_at : (g : X → Bool) (front : List X) (y : X) (back : List X) → list_any g (front ++ y ∷ back) ≡ false
      → g y ≡ false
  none_at g [] y back e = (or_parts (g y) (list_any g back) e).0
  none_at g (x ∷ front) y back e =
      none_at g front y back (or_parts (g x) (list_any g (front ++ y ∷ back)) e).1

  pub none_any : (f : X → Bool) (xs : List X) → filter f xs ≡ [] → list_any f xs ≡ false
  none_any f [] none = refl
  none_any f (x ∷ xs) none = by (f x) none (none_any f xs)
    where
      by : (b : Bool) → cond b (x ∷ filter f xs) (filter f xs) ≡ []
          → (filter f xs ≡ [] → list_any f xs ≡ false) → (b || list_any f xs) ≡ false
      by true h rest = absurd (some_none x (filter f xs) h)
      by false h rest = rest h

  -- where none passes one test, none passes both
  any_none_of : (f q : X → Bool) (xs : List X) → filter f xs ≡ [] → list_any (λ y. f y && q y) xs ≡ false
  any_none_of f q [] none = refl
  any_none_of f q (x ∷ xs) none = by (f x) none (any_none_of f q xs)
    where
      by : (b : Bool) → cond b (x ∷ filter f xs) (filter f xs) ≡ []
          → (filter f xs ≡ [] → list_any (λ y. f y && q y) xs ≡ false)
          → ((b && q x) || list_any (λ y. f y && q y) xs) ≡ false
      by true h rest = absurd (some_none x (filter f xs) h)
      by false h rest = rest h

  -- one that passes is as all are
  pub any_all : (P : X → Type 0) (f : X → Bool) (xs : List X) → list_any f xs ≡ true → AllByRecursion P xs
      → (x : X) × P x × (f x ≡ true)
  any_all P f [] e all = absurd (false≢true e)
  any_all P f (x ∷ xs) e all = by (f x) refl e (λ h. any_all P f xs h all.1)
    where
      by : (b : Bool) → f x ≡ b → (b || list_any f xs) ≡ true
          → (list_any f xs ≡ true → (x : X) × P x × (f x ≡ true)) → (x : X) × P x × (f x ≡ true)
      by true is h rest = (x, all.0, is)
      by false is h rest = rest h

  pub all_fewer : (P : X → Type 0) (g : X → Bool) (xs : List X) → AllByRecursion P xs → AllByRecursion P (filter g xs)
  all_fewer P g [] all = tt
  all_fewer P g (x ∷ xs) all = by (g x) (all_fewer P g xs all.1)
    where
      by : (b : Bool) → AllByRecursion P (filter g xs) → AllByRecursion P (cond b (x ∷ filter g xs) (filter g xs))
      by true rest = (all.0, rest)
      by false rest = rest

-- ---- whether one passes

module _ {X : Type 0} (f : X → Bool) (k : X → X → Bool) where
  -- another one comes
  pub passes_beside : (xs : List X) (m : X) → f m ≡ false → passes f k (xs ++ m ∷ []) ≡ passes f k xs
  passes_beside [] m e = ap (λ b. cond b false false || false) e
  passes_beside (x ∷ xs) m e =
      ap (λ b. cond (f x) false b || passes f k (xs ++ m ∷ [])) (any_beside (λ y. f y && k y x) xs m
      (ap (λ b. b && k m x) e))
      ∙ ap (λ b. cond (f x) false (list_any (λ y. f y && k y x) xs) || b) (passes_beside xs m e)

  -- some are left out
  pub passes_fewer : (g : X → Bool) (xs : List X) → passes f k xs ≡ false → passes f k (filter g xs) ≡ false
  passes_fewer g [] e = e
  passes_fewer g (x ∷ xs) e = by (g x)
      (or_parts (cond (f x) false (list_any (λ y. f y && k y x) xs)) (passes f k xs) e) (passes_fewer g xs)
    where
      inner : (a : Bool) → cond a false (list_any (λ y. f y && k y x) xs) ≡ false
          → cond a false (list_any (λ y. f y && k y x) (filter g xs)) ≡ false
      inner true q = refl
      inner false q = any_fewer (λ y. f y && k y x) g xs q

      by : (b : Bool) → (cond (f x) false (list_any (λ y. f y && k y x) xs) ≡ false) × (passes f k xs ≡ false)
          → (passes f k xs ≡ false → passes f k (filter g xs) ≡ false)
          → passes f k (cond b (x ∷ filter g xs) (filter g xs)) ≡ false
      by true p rest = both_none (cond (f x) false (list_any (λ y. f y && k y x) (filter g xs)))
          (passes f k (filter g xs)) (inner (f x) p.0) (rest p.1)
      by false p rest = rest p.1

  -- of those in front of the first that passes the test none keeps it back
  pub passes_found : (front : List X) (y : X) (back : List X) → AllByRecursion (λ x. f x ≡ false) front → f y ≡ true
      → passes f k (front ++ y ∷ back) ≡ false → list_any (k y) front ≡ false
  passes_found [] y back before is e = refl
  passes_found (x ∷ front) y back before is e =
      let p = or_parts (cond (f x) false (list_any (λ z. f z && k z x) (front ++ y ∷ back)))
      (passes f k (front ++ y ∷ back)) e in
      both_none (k y x) (list_any (k y) front)
      (sym (ap (λ b. b && k y x) is) ∙ none_at (λ z. f z && k z x) front y back
      (sym (ap (λ b. cond b false (list_any (λ z. f z && k z x) (front ++ y ∷ back))) before.0) ∙ p.0))
      (passes_found front y back before.1 is p.1)

  -- the last one is the only one that passes the test
  pub passes_new : (xs : List X) (m : X) → filter f xs ≡ [] → AllByRecursion (λ u. k m u ≡ false) xs
      → passes f k (xs ++ m ∷ []) ≡ false
  passes_new [] m none all = by (f m)
    where
      by : (b : Bool) → (cond b false false || false) ≡ false
      by true = refl
      by false = refl
  passes_new (x ∷ xs) m none all = by (f x) none (λ h. passes_new xs m h all.1)
    where
      by : (b : Bool) → cond b (x ∷ filter f xs) (filter f xs) ≡ []
          → (filter f xs ≡ [] → passes f k (xs ++ m ∷ []) ≡ false)
          → (cond b false (list_any (λ y. f y && k y x) (xs ++ m ∷ [])) || passes f k (xs ++ m ∷ [])) ≡ false
      by true h rest = absurd (some_none x (filter f xs) h)
      by false h rest = both_none (list_any (λ y. f y && k y x) (xs ++ m ∷ [])) (passes f k (xs ++ m ∷ []))
          (any_beside (λ y. f y && k y x) xs m (and_false (f m) (k m x) all.0)
          ∙ any_none_of f (λ y. k y x) xs h) (rest h)

  -- none keeps back those that pass the test
  abbrev pub Unplaced : X → Type 0
  Unplaced y = f y ≡ true → (u : X) → k y u ≡ false

  unplaced_any : (x : X) (xs : List X) → AllByRecursion Unplaced xs → list_any (λ y. f y && k y x) xs ≡ false
  unplaced_any x [] all = refl
  unplaced_any x (y ∷ ys) all =
      both_none (f y && k y x) (list_any (λ y. f y && k y x) ys) (by (f y) refl) (unplaced_any x ys all.1)
    where
      by : (b : Bool) → f y ≡ b → (b && k y x) ≡ false
      by true is = all.0 is x
      by false is = refl

  pub passes_unplaced : (xs : List X) → AllByRecursion Unplaced xs → passes f k xs ≡ false
  passes_unplaced [] all = refl
  passes_unplaced (x ∷ xs) all = both_none (cond (f x) false (list_any (λ y. f y && k y x) xs)) (passes f k xs)
      (by (f x)) (passes_unplaced xs all.1)
    where
      by : (b : Bool) → cond b false (list_any (λ y. f y && k y x) xs) ≡ false
      by true = refl
      by false = unplaced_any x xs all.1

  pub unplaced_new : (xs : List X) (m : X) → filter f xs ≡ [] → ((u : X) → k m u ≡ false)
      → AllByRecursion Unplaced (xs ++ m ∷ [])
  unplaced_new [] m none all = ((λ is. all), tt)
  unplaced_new (x ∷ xs) m none all = by (f x) refl none (λ h. unplaced_new xs m h all)
    where
      by : (b : Bool) → f x ≡ b → cond b (x ∷ filter f xs) (filter f xs) ≡ []
          → (filter f xs ≡ [] → AllByRecursion Unplaced (xs ++ m ∷ []))
          → AllByRecursion Unplaced (x ∷ (xs ++ m ∷ []))
      by true is h rest = absurd (some_none x (filter f xs) h)
      by false is h rest = ((λ pass. absurd (false≢true (sym is ∙ pass))), rest h)

-- ---- messages

-- the earlier message keeps the later one back
abbrev pub keeps : List ℕ → List ℕ → Bool
keeps t u = keeps_back (sent_by First t) (sent_by First u)

-- the command of this number passes an earlier message
abbrev pub overtakes : ℕ → List (List ℕ) → Bool
overtakes n aw = passes (has_number n) keeps aw

lined_kept : (n : ℕ) (x : Sent) (t : List ℕ) → stem x ≡ sent_by First t → (xs : List Sent) (ts : List (List ℕ))
    → AreLined xs ts
    → list_any (λ y. named n y && keeps_back y x) xs ≡ list_any (λ s. has_number n s && keeps s t) ts
lined_kept n x t is [] [] all = refl
lined_kept n x t is [] (s ∷ ss) all = absurd all
lined_kept n x t is (y ∷ ys) [] all = absurd all
lined_kept n x t is (y ∷ ys) (s ∷ ss) all =
    ap (λ b. b || list_any (λ y. named n y && keeps_back y x) ys)
    (ap (λ z. named n z && keeps_back z x) all.0
    ∙ ap (λ z. named n (sent_by First s) && keeps_back (sent_by First s) z) is)
    ∙ ap (λ b. (has_number n s && keeps s t) || b) (lined_kept n x t is ys ss all.1)

-- of commands in the order of these messages
pub lined_passes : (n : ℕ) (xs : List Sent) (ts : List (List ℕ)) → AreLined xs ts
    → passes (named n) keeps_back xs ≡ overtakes n ts
lined_passes n [] [] all = refl
lined_passes n [] (t ∷ ts) all = absurd all
lined_passes n (x ∷ xs) [] all = absurd all
lined_passes n (x ∷ xs) (t ∷ ts) all =
    ap (λ b. cond b false (list_any (λ y. named n y && keeps_back y x) xs) || passes (named n) keeps_back xs)
    (ap (named n) all.0)
    ∙ ap (λ b. cond (has_number n t) false b || passes (named n) keeps_back xs) (lined_kept n x t all.0 xs ts all.1)
    ∙ ap (λ b. cond (has_number n t) false (list_any (λ s. has_number n s && keeps s t) ts) || b)
    (lined_passes n xs ts all.1)
