-- Commands wait in the order of their messages.
use Rattle.mscp_logged.proofs.Common.{Bool, End, List, None, Option, Record, Some, [], advanced, ap, cond, eq-eqb, eqb-true, false, false≢true, filter, has_number, is_numbered, list_any, map, nat_eq, none_beside, none_stays, num, or_parts, passed_by, refl, remains, some_none, subst, sym, true, ℕ, ◌++◌, ◌∙◌, ◌∷◌, ◌≡◌}
use Rattle.mscp_logged.proofs.Passes.{any_beside, any_of_fewer}

-- behind a command of one number none of another waits
abbrev pub NoneBehind : ℕ → ℕ → List Record → Type 0
NoneBehind a b [] = Unit {0}
NoneBehind a b (r ∷ rs) = (is_numbered b r ≡ true → filter (is_numbered a) rs ≡ []) × NoneBehind a b rs

module _ (a b : ℕ) where
  behind_more : (rs : List Record) (r : Record) → is_numbered a r ≡ false → NoneBehind a b rs
      → NoneBehind a b (rs ++ r ∷ [])
  behind_more [] r e all = ((λ is. refl), tt)
  behind_more (x ∷ rs) r e all =
      ((λ is. none_beside (is_numbered a) rs r e ∙ all.0 is), behind_more rs r e all.1)

  behind_none : (rs : List Record) → filter (is_numbered b) rs ≡ [] → NoneBehind a b rs
  behind_none [] none = tt
  behind_none (x ∷ rs) none = by (is_numbered b x) refl none (behind_none rs)
    where
      by : (c : Bool) → is_numbered b x ≡ c → cond c (x ∷ filter (is_numbered b) rs) (filter (is_numbered b) rs) ≡ []
          → (filter (is_numbered b) rs ≡ [] → NoneBehind a b rs) → NoneBehind a b (x ∷ rs)
      by true is h rest = absurd (some_none x (filter (is_numbered b) rs) h)
      by false is h rest = ((λ t. absurd (false≢true (sym is ∙ t))), rest h)

  pub behind_left : (g : Record → Bool) (rs : List Record) → NoneBehind a b rs → NoneBehind a b (filter g rs)
  behind_left g [] all = tt
  behind_left g (x ∷ rs) all = by (g x) (behind_left g rs all.1)
    where
      by : (c : Bool) → NoneBehind a b (filter g rs) → NoneBehind a b (cond c (x ∷ filter g rs) (filter g rs))
      by true rest = ((λ is. none_stays (is_numbered a) g rs (all.0 is)), rest)
      by false rest = rest

  -- what stands in front of a command that is served, that command, and what stands behind it
  thinned_none : (t : ℕ) (xs : List Record) (r : Record) (ys : List Record) (o : Option End)
      → filter (is_numbered a) (xs ++ r ∷ ys) ≡ []
      → filter (is_numbered a) (map (passed_by t) xs ++ (remains r o ++ ys)) ≡ []
  thinned_none t [] r ys o e = by o (is_numbered a r) refl e
    where
      by : (o : Option End) (c : Bool) → is_numbered a r ≡ c
          → cond c (r ∷ filter (is_numbered a) ys) (filter (is_numbered a) ys) ≡ []
          → filter (is_numbered a) (remains r o ++ ys) ≡ []
      by o true is h = absurd (some_none r (filter (is_numbered a) ys) h)
      by None false is h =
          ap (λ c. cond c (advanced r ∷ filter (is_numbered a) ys) (filter (is_numbered a) ys)) is ∙ h
      by (Some end) false is h = h
  thinned_none t (x ∷ xs) r ys o e = by (is_numbered a x) e (thinned_none t xs r ys o)
    where
      by : (c : Bool) → cond c (x ∷ filter (is_numbered a) (xs ++ r ∷ ys)) (filter (is_numbered a) (xs ++ r ∷ ys)) ≡ []
          → (filter (is_numbered a) (xs ++ r ∷ ys) ≡ []
          → filter (is_numbered a) (map (passed_by t) xs ++ (remains r o ++ ys)) ≡ [])
          → cond c (passed_by t x ∷ filter (is_numbered a) (map (passed_by t) xs ++ (remains r o ++ ys)))
          (filter (is_numbered a) (map (passed_by t) xs ++ (remains r o ++ ys))) ≡ []
      by true h rest = absurd (some_none x (filter (is_numbered a) (xs ++ r ∷ ys)) h)
      by false h rest = rest h

  pub behind_served : (t : ℕ) (xs : List Record) (r : Record) (ys : List Record) (o : Option End)
      → NoneBehind a b (xs ++ r ∷ ys) → NoneBehind a b (map (passed_by t) xs ++ (remains r o ++ ys))
  behind_served t [] r ys None all = all
  behind_served t [] r ys (Some end) all = all.1
  behind_served t (x ∷ xs) r ys o all =
      ((λ is. thinned_none t xs r ys o (all.0 is)), behind_served t xs r ys o all.1)

  -- none of one number is behind, so one that waits is in front
  pub behind_is : (xs : List Record) (r : Record) (ys : List Record) → NoneBehind a b (xs ++ r ∷ ys)
      → is_numbered b r ≡ true → filter (is_numbered a) ys ≡ []
  behind_is [] r ys all is = all.0 is
  behind_is (x ∷ xs) r ys all is = behind_is xs r ys all.1 is

-- ---- all messages

abbrev pub InOrder : List (List ℕ) → List Record → Type 0
InOrder [] rs = Unit {0}
InOrder (u ∷ us) rs =
    ((b : ℕ) → list_any (has_number b) us ≡ true → NoneBehind (num u 0 4) b rs) × InOrder us rs

pub order_as : (rs rs' : List Record) → ((a b : ℕ) → NoneBehind a b rs → NoneBehind a b rs') → (us : List (List ℕ))
    → InOrder us rs → InOrder us rs'
order_as rs rs' f [] all = tt
order_as rs rs' f (u ∷ us) all = ((λ b any. f (num u 0 4) b (all.0 b any)), order_as rs rs' f us all.1)

-- some are left out
pub order_left : (rs : List Record) (g : List ℕ → Bool) (us : List (List ℕ)) → InOrder us rs
    → InOrder (filter g us) rs
order_left rs g [] all = tt
order_left rs g (u ∷ us) all = by (g u) (order_left rs g us all.1)
  where
    by : (c : Bool) → InOrder (filter g us) rs → InOrder (cond c (u ∷ filter g us) (filter g us)) rs
    by true rest = ((λ b any. all.0 b (any_of_fewer (has_number b) g us any)), rest)
    by false rest = rest

pub flipped : (n m : ℕ) → nat_eq n m ≡ false → nat_eq m n ≡ false
flipped n m e = by (nat_eq m n) refl
  where
    by : (c : Bool) → nat_eq m n ≡ c → c ≡ false
    by false h = refl
    by true h = absurd (false≢true (sym e ∙ eq-eqb n m (sym (eqb-true m n h))))

-- a message comes, and its command is queued
module _ (rs : List Record) (m : List ℕ) (r : Record) (none : filter (is_numbered (num m 0 4)) rs ≡ [])
    (others : (n : ℕ) → nat_eq (num m 0 4) n ≡ false → is_numbered n r ≡ false) where
  pub order_more : (us : List (List ℕ)) → list_any (has_number (num m 0 4)) us ≡ false → InOrder us rs
      → InOrder (us ++ m ∷ []) (rs ++ r ∷ [])
  order_more [] new all = ((λ b any. absurd (false≢true any)), tt)
  order_more (u ∷ us) new all =
      let p = or_parts (nat_eq (num u 0 4) (num m 0 4)) (list_any (has_number (num m 0 4)) us) new in (
        (λ b any. one (others (num u 0 4) (flipped (num u 0 4) (num m 0 4) p.0)) b (nat_eq (num m 0 4) b) refl any),
        order_more us p.1 all.1,
      )
    where
      one : is_numbered (num u 0 4) r ≡ false → (b : ℕ) (c : Bool) → nat_eq (num m 0 4) b ≡ c
          → list_any (has_number b) (us ++ m ∷ []) ≡ true → NoneBehind (num u 0 4) b (rs ++ r ∷ [])
      one apart b false is any = behind_more (num u 0 4) b rs r apart
          (all.0 b (sym (any_beside (has_number b) us m is) ∙ any))
      one apart b true is any = behind_more (num u 0 4) b rs r apart (behind_none (num u 0 4) b rs
          (subst (λ n. filter (is_numbered n) rs ≡ []) (eqb-true (num m 0 4) b is) none))
