-- The one command of a number that waits, by each step.
use Rattle.mscp_ported.proofs.Common.{All, All-head, All-tail, Block, Bool, Drive, End, List, None, Option, Record, Some, [], advanced, ap, arith, cond, drop, drop_more, end_given, false, false≢true, filter, filter-append, find, inl, inr, length, list_any, map, no_record, passed_by, record_at, refl, remains, step_charge, sym, take, take-append-drop, true, waiting_after, ℕ, ◌++◌, ◌+◌, ◌<◌, ◌∙◌, ◌∷◌, ◌≡◌, ◌⊎◌}
use Rattle.mscp_ported.proofs.Kept.{is_numbered}
use Rattle.mscp_port.proofs.Common.{none-some}

module _ {X : Type 0} where
  abbrev first_in : X → List X → X
  first_in d [] = d
  first_in d (x ∷ xs) = x

  abbrev others_in : List X → List X
  others_in [] = []
  others_in (x ∷ xs) = xs

  pub nothing_two : (xs ys : List X) → xs ++ ys ≡ [] → (xs ≡ []) × (ys ≡ [])
  nothing_two [] ys e = (refl, e)
  nothing_two (x ∷ xs) ys e = search (arith, e)

  split : (xs ys : List X) (r : X) → xs ++ ys ≡ r ∷ []
      → ((xs ≡ r ∷ []) × (ys ≡ [])) ⊎ ((xs ≡ []) × (ys ≡ r ∷ []))
  split [] ys r e = inr (refl, e)
  split (x ∷ xs) ys r e = grind (arith, nothing_two)

  -- the one that passes is this, or another
  pub this_one : (f : X → Bool) (xs ys : List X) (y r : X) → filter f (xs ++ y ∷ ys) ≡ r ∷ [] → f y ≡ true
      → (filter f xs ≡ []) × (y ≡ r) × (filter f ys ≡ [])
  this_one f xs ys y r e is = grind (arith, split, filter-append)

  pub other_one : (f : X → Bool) (xs ys : List X) (y r : X) → filter f (xs ++ y ∷ ys) ≡ r ∷ [] → f y ≡ false
      → ((filter f xs ≡ r ∷ []) × (filter f ys ≡ [])) ⊎ ((filter f xs ≡ []) × (filter f ys ≡ r ∷ []))
  other_one f xs ys y r e not_it = grind (arith, split, filter-append)

  -- it is found
  pub found_sole : (f : X → Bool) (xs : List X) (r : X) → filter f xs ≡ r ∷ [] → find f xs ≡ Some r
  found_sole f [] r e = search (arith, e)
  found_sole f (x ∷ xs) r e = grind (arith, found_sole f xs r)

  pub sole_passes : (f : X → Bool) (xs : List X) (r : X) → filter f xs ≡ r ∷ [] → f r ≡ true
  sole_passes f [] r e = search (arith, e)
  sole_passes f (x ∷ xs) r e = grind (arith, sole_passes f xs r)

  -- none passes
  pub none_passes : (f : X → Bool) (xs : List X) → list_any f xs ≡ false → filter f xs ≡ []
  none_passes f [] e = refl
  none_passes f (x ∷ xs) e = grind (arith, none_passes f xs, false≢true)

  -- one more that doesn't pass, or does
  pub sole_beside : (f : X → Bool) (xs : List X) (y r : X) → filter f xs ≡ r ∷ [] → f y ≡ false
      → filter f (xs ++ y ∷ []) ≡ r ∷ []
  sole_beside f xs y r e is = filter-append f xs (y ∷ []) ∙ ap (λ zs. zs ++ filter f (y ∷ [])) e
      ∙ ap (λ c. r ∷ cond c (y ∷ []) []) is

  pub sole_comes : (f : X → Bool) (xs : List X) (y : X) → filter f xs ≡ [] → f y ≡ true
      → filter f (xs ++ y ∷ []) ≡ y ∷ []
  sole_comes f xs y e is = filter-append f xs (y ∷ []) ∙ ap (λ zs. zs ++ filter f (y ∷ [])) e
      ∙ ap (λ c. cond c (y ∷ []) []) is

  -- what else is left out doesn't matter
  pub sole_left : (f g : X → Bool) (xs : List X) → ((x : X) → f x ≡ true → g x ≡ true)
      → filter f (filter g xs) ≡ filter f xs
  sole_left f g [] h = refl
  sole_left f g (x ∷ xs) h = grind (arith, sole_left f g xs h, h x, false≢true)

-- ---- a step

-- what is found is as all are, and passes
pub found_all : {A : Type 0} (P : A → Type 0) (f : A → Bool) (xs : List A) (x : A) → All P xs → find f xs ≡ Some x
    → P x × (f x ≡ true)
found_all P f [] x all e = absurd (none-some x e)
found_all P f (y ∷ ys) x all e = grind (arith, found_all P f ys x (All-tail P y ys all), All-head P y ys all)

-- there is one alone
pub one_of : (n : ℕ) (rs : List Record) (r s : Record) → filter (is_numbered n) rs ≡ r ∷ []
    → filter (is_numbered n) rs ≡ s ∷ [] → r ≡ s
one_of n rs r s e f = ap (first_in r) (sym e ∙ f)

-- but for how often it was passed it is the same
pub record Alike (r s : Record) : Type 0 where
  pub connection : s.connection ≡ r.connection
  pub command : s.command ≡ r.command
  pub weight : s.weight ≡ r.weight
  pub done : s.done ≡ r.done
  pub good : s.good ≡ r.good

pub itself : (r : Record) → Alike r r
itself r = record { connection = refl; command = refl; weight = refl; done = refl; good = refl }

passed_filter : (n t : ℕ) (rs : List Record)
    → filter (is_numbered n) (map (passed_by t) rs) ≡ map (passed_by t) (filter (is_numbered n) rs)
passed_filter n t [] = refl
passed_filter n t (r ∷ rs) = grind (arith, passed_filter n t rs)

module _ (n : ℕ) (k : Block) (d : Drive) (rs : List Record) (place : ℕ) (inside : place < length rs) (r : Record)
    (sole : filter (is_numbered n) rs ≡ r ∷ []) where
  parts : filter (is_numbered n) (take place rs ++ record_at rs place ∷ drop (place + 1) rs) ≡ r ∷ []
  parts = ap (filter (is_numbered n)) (ap (λ zs. take place rs ++ zs) (sym (drop_more rs place no_record inside))
      ∙ take-append-drop place rs) ∙ sole

  after : (o : Option End) → filter (is_numbered n)
      (map (passed_by (step_charge (record_at rs place))) (take place rs)
      ++ (remains (record_at rs place) o ++ drop (place + 1) rs))
      ≡ map (passed_by (step_charge (record_at rs place))) (filter (is_numbered n) (take place rs))
      ++ (filter (is_numbered n) (remains (record_at rs place) o) ++ filter (is_numbered n) (drop (place + 1) rs))
  after o = grind (arith, filter-append, is_numbered, passed_filter)

  -- another one was served
  pub served_other : is_numbered n (record_at rs place) ≡ false
      → (s : Record) × (filter (is_numbered n) (waiting_after k d rs place) ≡ s ∷ []) × Alike r s
  served_other not_it = by (end_given k d (record_at rs place)) (other_one (is_numbered n) (take place rs)
      (drop (place + 1) rs) (record_at rs place) r parts not_it)
    where
      left : (o : Option End) → filter (is_numbered n) (remains (record_at rs place) o) ≡ []
      left None = ap (λ c. cond c (advanced (record_at rs place) ∷ []) []) not_it
      left (Some e) = refl

      by : (o : Option End) → ((filter (is_numbered n) (take place rs) ≡ r ∷ [])
          × (filter (is_numbered n) (drop (place + 1) rs) ≡ []))
          ⊎ ((filter (is_numbered n) (take place rs) ≡ [])
          × (filter (is_numbered n) (drop (place + 1) rs) ≡ r ∷ []))
          → (s : Record) × (filter (is_numbered n)
          (map (passed_by (step_charge (record_at rs place))) (take place rs)
          ++ (remains (record_at rs place) o ++ drop (place + 1) rs)) ≡ s ∷ []) × Alike r s
      by o (inl h) = (
        passed_by (step_charge (record_at rs place)) r,
        after o ∙ ap (λ zs. map (passed_by (step_charge (record_at rs place))) zs
            ++ (filter (is_numbered n) (remains (record_at rs place) o)
            ++ filter (is_numbered n) (drop (place + 1) rs))) h.0
            ∙ ap (λ zs. passed_by (step_charge (record_at rs place)) r
            ∷ (zs ++ filter (is_numbered n) (drop (place + 1) rs))) (left o)
            ∙ ap (λ zs. passed_by (step_charge (record_at rs place)) r ∷ zs) h.1,
        record { connection = refl; command = refl; weight = refl; done = refl; good = refl },
      )
      by o (inr h) = (
        r,
        after o ∙ ap (λ zs. map (passed_by (step_charge (record_at rs place))) zs
            ++ (filter (is_numbered n) (remains (record_at rs place) o)
            ++ filter (is_numbered n) (drop (place + 1) rs))) h.0
            ∙ ap (λ zs. zs ++ filter (is_numbered n) (drop (place + 1) rs)) (left o) ∙ h.1,
        itself r,
      )

  -- it was served itself
  pub served_itself : is_numbered n (record_at rs place) ≡ true → record_at rs place ≡ r
  served_itself is = (this_one (is_numbered n) (take place rs) (drop (place + 1) rs) (record_at rs place) r parts is).1

  pub served_goes_on : is_numbered n (record_at rs place) ≡ true → end_given k d (record_at rs place) ≡ None
      → filter (is_numbered n) (waiting_after k d rs place) ≡ advanced (record_at rs place) ∷ []
  served_goes_on is none = grind (arith, is_numbered, after, this_one, parts)
