-- What there is of each reference number: nothing; a message whose command waits; or one whose end waits.
use Rattle.mscp_ported.proofs.Common.{Bool, End, EndBody, List, None, Order, Record, [], ap, append-nil, arith, bytes_in, cond, eq-eqb, eqb-true, false, false≢true, filter, filter-append, find, has_number, inl, inr, nat_eq, not, num, refl, subst, sym, true, ℕ, ◌++◌, ◌∙◌, ◌∷◌, ◌≡◌, ◌≤◌, ◌⊎◌}
use Rattle.mscp_ported.proofs.Kept.{is_numbered}
use Rattle.mscp_packet.specs.declared.command.Order.TheVariants as orders
use Rattle.mscp_packet.specs.declared.end.EndBody.TheVariants as bodies
use Rattle.mscp_ported.proofs.Sole.{sole_left}

abbrev pub ends_numbered : ℕ → End → Bool
ends_numbered n e = nat_eq e.reference n

-- how many bytes an order asks for, and how many an end counts
abbrev pub asked_by : Order → ℕ
asked_by (orders.Move kind count block) = count
asked_by order = 0

abbrev pub counted_in : EndBody → ℕ
counted_in (bodies.Moved count) = count
counted_in body = 0

abbrev pub IsNothing : List (List ℕ) → List Record → List End → ℕ → Type 0
IsNothing aw rs es n = (filter (has_number n) aw ≡ []) × (filter (is_numbered n) rs ≡ [])
    × (filter (ends_numbered n) es ≡ [])

pub record Waits (aw : List (List ℕ)) (rs : List Record) (es : List End) (n : ℕ) : Type 0 where
  pub text : List ℕ
  pub own : Record
  pub message : filter (has_number n) aw ≡ text ∷ []
  pub sole : filter (is_numbered n) rs ≡ own ∷ []
  pub no_end : filter (ends_numbered n) es ≡ []
  pub fits : asked_by own.command.order ≤ bytes_in text

pub record Ended (aw : List (List ℕ)) (rs : List Record) (es : List End) (n : ℕ) : Type 0 where
  pub text : List ℕ
  pub end : End
  pub message : filter (has_number n) aw ≡ text ∷ []
  pub none : filter (is_numbered n) rs ≡ []
  pub sole : filter (ends_numbered n) es ≡ end ∷ []
  pub fits : counted_in end.body ≤ bytes_in text

abbrev pub At : List (List ℕ) → List Record → List End → ℕ → Type 0
At aw rs es n = IsNothing aw rs es n ⊎ Waits aw rs es n ⊎ Ended aw rs es n

abbrev pub AtEach : List (List ℕ) → List Record → List End → Type 0
AtEach aw rs es = (n : ℕ) → At aw rs es n

-- the same is there where what has the number is the same
pub at_same : {aw aw' : List (List ℕ)} {rs rs' : List Record} {es es' : List End} (n : ℕ)
    → filter (has_number n) aw' ≡ filter (has_number n) aw → filter (is_numbered n) rs' ≡ filter (is_numbered n) rs
    → filter (ends_numbered n) es' ≡ filter (ends_numbered n) es → At aw rs es n → At aw' rs' es' n
at_same n texts records ends h = grind arith

-- ---- filters

module _ {X : Type 0} where
  pub none_beside : (f : X → Bool) (xs : List X) (y : X) → f y ≡ false → filter f (xs ++ y ∷ []) ≡ filter f xs
  none_beside f xs y e = filter-append f xs (y ∷ [])
      ∙ ap (λ c. filter f xs ++ cond c (y ∷ []) []) e ∙ append-nil (filter f xs)

  pub none_stays : (f g : X → Bool) (xs : List X) → filter f xs ≡ [] → filter f (filter g xs) ≡ []
  none_stays f g [] e = refl
  none_stays f g (x ∷ xs) e = grind (arith, none_stays f g xs)

  pub none_of_it : (f : X → Bool) (xs : List X) → filter f (filter (λ x. not (f x)) xs) ≡ []
  none_of_it f [] = refl
  none_of_it f (x ∷ xs) = grind (arith, none_of_it f xs)

  pub none_found : (f : X → Bool) (xs : List X) → filter f xs ≡ [] → find f xs ≡ None
  none_found f [] e = refl
  none_found f (x ∷ xs) e = grind (arith, none_found f xs)

  pub first_of_one : (x y : X) (xs : List X) → x ∷ xs ≡ y ∷ [] → (x ≡ y) × (xs ≡ [])
  first_of_one x y xs e = search (arith, e)

  pub some_none : (x : X) (xs : List X) → x ∷ xs ≡ [] → ⊥
  some_none x xs e = search (arith, e)

pub other_number : (n m : ℕ) → nat_eq m n ≡ false → (k : ℕ) → nat_eq k n ≡ true → not (nat_eq k m) ≡ true
other_number n m d k e = grind (arith, eqb-true, eq-eqb, false≢true)

-- ---- an end is taken

pub takes_end : (aw : List (List ℕ)) (rs : List Record) (e : End) (es : List End) → AtEach aw rs (e ∷ es)
    → AtEach (filter (λ t. not (has_number e.reference t)) aw) rs es
takes_end aw rs e es at n = by (nat_eq e.reference n) refl (at n)
  where
    left : List (List ℕ)
    left = filter (λ t. not (has_number e.reference t)) aw

    gone : nat_eq e.reference n ≡ true → filter (has_number n) left ≡ []
    gone is = subst (λ m. filter (has_number m) left ≡ []) (eqb-true e.reference n is)
        (none_of_it (has_number e.reference) aw)

    same : nat_eq e.reference n ≡ false → filter (has_number n) left ≡ filter (has_number n) aw
    same d = sole_left (has_number n) (λ t. not (has_number e.reference t)) aw
        (λ t is. other_number n e.reference d (num t 0 4) is)

    here : (c : Bool) → nat_eq e.reference n ≡ c → filter (ends_numbered n) (e ∷ es)
        ≡ cond c (e ∷ filter (ends_numbered n) es) (filter (ends_numbered n) es)
    here c is = ap (λ b. cond b (e ∷ filter (ends_numbered n) es) (filter (ends_numbered n) es)) is

    by : (c : Bool) → nat_eq e.reference n ≡ c → At aw rs (e ∷ es) n → At left rs es n
    by true is (inl none) = absurd (some_none e (filter (ends_numbered n) es) (sym (here true is) ∙ none.2))
    by true is (inr (inl w)) = absurd (some_none e (filter (ends_numbered n) es) (sym (here true is) ∙ w.no_end))
    by true is (inr (inr x)) = grind (arith, gone, first_of_one, here)
    by false is x = at_same n (same is) refl (sym (here false is)) x

-- and it is that of an awaited message
pub end_awaited : (aw : List (List ℕ)) (rs : List Record) (e : End) (es : List End) → AtEach aw rs (e ∷ es)
    → (text : List ℕ) × (filter (has_number e.reference) aw ≡ text ∷ []) × (counted_in e.body ≤ bytes_in text)
end_awaited aw rs e es at = by (at e.reference)
  where
    here : filter (ends_numbered e.reference) (e ∷ es) ≡ e ∷ filter (ends_numbered e.reference) es
    here = ap (λ b. cond b (e ∷ filter (ends_numbered e.reference) es) (filter (ends_numbered e.reference) es))
        (eq-eqb e.reference e.reference refl)

    by : At aw rs (e ∷ es) e.reference
        → (text : List ℕ) × (filter (has_number e.reference) aw ≡ text ∷ []) × (counted_in e.body ≤ bytes_in text)
    by h = grind (arith, some_none, here, first_of_one)
