-- Which commands are outstanding on the wire, beside the messages whose ends a port owes.
use Rattle.mscp_logged.proofs.Common.{AllByRecursion, Bool, First, History, List, Moment, None, Nothing, Said, Sent, [], after, ap, arith, cond, drop, eq-eqb, false, filter, filter-append, fold_push, has_number, inl, inr, is_named, length, list_any, map, nat_eq, none_beside, none_of_it, not, num, other_number, outstanding, refl, sent_by, sole_left, some_none, standing_after, standing_first, subst, sym, take, timeout, true, ℕ, ◌++◌, ◌+◌, ◌∙◌, ◌∷◌, ◌≡◌, ◌⊎◌}
use Rattle.mscp_port.specs.declared.port.OutgoingKind.TheVariants as kinds

-- ---- commands

pub outstanding_more : (h : History) (m : Moment) → outstanding (h ++ m ∷ []) ≡ after (timeout h) (outstanding h) m
outstanding_more h m = ap (λ s. s.commands) (fold_push standing_after standing_first h m)

-- what a message alone says of its command
abbrev pub stem : Sent → Sent
stem s = record s { time = None; told = None; polled = None; asked = Nothing; beside = false }

abbrev pub named : ℕ → Sent → Bool
named n s = is_named First n s

-- ---- lists

module _ {X : Type 0} where
  pub none_any : (f : X → Bool) (xs : List X) → list_any f xs ≡ false → filter f xs ≡ []
  none_any f [] e = refl
  none_any f (x ∷ xs) e = grind (arith, none_any f xs)

  pub none_front : (f : X → Bool) (xs : List X) → AllByRecursion (λ y. f y ≡ false) xs → filter f xs ≡ []
  none_front f [] all = refl
  none_front f (x ∷ xs) all = ap (λ b. cond b (x ∷ filter f xs) (filter f xs)) all.0 ∙ none_front f xs all.1

  pub filter_map : (f : X → Bool) (g : X → X) → ((x : X) → f (g x) ≡ f x) → (xs : List X)
      → filter f (map g xs) ≡ map g (filter f xs)
  filter_map f g same [] = refl
  filter_map f g same (x ∷ xs) = grind (arith, filter_map f g same xs)

  -- a list without the element at a place
  pub front_of : (front : List X) (x : X) (back : List X) → take (length front) (front ++ x ∷ back) ≡ front
  front_of [] x back = refl
  front_of (y ∷ ys) x back = ap (λ zs. y ∷ zs) (front_of ys x back)

  pub back_of : (front : List X) (x : X) (back : List X) → drop (length front + 1) (front ++ x ∷ back) ≡ back
  back_of [] x back = refl
  back_of (y ∷ ys) x back = grind (arith, back_of ys x back)

-- ---- one number

-- a number is free
abbrev pub IsFree : List Sent → List (List ℕ) → ℕ → Type 0
IsFree xs aw n = (filter (named n) xs ≡ []) × (filter (has_number n) aw ≡ [])

-- or a command of it is outstanding, and it is that of the awaited message of the number, if there is one
pub record IsOut (xs : List Sent) (aw : List (List ℕ)) (n : ℕ) : Type 0 where
  pub own : Sent
  pub sole : filter (named n) xs ≡ own ∷ []
  pub awaited : (filter (has_number n) aw ≡ [])
      ⊎ ((text : List ℕ) × (filter (has_number n) aw ≡ text ∷ []) × (stem own ≡ sent_by First text))

abbrev pub At : List Sent → List (List ℕ) → ℕ → Type 0
At xs aw n = IsFree xs aw n ⊎ IsOut xs aw n

-- an end that goes out is that of a command, whose message isn't awaited any more, and to which it has this tie
pub record IsOwed (Tie : List ℕ → List ℕ → Type 0) (xs : List Sent) (aw : List (List ℕ)) (text : List ℕ) : Type 0 where
  pub own : Sent
  pub message : List ℕ
  pub sole : filter (named (num text 0 4)) xs ≡ own ∷ []
  pub none : filter (has_number (num text 0 4)) aw ≡ []
  pub is : stem own ≡ sent_by First message
  pub tie : Tie text message

-- of all that goes out
abbrev pub AreOwed : (Tie : List ℕ → List ℕ → Type 0) → List Sent → List (List ℕ) → List Said → Type 0
AreOwed Tie xs aw held = AllByRecursion (λ (s : Said). s.kind ≡ kinds.End → IsOwed Tie xs aw s.text) held

pub record Wired (Tie : List ℕ → List ℕ → Type 0) (xs : List Sent) (aw : List (List ℕ)) (held : List Said)
    : Type 0 where
  pub each : (n : ℕ) → At xs aw n
  pub owed : AreOwed Tie xs aw held

pub same_or : (n k : ℕ) → (n ≡ k) ⊎ (nat_eq n k ≡ false)
same_or n k = grind arith

pub one_of : {X : Type 0} (x y : X) → x ∷ [] ≡ y ∷ [] → x ≡ y
one_of x y e = search (arith, e)

module _ (Tie : List ℕ → List ℕ → Type 0) (xs : List Sent) (aw : List (List ℕ)) where
  -- nothing is there
  pub nothing_wired : xs ≡ [] → aw ≡ [] → Wired Tie xs aw []
  nothing_wired none no_text = grind arith

  -- ---- an end begins to go out

  module _ (s : Said) (m : List ℕ) (w : Wired Tie xs aw [])
      (only : filter (has_number (num s.text 0 4)) aw ≡ m ∷ []) (tie : Tie s.text m) where
    abbrev n : ℕ
    n = num s.text 0 4

    abbrev aw' : List (List ℕ)
    aw' = filter (λ t. not (has_number (num s.text 0 4) t)) aw

    end_each : (k : ℕ) → At xs aw' k
    end_each k = elim (same_or n k) [
      | inl e ↦ subst (λ j. At xs aw' j) e (elim (w.each n) [
        | inl free ↦ absurd (some_none m [] (sym only ∙ free.1))
        | inr o ↦ inr (record { own = o.own; sole = o.sole; awaited = inl (none_of_it (has_number n) aw) })
      ])
      | inr d ↦
          let same = sole_left (has_number k) (λ t. not (has_number n t)) aw (λ t. other_number k n d (num t 0 4)) in
          elim (w.each k) [
            | inl free ↦ inl (free.0, same ∙ free.1)
            | inr o ↦ inr (record {
              own = o.own;
              sole = o.sole;
              awaited = elim o.awaited
                  [ inl none ↦ inl (same ∙ none) | inr some ↦ inr (some.0, same ∙ some.1, some.2) ];
            })
          ]
    ]

    end_owed : IsOwed Tie xs aw' s.text
    end_owed = elim (w.each n) [
      | inl free ↦ absurd (some_none m [] (sym only ∙ free.1))
      | inr o ↦ elim o.awaited [
        | inl none ↦ absurd (some_none m [] (sym only ∙ none))
        | inr some ↦ record {
          own = o.own;
          message = m;
          sole = o.sole;
          none = none_of_it (has_number n) aw;
          is = some.2 ∙ ap (sent_by First) (one_of some.0 m (sym some.1 ∙ only));
          tie = tie;
        }
      ]
    ]

    pub end_begins : Wired Tie xs aw' (s ∷ [])
    end_begins = record { each = end_each; owed = ((λ kind. end_owed), tt) }

  -- ---- a message comes

  module _ (t : List ℕ) (x : Sent) (is : stem x ≡ sent_by First t)
      (new : filter (named (num t 0 4)) xs ≡ []) where
    abbrev number : ℕ
    number = num t 0 4

    own_name : named number x ≡ true
    own_name = ap (λ (s : Sent). named number s) is ∙ eq-eqb number number refl

    other_name : (k : ℕ) → nat_eq number k ≡ false → named k x ≡ false
    other_name k d = ap (λ (s : Sent). named k s) is ∙ d

    here : filter (named number) (xs ++ x ∷ []) ≡ x ∷ []
    here = grind (arith, filter-append, own_name)

    there : (k : ℕ) → nat_eq number k ≡ false → filter (named k) (xs ++ x ∷ []) ≡ filter (named k) xs
    there k d = none_beside (named k) xs x (other_name k d)

    -- it is none that is owed
    beside : (ts : List (List ℕ)) (held : List Said)
        → ((k : ℕ) → nat_eq number k ≡ false → filter (has_number k) ts ≡ filter (has_number k) aw)
        → AreOwed Tie xs aw held → AreOwed Tie (xs ++ x ∷ []) ts held
    beside ts [] same owed = tt
    beside ts (s ∷ held) same owed = (one, beside ts held same owed.1)
      where
        one : s.kind ≡ kinds.End → IsOwed Tie (xs ++ x ∷ []) ts s.text
        one kind = let o = owed.0 kind in elim (same_or number (num s.text 0 4)) [
          | inl e ↦ absurd (some_none o.own [] (sym o.sole ∙ rw (← e) new))
          | inr d ↦ record {
            own = o.own;
            message = o.message;
            sole = there (num s.text 0 4) d ∙ o.sole;
            none = same (num s.text 0 4) d ∙ o.none;
            is = o.is;
            tie = o.tie;
          }
        ]

    module _ (held : List Said) (w : Wired Tie xs aw held) where
      is_free : filter (has_number number) aw ≡ []
      is_free = grind arith

      -- the controller takes it
      taken_each : (k : ℕ) → At (xs ++ x ∷ []) (aw ++ t ∷ []) k
      taken_each k = elim (same_or number k) [
        | inl e ↦ subst (λ j. At (xs ++ x ∷ []) (aw ++ t ∷ []) j) e (inr (record {
          own = x;
          sole = here;
          awaited = inr (
            t,
            filter-append (has_number number) aw (t ∷ [])
                ∙ ap (λ zs. zs ++ filter (has_number number) (t ∷ [])) is_free
                ∙ ap (λ b. cond b (t ∷ []) []) (eq-eqb number number refl),
            is,
          );
        }))
        | inr d ↦ by k d (w.each k)
      ]
        where
          text_beside : (k : ℕ) → nat_eq number k ≡ false
              → filter (has_number k) (aw ++ t ∷ []) ≡ filter (has_number k) aw
          text_beside k d = none_beside (has_number k) aw t d

          by : (k : ℕ) → nat_eq number k ≡ false → At xs aw k → At (xs ++ x ∷ []) (aw ++ t ∷ []) k
          by k d (inl free) = inl (there k d ∙ free.0, text_beside k d ∙ free.1)
          by k d (inr o) = inr (record {
            own = o.own;
            sole = there k d ∙ o.sole;
            awaited = elim o.awaited [
              | inl none ↦ inl (text_beside k d ∙ none)
              | inr some ↦ inr (some.0, text_beside k d ∙ some.1, some.2)
            ];
          })

      pub message_taken : Wired Tie (xs ++ x ∷ []) (aw ++ t ∷ []) held
      message_taken = record {
        each = taken_each;
        owed = beside (aw ++ t ∷ []) held (λ k d. none_beside (has_number k) aw t d) w.owed;
      }

    -- or the port answers it itself
    module _ (s : Said) (w : Wired Tie xs aw []) (same : num s.text 0 4 ≡ num t 0 4) (tie : Tie s.text t) where
      answered_each : (k : ℕ) → At (xs ++ x ∷ []) aw k
      answered_each k = elim (same_or number k) [
        | inl e ↦ rw (← e) (inr (record { own = x; sole = here; awaited = inl (is_free [] w) }))
        | inr d ↦ elim (w.each k) [
          | inl free ↦ inl (there k d ∙ free.0, free.1)
          | inr o ↦ inr (record { own = o.own; sole = there k d ∙ o.sole; awaited = o.awaited })
        ]
      ]

      pub message_answered : Wired Tie (xs ++ x ∷ []) aw (s ∷ [])
      message_answered = record {
        each = answered_each;
        owed = (
          (λ kind. record {
            own = x;
            message = t;
            sole = subst (λ j. filter (named j) (xs ++ x ∷ []) ≡ x ∷ []) (sym same) here;
            none = subst (λ j. filter (has_number j) aw ≡ []) (sym same) (is_free [] w);
            is = is;
            tie = tie;
          }),
          tt,
        );
      }
