-- The commands that are outstanding stand in the order of their messages, and so an ABORT behind the command that it
-- names.
use Rattle.mscp_logged.proofs.Common.{AllByRecursion, Bool, Connection, First, List, None, OutgoingKind, Said, Second, Sent, Some, [], aborts, aborts_behind, and_parts, any_more, ap, cond, eqb-true, false, false≢true, filter, has_number, is_abort, is_it, length, list_any, map, nat_eq, nat_le, not, num, refl, same_connection, sent_by, slice_index, some_none, sym, true, ℕ, ◌%◌, ◌&&◌, ◌++◌, ◌||◌, ◌∙◌, ◌∷◌, ◌≡◌}
use Rattle.mscp_port.specs.declared.port.OutgoingKind.TheVariants as kinds
use Rattle.mscp_logged.proofs.Wired.{named, stem}

-- each command is that of the message at its place
abbrev pub AreLined : List Sent → List (List ℕ) → Type 0
AreLined [] [] = Unit {0}
AreLined (x ∷ xs) (t ∷ ts) = (stem x ≡ sent_by First t) × AreLined xs ts
AreLined xs ts = ⊥

-- without that whose end goes out
abbrev pub left_by : OutgoingKind → ℕ → List Sent → List Sent
left_by kinds.End n xs = filter (λ x. not (named n x)) xs
left_by kind n xs = xs

abbrev pub without_held : List Said → List Sent → List Sent
without_held [] xs = xs
without_held (s ∷ held) xs = left_by s.kind (num s.text 0 4) xs

pub lined_more : (xs : List Sent) (ts : List (List ℕ)) (x : Sent) (t : List ℕ) → AreLined xs ts
    → stem x ≡ sent_by First t → AreLined (xs ++ x ∷ []) (ts ++ t ∷ [])
lined_more [] [] x t all is = (is, tt)
lined_more [] (u ∷ ts) x t all is = absurd all
lined_more (y ∷ xs) [] x t all is = absurd all
lined_more (y ∷ xs) (u ∷ ts) x t all is = (all.0, lined_more xs ts x t all.1 is)

pub lined_left : (n : ℕ) (xs : List Sent) (ts : List (List ℕ)) → AreLined xs ts
    → AreLined (filter (λ x. not (named n x)) xs) (filter (λ t. not (has_number n t)) ts)
lined_left n [] [] all = tt
lined_left n [] (t ∷ ts) all = absurd all
lined_left n (x ∷ xs) [] all = absurd all
lined_left n (x ∷ xs) (t ∷ ts) all = by (named n x) refl (has_number n t) refl (lined_left n xs ts all.1)
  where
    same : named n x ≡ has_number n t
    same = ap (named n) all.0

    by : (b : Bool) → named n x ≡ b → (c : Bool) → has_number n t ≡ c
        → AreLined (filter (λ x. not (named n x)) xs) (filter (λ t. not (has_number n t)) ts)
        → AreLined (cond (not b) (x ∷ filter (λ x. not (named n x)) xs) (filter (λ x. not (named n x)) xs))
        (cond (not c) (t ∷ filter (λ t. not (has_number n t)) ts) (filter (λ t. not (has_number n t)) ts))
    by true e true f rest = rest
    by false e false f rest = (all.0, rest)
    by true e false f rest = absurd (false≢true (sym f ∙ sym same ∙ e))
    by false e true f rest = absurd (false≢true (sym e ∙ same ∙ f))

pub lined_map : (g : Sent → Sent) → ((x : Sent) → stem (g x) ≡ stem x) → (xs : List Sent) (ts : List (List ℕ))
    → AreLined xs ts → AreLined (map g xs) ts
lined_map g same [] [] all = tt
lined_map g same [] (t ∷ ts) all = absurd all
lined_map g same (x ∷ xs) [] all = absurd all
lined_map g same (x ∷ xs) (t ∷ ts) all = (same x ∙ all.0, lined_map g same xs ts all.1)

module _ {X : Type 0} (f : X → Bool) where
  -- where none passes all are left
  pub all_left : (xs : List X) → filter f xs ≡ [] → filter (λ x. not (f x)) xs ≡ xs
  all_left [] none = refl
  all_left (x ∷ xs) none = by (f x) none (all_left xs)
    where
      by : (b : Bool) → cond b (x ∷ filter f xs) (filter f xs) ≡ []
          → (filter f xs ≡ [] → filter (λ x. not (f x)) xs ≡ xs)
          → cond (not b) (x ∷ filter (λ x. not (f x)) xs) (filter (λ x. not (f x)) xs) ≡ x ∷ xs
      by true h rest = absurd (some_none x (filter f xs) h)
      by false h rest = ap (λ ys. x ∷ ys) (rest h)

  pub any_as : (g : X → Bool) → ((x : X) → f x ≡ true → g x ≡ true) → (xs : List X) → list_any f xs ≡ true
      → list_any g xs ≡ true
  any_as g so [] e = absurd (false≢true e)
  any_as g so (x ∷ xs) e = by (f x) refl e (any_as g so xs)
    where
      by : (b : Bool) → f x ≡ b → (b || list_any f xs) ≡ true → (list_any f xs ≡ true → list_any g xs ≡ true)
          → (g x || list_any g xs) ≡ true
      by true is h rest = ap (λ c. c || list_any g xs) (so x is)
      by false is h rest = either (g x) (rest h)
        where
          either : (c : Bool) → list_any g xs ≡ true → (c || list_any g xs) ≡ true
          either true k = refl
          either false k = k

-- ---- an ABORT

abbrev pub is_abort_sent : ℕ → ℕ → Sent → Bool
is_abort_sent n m s = named m s && nat_eq s.opcode 1 && is_it s.parameter n

abbrev pub behind : ℕ → ℕ → List Sent → Bool
behind n m [] = false
behind n m (x ∷ xs) = cond (named n x) (list_any (is_abort_sent n m) xs) (behind n m xs)

module _ (n m : ℕ) where
  abort_sent : (x : Sent) (t : List ℕ) → stem x ≡ sent_by First t → is_abort n m t ≡ true → is_abort_sent n m x ≡ true
  abort_sent x t is e = ap (is_abort_sent n m) is
      ∙ by (has_number m t) (nat_eq (slice_index t 8) 1) (nat_le 16 (length t)) (num t 12 4) e
    where
      by : (a b c : Bool) (v : ℕ) → (a && b && c && nat_eq v n) ≡ true
          → (a && b && is_it (cond c (Some v) None) n) ≡ true
      by true true true v h = h
      by true true false v h = absurd (false≢true h)
      by true false c v h = absurd (false≢true (first c (nat_eq v n) ∙ h))
        where
          first : (c d : Bool) → false ≡ (true && false && c && d)
          first c d = refl
      by false b c v h = absurd (false≢true (first b c (nat_eq v n) ∙ h))
        where
          first : (b c d : Bool) → false ≡ (false && b && c && d)
          first b c d = refl

  lined_any : (xs : List Sent) (ts : List (List ℕ)) → AreLined xs ts → list_any (is_abort n m) ts ≡ true
      → list_any (is_abort_sent n m) xs ≡ true
  lined_any [] [] all e = e
  lined_any [] (t ∷ ts) all e = absurd all
  lined_any (x ∷ xs) [] all e = absurd all
  lined_any (x ∷ xs) (t ∷ ts) all e = by (is_abort n m t) refl e (lined_any xs ts all.1)
    where
      by : (b : Bool) → is_abort n m t ≡ b → (b || list_any (is_abort n m) ts) ≡ true
          → (list_any (is_abort n m) ts ≡ true → list_any (is_abort_sent n m) xs ≡ true)
          → (is_abort_sent n m x || list_any (is_abort_sent n m) xs) ≡ true
      by true is h rest = ap (λ c. c || list_any (is_abort_sent n m) xs) (abort_sent x t all.0 is)
      by false is h rest = either (is_abort_sent n m x) (rest h)
        where
          either : (c : Bool) → list_any (is_abort_sent n m) xs ≡ true
              → (c || list_any (is_abort_sent n m) xs) ≡ true
          either true k = refl
          either false k = k

  pub lined_behind : (xs : List Sent) (ts : List (List ℕ)) → AreLined xs ts → aborts_behind n m ts ≡ true
      → behind n m xs ≡ true
  lined_behind [] [] all e = e
  lined_behind [] (t ∷ ts) all e = absurd all
  lined_behind (x ∷ xs) [] all e = absurd all
  lined_behind (x ∷ xs) (t ∷ ts) all e = by (named n x) refl (has_number n t) refl e (lined_behind xs ts all.1)
    where
      same : named n x ≡ has_number n t
      same = ap (named n) all.0

      by : (b : Bool) → named n x ≡ b → (c : Bool) → has_number n t ≡ c
          → cond c (list_any (is_abort n m) ts) (aborts_behind n m ts) ≡ true
          → (aborts_behind n m ts ≡ true → behind n m xs ≡ true)
          → cond b (list_any (is_abort_sent n m) xs) (behind n m xs) ≡ true
      by true e true f h rest = lined_any xs ts all.1 h
      by false e false f h rest = rest h
      by true e false f h rest = absurd (false≢true (sym f ∙ sym same ∙ e))
      by false e true f h rest = absurd (false≢true (sym e ∙ same ∙ f))

  pub behind_more : (xs ys : List Sent) → behind n m xs ≡ true → behind n m (xs ++ ys) ≡ true
  behind_more [] ys e = absurd (false≢true e)
  behind_more (x ∷ xs) ys e = by (named n x) e (behind_more xs ys)
    where
      by : (b : Bool) → cond b (list_any (is_abort_sent n m) xs) (behind n m xs) ≡ true
          → (behind n m xs ≡ true → behind n m (xs ++ ys) ≡ true)
          → cond b (list_any (is_abort_sent n m) (xs ++ ys)) (behind n m (xs ++ ys)) ≡ true
      by true h rest = any_more (is_abort_sent n m) xs ys h
      by false h rest = rest h

  behind_found : (front : List Sent) (x : Sent) (back : List Sent)
      → AllByRecursion (λ y. named n y ≡ false) front → named n x ≡ true → behind n m (front ++ x ∷ back) ≡ true
      → list_any (is_abort_sent n m) back ≡ true
  behind_found [] x back before is e =
      sym (ap (λ b. cond b (list_any (is_abort_sent n m) back) (behind n m back)) is) ∙ e
  behind_found (y ∷ ys) x back before is e = behind_found ys x back before.1 is
      (sym (ap (λ b. cond b (list_any (is_abort_sent n m) (ys ++ x ∷ back)) (behind n m (ys ++ x ∷ back))) before.0)
      ∙ e)

  -- it aborts the command
  pub behind_aborts : (front : List Sent) (x : Sent) (back : List Sent)
      → AllByRecursion (λ y. named n y ≡ false) front → named n x ≡ true → behind n m (front ++ x ∷ back) ≡ true
      → list_any (aborts x) back ≡ true
  behind_aborts front x back before is e =
      any_as (is_abort_sent n m) (aborts x) one back (behind_found front x back before is e)
    where
      parts : (same_connection x.connection First ≡ true) × (nat_eq x.reference n ≡ true)
      parts = and_parts (same_connection x.connection First) (nat_eq x.reference n) is

      first : (via : Connection) → same_connection via First ≡ true → via ≡ First
      first First e = refl
      first Second e = absurd (false≢true e)

      by : (a b c d : Bool) → (a && b && c && d) ≡ true → (a && c && d) ≡ true
      by true true c d h = h
      by true false c d h = absurd (false≢true h)
      by false b c d h = absurd (false≢true h)

      one : (s : Sent) → is_abort_sent n m s ≡ true → aborts x s ≡ true
      one s h =
          ap (λ via. same_connection s.connection via && nat_eq s.opcode 1 && is_it s.parameter x.reference)
          (first x.connection parts.0)
          ∙ ap (λ k. same_connection s.connection First && nat_eq s.opcode 1 && is_it s.parameter k)
          (eqb-true x.reference n parts.1)
          ∙ by (same_connection s.connection First) (nat_eq s.reference m) (nat_eq s.opcode 1) (is_it s.parameter n) h

-- ---- of what goes out

-- a command that was aborted (2) has its ABORT behind it, if this is so
abbrev pub AreLate : Type 0 → List Sent → List Said → Type 0
AreLate G xs held = AllByRecursion (λ (s : Said). s.kind ≡ kinds.End → G → num s.text 10 2 % 32 ≡ 2
    → (m : ℕ) × (behind (num s.text 0 4) m xs ≡ true)) held

pub late_more : (G : Type 0) (xs ys : List Sent) (held : List Said) → AreLate G xs held → AreLate G (xs ++ ys) held
late_more G xs ys [] all = tt
late_more G xs ys (s ∷ held) all = (
  (λ kind g aborted. let z = all.0 kind g aborted in (z.0, behind_more (num s.text 0 4) z.0 xs ys z.1)),
  late_more G xs ys held all.1,
)
