-- The figures of the waiting commands of one name: nothing raises them, and a step lowers them.
use Rattle.mscp_sim.proofs.Common.{◌≡◌, Bool, map, ◌⊎◌, ⊎_elim, ℕ, suc, ◌+◌, ◌-◌, ◌<◌, ◌≤◌, true, List, [], ◌∷◌, ◌++◌, length, refl, ap, sym, ◌∙◌, subst, arith, find, not, ◌&&◌, Contains, is_some, and_parts, cases_lt, false≢true, list_any, length-append, take_all, take-append_seam, Name, name_on, same_name, same_is, Settings, Moment, Trace, connection_of, is_step, queues, ends_in, is_waiting, name, sent_command, waiting, figure, figure_of, Promise, command_last, connection_last, name_before, is_waiting_before, is_waiting_last, moment_last, cut, waiting_waits, waits_below, any_map, found}

contains_in : (A : List ℕ) (x : ℕ) (B : List ℕ) → Contains (A ++ x ∷ B) x
contains_in [] x B = (0, omega arith, refl)
contains_in (a ∷ A) x B = let rest = contains_in A x B in let l = rest.1 in (suc rest.0, omega (arith, l), rest.2)

pub contains_waiting : (t : Trace) (x : ℕ) → is_waiting t x ≡ true → Contains (waiting t) x
contains_waiting t x w = let k = cut t x (waits_below t x w) w in
    subst (λ xs. Contains xs x) (sym k.2.is) (contains_in k.0 x k.1)

-- no figure of a waiting command of this name is over g
abbrev pub AtMost : Settings → Trace → Name → ℕ → Type 0
AtMost c t n g = (x : ℕ) → is_waiting t x ≡ true → name t x ≡ n → figure c t x ≤ g

-- what each part of a promised trace has
pub part_of : (c : Settings) (t u : Trace) → Promise c (t ++ u) → (x : ℕ) → Contains (waiting t) x
    → figure_of c t (name t x) ≡ figure c t x
part_of c t u p x w = search (arith, length-append t u, take-append_seam t u)

-- the promise at its last moment
never_rises_at : (c : Settings) (t : Trace) (m : Moment) → Promise c (t ++ m ∷ []) → (x : ℕ) → Contains (waiting t) x
    → figure c (t ++ m ∷ []) x ≤ figure c t x
never_rises_at c t m p x w = search (arith, length-append t (m ∷ []), take-append_seam t (m ∷ []), take_all)

falls_at : (c : Settings) (t : Trace) (m : Moment) → Promise c (t ++ m ∷ []) → is_step m.0 ≡ true → (x : ℕ)
    → Contains (waiting t) x → figure c (t ++ m ∷ []) x < figure c t x
falls_at c t m p s x w =
    search (arith, length-append t (m ∷ []), moment_last t m, take-append_seam t (m ∷ []), take_all)

-- a moment raises no figure, and a step lowers each
pub most_moment : (c : Settings) (t : Trace) (m : Moment) (n : Name) (g g' : ℕ) → Promise c (t ++ m ∷ [])
    → (queues m.1 ≡ true → name_on (connection_of m.0) (sent_command m).reference ≡ n → ⊥)
    → (g' ≡ g) ⊎ ((is_step m.0 ≡ true) × (g' ≡ g - 1)) → AtMost c t n g → AtMost c (t ++ m ∷ []) n g'
most_moment c t m n g g' p new way most x w r =
    let t' = t ++ m ∷ [] in
    let size : length t' ≡ length t + 1 = length-append t (m ∷ []) in
    let inside : x < length t' = waits_below t' x w in
    ⊎_elim (λ below.
    let was : (is_waiting t x && not (ends_in (name t x) m.1)) ≡ true = sym (is_waiting_before t m x below) ∙ w in
    let waits = (and_parts (is_waiting t x) _ was).0 in
    let named : name t x ≡ n = sym (name_before t m x below) ∙ r in
    let old = most x waits named in
    let there = contains_waiting t x waits in
    let rises = never_rises_at c t m p x there in
    ⊎_elim (λ same. omega (arith, old, rises, same))
    (λ step. let falls = falls_at c t m p step.0 x there in let less = step.1 in
    omega (arith, old, falls, less)) way) (λ beyond.
    let last : x ≡ length t = omega (arith, beyond, inside, size) in
    let queued : queues m.1 ≡ true = sym (is_waiting_last t m) ∙ (ap (is_waiting t') (sym last) ∙ w) in
    let named : name t' (length t) ≡ name_on (connection_of m.0) (sent_command m).reference =
    λ i. name_on (connection_last t m i) (command_last t m i).reference in
    absurd (new queued (sym named ∙ (ap (name t') (sym last) ∙ r)))) (cases_lt x (length t))

-- a figure that is at least 1 is that of a waiting command
pub record Waits (c : Settings) (t : Trace) (n : Name) : Type 0 where
  pub command : ℕ
  pub waits : is_waiting t command ≡ true
  pub named : name t command ≡ n
  pub figure : figure_of c t n ≡ figure c t command

pub waits_at : (c : Settings) (t : Trace) (n : Name) → 1 ≤ figure_of c t n → Waits c t n
unfolding figure_of
waits_at c t n l = grind (arith, found, waiting_waits, same_is)

-- ---- a name that waits

any_find : {X : Type 0} (q : X → Bool) (xs : List X) → list_any q xs ≡ is_some (find q xs)
any_find q [] = refl
any_find q (x ∷ xs) = search (arith, any_find q xs)

-- the figure of a name that waits is at least 1
pub some_figure : (c : Settings) (t : Trace) (n : Name) → Promise c t
    → list_any (λ m. same_name m n) (map (name t) (waiting t)) ≡ true → 1 ≤ figure_of c t n
unfolding figure_of
some_figure c t n p e = grind (arith, any_find, any_map, found, waiting_waits, take_all, contains_waiting, false≢true)
