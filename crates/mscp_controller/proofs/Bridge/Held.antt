-- When records and ends are those of a run, and the figures that they give.
use Rattle.mscp_controller.proofs.Common.{◌≡◌, ⊎_elim, ℕ, ◌+◌, ◌-◌, Bool, false, cond, List, [], ◌∷◌, ◌++◌, map, length, refl, ap, sym, ◌∙◌, append_assoc, arith, filter, find, sum_by, AllByRecursion, position, range_with_len, length-append, length-map, map-append, End, Connection, Name, same_name, Record, has_name, is_in_service, left_of, record_at, Settings, Both, of, Trace, command, connection, name, reference, weight, waiting, done, good, left, in_service, passed, figure, figure_found, figure_of, untaken, shown, figure_at, figure_between, figure_of_name, figures, figures_from, figure_at_place, at_place, find_cases, find_none, find_first, position_none, position_first, filter_map_of, sum_by_map}
use Rattle.mscp_controller.proofs.Promise.Falls as falls
use Rattle.mscp_controller.proofs.Promise.Known.{Known}

-- the record of a command
abbrev pub held_of : Trace → ℕ → Record
held_of t x = record {
  connection = connection t x;
  command = command t x;
  weight = weight t x;
  done = done t x;
  good = good t x;
  passed = passed t x;
}

-- The records are those of the waiting commands, and each connection's ends those that weren't taken.
pub record Follows (c : Settings) (t : Trace) (ws : List Record) (us : Both (List End)) : Type 0 where
  pub known : Known c t
  pub waits : ws ≡ map (held_of t) (waiting t)
  pub ends : (via : Connection) → of via us ≡ untaken c via t

-- ---- figures
working_held : (t : Trace) (B : List ℕ) → sum_by left_of (filter is_in_service (map (held_of t) B))
    ≡ sum_by (left t) (filter (in_service t) B)
working_held t o = grind (arith, filter_map_of, sum_by_map)

-- the figure of a record is that of its command
figure_held : (c : Settings) (t : Trace) (A : List ℕ) (x : ℕ) (B : List ℕ) → waiting t ≡ A ++ x ∷ B
    → figure_between c.budget (map (held_of t) A) (held_of t x) (map (held_of t) B) ≡ figure c t x
figure_held c t A x B e =
    let sum : ℕ → ℕ → ℕ = λ a b. cond (in_service t x) (left t x) (a + b + (c.budget - passed t x) + left t x) in
    ap (λ a. sum a (sum_by left_of (filter is_in_service (map (held_of t) B)))) (sum_by_map (held_of t) left_of A)
    ∙ (ap (λ b. sum (sum_by (left t) A) b) (working_held t B) ∙ sym (falls.figure_at c t A x B e))

-- what a look tells of a record besides its figure
abbrev looked_name : Record → (Connection × ℕ)
looked_name r = (r.connection, r.command.reference)

shown_at : (c : Settings) (t : Trace) (A : List ℕ) (x : ℕ) (B : List ℕ) (k : ℕ) → waiting t ≡ A ++ x ∷ B → length A ≡ k
    → (looked_name (record_at (map (held_of t) (waiting t)) k) ≡ (connection t x, reference t x))
    × (figure_at c.budget (map (held_of t) (waiting t)) k ≡ figure c t x)
shown_at c t A x B k e l = search (arith, figure_held c t A x B e, map-append, at_place, length-map)

figures_part : (c : Settings) (t : Trace) (A B : List ℕ) (k : ℕ) → waiting t ≡ A ++ B → length A ≡ k
    → figures_from c.budget (map (held_of t) (waiting t)) (range_with_len k (length B)) ≡ map (shown c t) B
figures_part c t A [] k e l = refl
figures_part c t A (x ∷ B) k e l = search (
  arith,
  shown_at,
  figures_part c t (A ++ x ∷ []) B (k + 1)
      (e ∙ sym (append_assoc A (x ∷ []) B)) (omega (arith, length-append A (x ∷ []), l)),
)

-- The records' figures are those of the waiting commands.
pub figures_held : (c : Settings) (t : Trace)
    → figures c.budget (map (held_of t) (waiting t)) ≡ map (shown c t) (waiting t)
figures_held c t = search (arith, length-map (waiting t) (held_of t), figures_part c t [] (waiting t) 0 refl refl)

pub has_held : (t : Trace) (r : Name) (xs : List ℕ) → AllByRecursion (λ x. same_name (name t x) r ≡ false) xs
    → AllByRecursion (λ w. has_name r w ≡ false) (map (held_of t) xs)
has_held t r [] h = tt
has_held t r (x ∷ xs) h = (h.0, has_held t r xs h.1)

-- The figure of a name is the same in both.
pub figure_of_held : (c : Settings) (t : Trace) (r : Name)
    → figure_of_name c.budget (map (held_of t) (waiting t)) r ≡ figure_of c t r
unfolding figure_of
figure_of_held c t r =
    let h = held_of t in
    let rs = map h (waiting t) in
    let q : ℕ → Bool = λ x. same_name (name t x) r in
    ⊎_elim
    (λ none.
    ap (figure_at_place c.budget rs) (position_none (has_name r) rs (has_held t r (waiting t) none))
    ∙ sym (ap (figure_found c t) (find_none q (waiting t) none)))
    (λ some.
    let A = some.0 in
    let x = some.1 in
    let B = some.2 in
    let f = some.3 in
    let cut : rs ≡ map h A ++ h x ∷ map h B = ap (map h) f.is ∙ map-append h A (x ∷ B) in
    ap (figure_at_place c.budget rs) (ap (position (has_name r)) cut
    ∙ position_first (has_name r) (map h A) (h x) (map h B) (has_held t r A f.before) f.passed)
    ∙ ((shown_at c t A x B (length (map h A)) f.is (sym (length-map A h))).1
    ∙ sym (ap (figure_found c t) (ap (find q) f.is ∙ find_first q A x B f.before f.passed))))
    (find_cases q (waiting t))
