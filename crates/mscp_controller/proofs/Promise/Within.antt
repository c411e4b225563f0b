-- The figure of each command that waits, and the steps that it has seen, stay within the bound.
use Rattle.mscp_controller.proofs.Basics.{◌≡◌, ℕ, ◌+◌, ◌*◌, ◌<◌, ◌≤◌, Bool, true, false, cond, not, List, [], ◌∷◌, ◌++◌, get_or, length, refl, ap, arith, append-nil, filter, sum_by, Contains, AllByRecursion, All-from_recursion, recursion_from_All, Contains-get_or, sum_by-le, Connection, First, Second, Settings, bound, room, Trace, Moment, queues, is_step, connection, name, weight, waiting, done, left, steps_after, ends_in, passed, figure, balance, IsRight, fewer, every_weaker, every_kept, every_append, every_parts, every_both, waiting_more, done_last, steps_more, steps_last, waiting_below, passed_last, queued_right, Short, two_free, sides_length}
use Rattle.mscp_controller.proofs.Promise.Falls.{figure_idle}
use Rattle.mscp_controller.proofs.Promise.Falling.{Falling}
use Rattle.mscp_controller.proofs.Promise.Room.{Room, balance_two}

abbrev pub Within : Settings → Trace → Type 0
Within c t = AllByRecursion (λ x. figure c t x + steps_after t x ≤ bound c) (waiting t)

pub every_contained : (P : ℕ → Type 0) (xs : List ℕ) → ((x : ℕ) → Contains xs x → P x) → AllByRecursion P xs
every_contained P xs h = recursion_from_All P xs (λ k d l. h (get_or xs k d) (Contains-get_or xs k d l))

-- ---- a new command
bound_of : (room Q L n l s : ℕ) → n + 1 ≤ room → s ≤ n * L → l ≤ L → s + Q + l ≤ room * L + Q
bound_of room Q L n l s h k m = search arith

new_figure : (c : Settings) (t : Trace) (W : List ℕ) (x : ℕ) → waiting t ≡ W ++ x ∷ []
    → done t x ≡ 0 → passed t x ≡ 0 → Short c t (W ++ x ∷ []) → length W + 1 ≤ room c → figure c t x ≤ bound c
new_figure c t W x e d p h n =
    let parts = every_parts (λ z. weight t z ≤ c.longest) W (x ∷ []) h in
    let l = parts.1.0 in
    let s = sum_by-le (left t) c.longest W (All-from_recursion (λ z. left t z ≤ c.longest) W
    (every_weaker (λ z. weight t z ≤ c.longest) (λ z. left t z ≤ c.longest) (λ z w. omega (arith, w)) W parts.0)) in
    let b = bound_of (room c) c.budget c.longest (length W) (left t x) (sum_by (left t) W) n s (omega (arith, l)) in
    omega (arith, figure_idle c t W x [] e d, p, b)

-- where a connection has two credits free, there is room for one more
room_for_one : (c : Settings) (via : Connection) (t : Trace)
    → Room c t → 2 ≤ balance c via t → length (waiting t) + 1 ≤ room c
room_for_one c First t r h =
    omega (arith, balance_two c First t h, r.spare Second, sides_length (connection t) (waiting t))
room_for_one c Second t r h =
    omega (arith, balance_two c Second t h, r.spare First, sides_length (connection t) (waiting t))

-- ---- one more moment
-- Each right moment keeps it.
pub within_more : (c : Settings) (t : Trace) (m : Moment) → IsRight c t m.0 m.1 → Room c t → Falling c t m
    → Short c (t ++ m ∷ []) (waiting (t ++ m ∷ [])) → Within c t → Within c (t ++ m ∷ [])
within_more c t m r space f short w =
    let t' = t ++ m ∷ [] in
    let n = length t in
    let keep : ℕ → Bool = λ x. not (ends_in (name t x) m.1) in
    let kept = filter keep (waiting t) in
    let New : ℕ → Type 0 = λ x. figure c t' x + steps_after t' x ≤ bound c in
    let Old : ℕ → Type 0 = λ x. (figure c t x + steps_after t x ≤ bound c) × (x < length t) in
    let old : AllByRecursion Old (waiting t) = search (arith, waiting_below t, every_both) in
    let stay : (b : Bool) → is_step m.0 ≡ b → AllByRecursion New (waiting t) =
    λ b. elim b as (λ b. is_step m.0 ≡ b → AllByRecursion New (waiting t)) [
      | true ↦ λ e.
          every_weaker (λ x. Old x × (figure c t' x < figure c t x)) New
          (λ x h. let s = steps_more t m x h.0.1 in let one = ap {B = ℕ} (λ b. cond b 1 0) e in
          omega (arith, s, one, h.0.0, h.1)) (waiting t)
          (every_both Old (λ x. figure c t' x < figure c t x) (waiting t) old
          (every_contained (λ x. figure c t' x < figure c t x) (waiting t) (f.step e)))
      | false ↦ λ e.
          every_weaker (λ x. Old x × (figure c t' x ≤ figure c t x)) New
          (λ x h. let s = steps_more t m x h.0.1 in let none = ap {B = ℕ} (λ b. cond b 1 0) e in
          omega (arith, s, none, h.0.0, h.1)) (waiting t)
          (every_both Old (λ x. figure c t' x ≤ figure c t x) (waiting t) old
          (every_contained (λ x. figure c t' x ≤ figure c t x) (waiting t) f.other))
    ] in
    let front : AllByRecursion New kept = every_kept New keep (waiting t) (stay (is_step m.0) refl) in
    let split : (b : Bool) → queues m.1 ≡ b → AllByRecursion New (waiting t') =
    λ b. elim b as (λ b. queues m.1 ≡ b → AllByRecursion New (waiting t')) [
      | true ↦ λ e. grind (
        arith,
        waiting_more,
        room_for_one,
        two_free,
        queued_right,
        fewer,
        new_figure,
        done_last,
        passed_last,
        every_append,
        steps_last,
        t,
        n,
        keep,
        kept,
        front,
      )
      | false ↦ λ e. grind (arith, waiting_more, append-nil, t, n, kept, front)
    ] in
    split (queues m.1) refl
