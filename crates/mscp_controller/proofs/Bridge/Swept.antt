-- Where a picker picks only what the sweep may pick, each command that starts is the one that the sweep starts.
use Rattle.mscp_controller.proofs.Basics.{◌≡◌, ℕ, ◌+◌, ◌<◌, ◌≤◌, Bool, true, false, not, List, ◌∷◌, ◌++◌, map, take, drop, get_or, length, ap, sym, ◌∙◌, subst, arith, find, Option, Some, None, AllByRecursion, list_all, and-false, le-ltb, lt-ltb, ne_eqb, drop_more, get_or-map, length-map, take-append-drop, take-map, recursion_from_All, list_all-append, Choice, Name, IsFirstLeast, Pairs, every_append, every_both, every_mapped, every_parts, every_weaker, pairs_filter, pairs_middle, find_first, map_map, Settings, Trace, moment, Service, service_in, WhenStarted, service_name, waiting, is_startable, startable, cost, IsPick, IsPicked, IsSwept, IsSweeping, Sweeps, goes_before, swept, waiting_rises}
use Rattle.mscp_controller.proofs.Bridge.Servable.{all_of}

-- no other goes before what costs less, or as much and came earlier
not_before : (c : Settings) (t : Trace) (x y : ℕ) → cost c t y ≤ cost c t x → y ≤ x → goes_before c t x y ≡ false
not_before c t x y l o = grind (arith, le-ltb, and-false)

-- nor before what costs less
not_cheaper : (c : Settings) (t : Trace) (x y : ℕ) → cost c t y < cost c t x → goes_before c t x y ≡ false
not_cheaper c t x y l = search (arith, le-ltb (cost c t x) (cost c t y) (omega (arith, l)), ne_eqb)

is_before : (c : Settings) (t : Trace) (x y : ℕ) → cost c t x < cost c t y → goes_before c t x y ≡ true
is_before c t x y l = search (arith, lt-ltb (cost c t x) (cost c t y) l)

-- the commands that may start, in the order in which they came
startable_rise : (c : Settings) (t : Trace) → Pairs ◌<◌ (startable c t)
unfolding startable
startable_rise c t = pairs_filter ◌<◌ (is_startable c t) (waiting t) (waiting_rises t)

-- the command at the first place that has the least cost is the one that no other goes before
swept_at : (c : Settings) (t : Trace) (place : ℕ) → IsFirstLeast (map (cost c t) (startable c t)) place
    → place < length (startable c t) → swept c t ≡ Some (get_or (startable c t) place 0)
unfolding swept
swept_at c t place h l =
    let S = startable c t in
    let f = cost c t in
    let y = get_or S place 0 in
    let A = take place S in
    let B = drop (place + 1) S in
    let cut : S ≡ A ++ y ∷ B = sym (take-append-drop place S) ∙ ap (λ xs. A ++ xs) (drop_more S place 0 l) in
    let own : get_or (map f S) place 0 ≡ f y = get_or-map f S place 0 0 l in
    let front : AllByRecursion (λ x. f y < f x) A = every_mapped
    f (λ n. f y < n) A (subst (λ ns. AllByRecursion (λ n. f y < n) ns) (take-map f place S) (subst (λ k. AllByRecursion
    (λ n. k < n) (take place (map f S))) own (recursion_from_All _ (take place (map f S)) h.first))) in
    let least : AllByRecursion (λ x. f y ≤ f x) S = every_mapped f (λ n. f y ≤ n) S
    (subst (λ k. AllByRecursion (λ n. k ≤ n) (map f S)) own (recursion_from_All _ (map f S) h.least)) in
    let back = (every_parts (λ x. f y ≤ f x) A (y ∷ B) (subst (AllByRecursion (λ x. f y ≤ f x)) cut least)).1.1 in
    let later = (pairs_middle ◌<◌ A y B (subst (Pairs ◌<◌) cut (startable_rise c t))).1 in
    let stays : ℕ → ℕ → Bool = λ z x. not (goes_before c t x z) in
    let none : AllByRecursion (λ x. stays y x ≡ true) (A ++ y ∷ B) = every_append (λ x. stays y x ≡ true) A (y ∷ B)
    (every_weaker (λ x. f y < f x) (λ x. stays y x ≡ true) (λ x q. ap not (not_cheaper c t x y q)) A front) (
      ap not (not_before c t y y (omega arith) (omega arith)),
      every_weaker (λ x. (f y ≤ f x) × (y < x)) (λ x. stays y x ≡ true) (λ x q. ap
          not (not_before c t x y q.0 (omega (arith, q.1)))) B (every_both (λ x. f y ≤ f x) (λ x. y < x) B back later),
    ) in
    let passed : list_all (stays y) S ≡ true = ap (list_all (stays y)) cut ∙ all_of (stays y) (A ++ y ∷ B) none in
    let fails : (z : ℕ)
    → f y < f z → list_all (stays z) S ≡ false = search (arith, list_all-append, not, is_before, and-false) in
    let p : ℕ → Bool = λ z. list_all (stays z) S in
    ap (find p) cut ∙ find_first p A y B (every_weaker (λ x. f y < f x) (λ x. p x ≡ false) fails A front) passed

module _ (c : Settings) (picks : List Choice → ℕ → Type 0) where
  -- a start that a sweeping picker may pick is the sweep's
  pub swept_pick : (t : Trace) (n : Name) → Sweeps picks → IsPick c picks t n → IsSwept c t n
  swept_pick t n w p = search (arith, length-map, swept_at, map_map)

  when_swept : (t : Trace) (o : Option Service) → Sweeps picks
      → WhenStarted (λ s. IsPick c picks t (service_name s)) o → WhenStarted (λ s. IsSwept c t (service_name s)) o
  when_swept t None w h = tt
  when_swept t (Some s) w h = λ starts. swept_pick t (service_name s) w (h starts)

  -- Where the picker sweeps, so does the run.
  pub sweeping : (t : Trace) → Sweeps picks → IsPicked c picks t → IsSweeping c t
  sweeping t w p i l = when_swept (take i t) (service_in (moment t i).1) w (p i l)
