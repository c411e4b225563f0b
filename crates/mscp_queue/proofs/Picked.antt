-- Where each may pass those in front of it, the first of the cheapest starts is what the sweep picks of the view.
use Rattle.mscp_queue.proofs.Basics.{◌≡◌, ℕ, ◌+◌, ◌<◌, ◌≤◌, Bool, true, cond, ◌&&◌, List, [], ◌∷◌, ◌++◌, map, take, drop, get_or, length, refl, ap, sym, ◌∙◌, subst, arith, filter, filter-append, AllByRecursion, All-from_recursion, range_with_len, get_or_at, length-append, length-map, length-range_with_len, map-append, map_map, cut_at, every_weaker, every_parts, range_below, Command, Drive, Record, record_at, drive_at, choice_of, is_open_at, open_places}
use Rattle.mscp_queue.proofs.Lists.{every_both, every_filter, pairs_filter, pairs_middle, pairs_range}
use Rattle.mscp_queue.proofs.Common.{get_or-range_with_len, take_at, Pairs, IsClear, IsFirstOf, IsSweep, MayAllPass, commands, cost_of, costs, is_clear, view_of}
use Rattle.mscp_queue.proofs.Favored.{clear_is, command_is}

mapped_every : {X Y : Type 0} (P : Y → Type 0) (f : X → Y) (xs : List X) → AllByRecursion (λ x. P (f x)) xs
    → AllByRecursion P (map f xs)
mapped_every P f [] h = tt
mapped_every P f (x ∷ xs) h = (h.0, mapped_every P f xs h.1)

and_true : (a b : Bool) → b ≡ true → (a && b) ≡ a
and_true a b e = grind arith

module _ (budget : ℕ) (ds : List Drive) (rs : List Record) (may : MayAllPass budget rs) where
  abbrev cs : List Command
  cs = commands rs

  many : length cs ≡ length rs
  many = length-map rs (λ (r : Record). r.command)

  open_is : (place : ℕ) → place < length rs → is_open_at budget rs place ≡ is_clear cs place
  open_is place l = grind (arith, and_true, clear_is)

  -- what a picker sees that the start at a place costs
  abbrev C : ℕ → ℕ
  C place = (choice_of (drive_at ds rs place) (record_at rs place)).cost

  cost_same : (place : ℕ) → place < length rs → C place ≡ cost_of ds cs place
  cost_same place l = grind (arith, command_is)

  module _ (place : ℕ) (h : IsFirstOf ds cs place) where
    inside : place < length rs
    inside = let l = h.is.inside in omega (arith, l, many)

    abbrev all : List ℕ
    all = range_with_len 0 (length rs)

    abbrev A : List ℕ
    A = filter (is_open_at budget rs) (take place all)

    abbrev B : List ℕ
    B = filter (is_open_at budget rs) (drop (place + 1) all)

    cut : open_places budget rs ≡ A ++ place ∷ B
    cut =
        let zero_plus : 0 + place ≡ place = omega arith in
        let here : get_or all place 0 ≡ place = get_or-range_with_len 0 (length rs) place 0 inside ∙ zero_plus in
        ap (filter (is_open_at budget rs)) (cut_at 0 all place (omega (arith, inside, length-range_with_len)))
        ∙ (filter-append (is_open_at budget rs) (take place all) (get_or all place 0 ∷ drop (place + 1) all)
        ∙ (λ i. A ++ (cond (is_open_at budget rs (here i)) (here i ∷ B) B))
        ∙ ap (λ b. A ++ cond b (place ∷ B) B) (open_is place inside ∙ h.is.clear))

    -- each of those places is of a command that nobody keeps back
    each_clear : AllByRecursion (IsClear cs) (A ++ place ∷ B)
    each_clear = grind (arith, cut, every_weaker, every_filter, range_below, many, open_is)

    -- and those in front stand before it
    in_front : AllByRecursion (λ k. k < place) A
    in_front = (pairs_middle ◌<◌ A place B (subst (Pairs ◌<◌) cut
        (pairs_filter ◌<◌ (is_open_at budget rs) all (pairs_range 0 (length rs))))).0

    below : (k : ℕ) → IsClear cs k → k < length rs
    below k x = let l = x.inside in omega (arith, l, many)

    numbers : costs (view_of budget ds rs) ≡ map C A ++ C place ∷ map C B
    numbers = grind (arith, map_map, cut, map-append)

    least : (k : ℕ) → IsClear cs k → C place ≤ C k
    least k x = grind (arith, cost_same, below, inside)

    less : (k : ℕ) → IsClear cs k → k < place → C place < C k
    less k x b = grind (arith, cost_same, below, inside)

    pub swept : IsSweep (view_of budget ds rs) (length A)
    swept =
        let long : length (map C A) ≡ length A = length-map A C in
        let at : get_or (costs (view_of budget ds rs)) (length A) 0 ≡ C place =
        ap (λ ns. get_or ns (length A) 0) numbers ∙ get_or_at (map C A) (C place) (map C B) 0 (length A) long in
        let front = every_both (IsClear cs) (λ k. k < place) A (every_parts (IsClear cs) A (place ∷ B) each_clear).0
        in_front in
        record {
          inside = omega (arith, ap length numbers, length-append (map C A) (C place ∷ map C B), long);
          least = All-from_recursion _ _ (subst (λ n. AllByRecursion (λ m. n ≤ m) (costs (view_of budget ds rs)))
              (sym at)
              (subst (AllByRecursion (λ m. C place ≤ m)) (sym numbers ∙ refl)
              (subst (AllByRecursion (λ m. C place ≤ m)) (map-append C A (place ∷ B))
              (mapped_every (λ m. C place ≤ m) C (A ++ place ∷ B)
              (every_weaker (IsClear cs) (λ k. C place ≤ C k) least (A ++ place ∷ B) each_clear)))));
          first = All-from_recursion _ _ (subst (λ n. AllByRecursion (λ m. n < m) (take (length A) (costs
              (view_of budget ds rs)))) (sym at)
              (subst (AllByRecursion (λ m. C place < m)) (sym (ap (take (length A)) numbers
              ∙ take_at (map C A) (C place ∷ map C B) (length A) long))
              (mapped_every (λ m. C place < m) C A (every_weaker (λ k. IsClear cs k × (k < place)) (λ k. C place < C k)
              (λ k x. less k x.0 x.1) A front))));
        }

    pub picked : (i : ℕ) × (i < length (open_places budget rs)) × (get_or (open_places budget rs) i 0 ≡ place)
        × IsSweep (view_of budget ds rs) i
    picked = grind (arith, cut, length-append, get_or_at, swept)

    pub place_inside : place < length rs
    place_inside = inside
