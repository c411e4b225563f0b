-- The commands that wait have different names.
use Rattle.mscp_controller.proofs.Common.{◌≡◌, ◌≢◌, ℕ, ◌<◌, Bool, true, false, cond, List, [], ◌∷◌, ◌++◌, map, length, refl, sym, ◌∙◌, append-nil, arith, nat_eq, filter, AllByRecursion, or_parts, eqb-false, true≢false, Settings, command_of, holds, Trace, Moment, connection_of, queues, sent_bytes, name, waiting, outstanding, IsRight, Name, name_on, Pairs, own_side, every_kept, every_weaker, pairs_filter, pairs_append}
use Rattle.mscp_controller.proofs.Promise.Grows.{command_last, connection_last, name_before, waiting_more}
use Rattle.mscp_controller.proofs.Promise.Waits.{waiting_below}
use Rattle.mscp_controller.proofs.Promise.Arrivals.{queued_right}

abbrev pub Apart : Trace → List ℕ → Type 0
Apart t xs = Pairs (λ x y. name t x ≢ name t y) xs

-- the name of what a moment queues
abbrev pub queued_name : Moment → Name
queued_name m = name_on (connection_of m.0) (command_of (sent_bytes m.0)).reference

pub name_last : (t : Trace) (m : Moment) → name (t ++ m ∷ []) (length t) ≡ queued_name m
name_last t m = λ i. name_on (connection_last t m i) (command_last t m i).reference

module _ (t : Trace) (m : Moment) where
  apart_from : (x : ℕ) (xs : List ℕ) → x < length t → AllByRecursion (λ y. y < length t) xs → AllByRecursion (λ y. name
      t x ≢ name t y) xs → AllByRecursion (λ y. name (t ++ m ∷ []) x ≢ name (t ++ m ∷ []) y) xs
  apart_from x [] l h a = tt
  apart_from x (y ∷ ys) l h a = search (arith, name_before t m x l, name_before t m y h.0, apart_from x ys l h.1 a.1)

  apart_along : (xs : List ℕ) → AllByRecursion (λ x. x < length t) xs → Apart t xs → Apart (t ++ m ∷ []) xs
  apart_along [] h a = tt
  apart_along (x ∷ xs) h a = (apart_from x xs h.0 h.1 a.0, apart_along xs h.1 a.1)

not_held : (f : ℕ → ℕ) (xs us : List ℕ) (q : ℕ) → holds (map f xs ++ us) q ≡ false → AllByRecursion (λ x. f x ≢ q) xs
not_held f [] us q h = tt
not_held f (x ∷ xs) us q h = let p = or_parts (nat_eq (f x) q) (holds (map f xs ++ us) q) h in
    (eqb-false (f x) q p.0, not_held f xs us q p.1)

new_apart : (t : Trace) (m : Moment) (xs : List ℕ) → AllByRecursion (λ x. x < length t) xs → AllByRecursion (λ x. name
    t x ≢ queued_name m) xs → AllByRecursion (λ x. name (t ++ m ∷ []) x ≢ name (t ++ m ∷ []) (length t)) xs
new_apart t m [] h a = tt
new_apart t m (x ∷ xs) h a = search (arith, name_before t m x h.0, name_last t m, new_apart t m xs h.1 a.1)

-- what holds of each that passes a test
each_passed : (P : ℕ → Type 0) (p : ℕ → Bool) (xs : List ℕ)
    → AllByRecursion P (filter p xs) → AllByRecursion (λ x. p x ≡ true → P x) xs
each_passed P p [] h = tt
each_passed P p (x ∷ xs) h =
    let both : (b : Bool) → p x ≡ b → AllByRecursion P (cond b (x ∷ filter p xs) (filter p xs))
    → AllByRecursion (λ x. p x ≡ true → P x) (x ∷ xs) = λ b. elim b as (λ b. p x
    ≡ b → AllByRecursion P (cond b (x ∷ filter p xs) (filter p xs)) → AllByRecursion (λ x. p x ≡ true → P x) (x ∷ xs)) [
      | true ↦ λ e k. ((λ q. k.0), each_passed P p xs k.1)
      | false ↦ λ e k. ((λ q. absurd (true≢false (sym q ∙ e))), each_passed P p xs k)
    ] in
    both (p x) refl h

module _ (c : Settings) (t : Trace) (m : Moment) (r : IsRight c t m.0 m.1) where
  -- a queued command has a new name
  pub new_name : queues m.1 ≡ true → AllByRecursion (λ x. name t x ≢ queued_name m) (waiting t)
  unfolding outstanding command_of
  new_name q = search (arith, queued_right c t m.0 m.1 q r, every_weaker, own_side, each_passed, not_held)

  -- A legal moment keeps the names apart.
  pub apart_more : Apart t (waiting t) → Apart (t ++ m ∷ []) (waiting (t ++ m ∷ []))
  apart_more a = search (
    arith,
    waiting_below t,
    waiting_more,
    every_kept,
    apart_along,
    pairs_filter,
    pairs_append,
    new_apart,
    new_name,
    append-nil,
  )
