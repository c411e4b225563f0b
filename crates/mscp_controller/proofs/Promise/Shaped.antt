-- Each end that a legal trace makes has the body of its endcode.
use Rattle.mscp_controller.proofs.Common.{ℕ, zero, suc, ◌+◌, ◌<◌, List, [], ◌∷◌, map, length, take, arith, flat_map, All, option_to_list, AllByRecursion, range_with_len, eqb-true, flat_map-cons, All-from_recursion, command_of, IsOfKind, Block, IsCoded, aborted_end, aborted_kind, ended_kind, refused_kind, every_append, found_is, Connection, Settings, Moment, Trace, moment, positions, collect, sent_bytes, command, good, answer, ends_at, outcome, ends, IsLegal, IsRight, end_of}

-- ---- what a message asks for has an endcode
-- a message that is too short has the endcode of its opcode
pub coded : (b : List ℕ) → IsCoded (command_of b).order
unfolding command_of
coded b = grind (arith, eqb-true, found_is)

command_coded : (t : Trace) (x : ℕ) → IsCoded (command t x).order
unfolding command
command_coded t x = coded (sent_bytes (moment t x).0)

-- ---- the ends of a moment
aborted_kinds : (t : Trace) (xs : List ℕ) → AllByRecursion IsOfKind (map (λ x. aborted_end (command t x) (good t x)) xs)
aborted_kinds t [] = tt
aborted_kinds t (x ∷ xs) = (aborted_kind (command t x) (good t x) (command_coded t x), aborted_kinds t xs)

answer_kinds : (c : Settings) (via : Connection) (t : Trace) (b : List ℕ) → AllByRecursion IsOfKind (answer c via t b)
unfolding answer
answer_kinds c via t b = grind (arith, every_append, aborted_kinds, coded, refused_kind)

outcome_kind : (c : Settings) (t : Trace) (k : Block) (y : ℕ) → IsOfKind (outcome c t k y)
unfolding outcome
outcome_kind c t k y = grind (arith, ended_kind, command_coded)

end_kinds : (c : Settings) (t : Trace) (k : Block) (y : ℕ) → AllByRecursion IsOfKind (option_to_list (end_of c t k y))
end_kinds c t k y = search (arith, outcome_kind c t k y)

moment_kinds : (c : Settings) (via : Connection) (t : Trace) (m : Moment) → IsRight c t m.0 m.1
    → AllByRecursion IsOfKind (ends_at c via t m)
moment_kinds c via t m h4 = grind (arith, end_kinds, every_append, answer_kinds)

-- ---- all ends
every_flat : {X A : Type 0} (P : A → Type 0) (f : X → List A)
    → (xs : List X) → AllByRecursion (λ x. AllByRecursion P (f x)) xs → AllByRecursion P (flat_map f xs)
every_flat P f [] h = tt
every_flat P f (x ∷ xs) h = grind (arith, every_flat P f xs h.1, flat_map-cons, every_append)

every_range : (P : ℕ → Type 0) (a n : ℕ) → ((i : ℕ) → i < a + n → P i) → AllByRecursion P (range_with_len a n)
every_range P a zero h = tt
every_range P a (suc n) h = (h a (omega arith), every_range P (a + 1) n (λ i q. h i (omega (arith, q))))

pub shaped : (c : Settings) (via : Connection) (t : Trace) → IsLegal c t → All IsOfKind (ends c via t)
unfolding ends collect
shaped c via t l = All-from_recursion IsOfKind (ends c via t) (every_flat IsOfKind (λ i. ends_at c via (take i t)
    (moment t i)) (positions t) (every_range (λ i. AllByRecursion IsOfKind (ends_at c via (take i t) (moment t i)))
    0 (length t) (λ i q. moment_kinds c via (take i t) (moment t i) (l i (omega (arith, q))))))
