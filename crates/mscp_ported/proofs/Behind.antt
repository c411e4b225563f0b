-- An ABORT stands behind the command that it names.
use Rattle.mscp_ported.proofs.Common.{Bool, List, Opcode, Option, Shape, [], and_parts, ap, arith, asks_for_next, command_of, cond, eq-eqb, eqb-true, false, false≢true, filter, found_is, handed, has_number, length, list_any, nat_eq, nat_lt, not, num, opcode_of, order_with, refl, slice_index, stand_in, sym, true, ℕ, ◌&&◌, ◌++◌, ◌||◌, ◌∙◌, ◌∷◌, ◌≡◌}
use Rattle.std.specs.Prelude.{◌≤◌, nat_le}
use Rattle.mscp_packet.specs.declared.command.Order.TheVariants as orders
use Rattle.mscp_ported.proofs.Handed.{handed_cases, renamed, renamed_byte}
use Rattle.mscp_ported.proofs.Numbered.{other_number, some_none}

-- ---- the messages

-- an ABORT of number m of the command n
abbrev pub is_abort : ℕ → ℕ → List ℕ → Bool
is_abort n m t =
    has_number m t && nat_eq (slice_index t 8) 1 && nat_le 16 (length t) && nat_eq (num t 12 4) n

-- one stands behind the first message of that command's number
abbrev pub aborts_behind : ℕ → ℕ → List (List ℕ) → Bool
aborts_behind n m [] = false
aborts_behind n m (t ∷ ts) = cond (has_number n t) (list_any (is_abort n m) ts) (aborts_behind n m ts)

module _ {X : Type 0} (f : X → Bool) where
  pub any_more : (xs ys : List X) → list_any f xs ≡ true → list_any f (xs ++ ys) ≡ true
  any_more [] ys e = absurd (false≢true e)
  any_more (x ∷ xs) ys e = grind (arith, any_more xs ys)

  pub any_last : (xs : List X) (x : X) → f x ≡ true → list_any f (xs ++ x ∷ []) ≡ true
  any_last [] x e = ap (λ b. (b || false)) e
  any_last (y ∷ xs) x e = grind (arith, any_last xs x e)

  any_left : (keep : X → Bool) → ((x : X) → f x ≡ true → keep x ≡ true) → (xs : List X) → list_any f xs ≡ true
      → list_any f (filter keep xs) ≡ true
  any_left keep kept [] e = e
  any_left keep kept (x ∷ xs) e = grind (arith, any_left keep kept xs, kept x, false≢true)

  pub any_none : (xs : List X) → filter f xs ≡ [] → list_any f xs ≡ true → ⊥
  any_none [] none e = false≢true e
  any_none (x ∷ xs) none e = grind (arith, any_none xs)

module _ (n m : ℕ) where
  pub aborts_more : (ts us : List (List ℕ)) → aborts_behind n m ts ≡ true → aborts_behind n m (ts ++ us) ≡ true
  aborts_more [] us e = absurd (false≢true e)
  aborts_more (t ∷ ts) us e = grind (arith, aborts_more ts us, any_more (is_abort n m) ts us)

  pub aborts_come : (ts : List (List ℕ)) (x t : List ℕ) → filter (has_number n) ts ≡ x ∷ [] → is_abort n m t ≡ true
      → aborts_behind n m (ts ++ t ∷ []) ≡ true
  aborts_come [] x t e is = absurd (some_none x [] (sym e))
  aborts_come (y ∷ ts) x t e is = grind (arith, aborts_come ts x t, any_last (is_abort n m) ts t is)

  pub aborts_left : (k : ℕ) → nat_eq k n ≡ false → nat_eq k m ≡ false → (ts : List (List ℕ))
      → aborts_behind n m ts ≡ true → aborts_behind n m (filter (λ t. not (has_number k t)) ts) ≡ true
  aborts_left k apart other [] e = e
  aborts_left k apart other (t ∷ ts) e =
      grind (arith, aborts_left k apart other ts, other_number, nat_eq, false≢true, eq-eqb, eqb-true, any_left)

-- ---- the message of an ABORT

pub record AsksAbort (n : ℕ) (b : List ℕ) : Type 0 where
  pub opcode : slice_index b 8 ≡ 1
  pub long : nat_le 16 (length b) ≡ true
  pub about : num b 12 4 ≡ n

abort_with : (o : Option Opcode) (b : List ℕ) (n : ℕ) → opcode_of (slice_index b 8) ≡ o
    → order_with o b ≡ orders.Abort n → AsksAbort n b
abort_with o b n is e = grind (arith, nat_lt, eqb-true, found_is, nat_eq)

abort_command : (b : List ℕ) (n : ℕ) → (command_of b).order ≡ orders.Abort n → AsksAbort n b
unfolding command_of
abort_command b n e = abort_with (opcode_of (slice_index b 8)) b n refl e

-- neither what stands in for a formality nor a message that another unit is named in
no_abort : (b : List ℕ) (n : ℕ) → 12 ≤ length b → (command_of (stand_in b)).order ≡ orders.Abort n → ⊥
unfolding command_of
no_abort (a ∷ b ∷ c ∷ d ∷ e ∷ f ∷ g ∷ h ∷ rest) n long is = search (arith, is)
no_abort b n long is = search (arith, long)

pub handed_abort : (units : List Shape) (b : List ℕ) (n : ℕ) → 12 ≤ length b
    → (command_of (handed units b)).order ≡ orders.Abort n → AsksAbort n b
handed_abort units b n long e = handed_cases (λ x. (command_of x).order ≡ orders.Abort n → AsksAbort n b) units b
    (λ formal h. absurd (no_abort b n long h))
    (λ plain asks m h. absurd (search (
      arith,
      sym (third asks) ∙ sym (renamed_byte b m long) ∙ (abort_command (renamed b m) n h).opcode,
    )))
    (λ plain h. abort_command b n h) e
  where
    third : asks_for_next b ≡ true → slice_index b 8 ≡ 3
    third h = eqb-true (slice_index b 8) 3 (and_parts (nat_eq (slice_index b 8) 3) _ h).0

-- it is one of its own number
pub is_abort_of : (n : ℕ) (b : List ℕ) → AsksAbort n b → is_abort n (num b 0 4) b ≡ true
is_abort_of n b a = grind (arith, nat_eq, eq-eqb)
