-- A message by which a command comes: its number is new, and the controller gets it as it was read.
use Rattle.mscp_ported.proofs.Common.{Bool, First, Holdings, List, None, Record, Settings, Shape, Some, [], and_parts, ap, arith, class, command_of, cond, eqb-true, false, false≢true, handed, holds, is_formality, is_immediate_class, is_queued, le-ltb, length, list_any, list_any-append, ltb-false, nat_eq, next_named, none-some, not, num, numbers, or_parts, outstanding_of, refl, refusal, slice_index, stand_in, subst, sym, true, waiting_on, ℕ, ◌&&◌, ◌++◌, ◌∷◌, ◌≡◌, ◌≤◌}
use Rattle.std.specs.Prelude.{nat_lt}
use Rattle.std.specs.Prelude.{replicate, take}
use Rattle.mscp_controller.specs.declared.entry.SendFault.TheVariants as faults
use Rattle.mscp_ported.proofs.Kept.{is_numbered}

-- ---- its number is new

any_numbers : (n : ℕ) (rs : List Record)
    → list_any (λ x. nat_eq x n) (numbers (waiting_on First rs)) ≡ list_any (is_numbered n) rs
any_numbers n [] = refl
any_numbers n (r ∷ rs) = search (arith, any_numbers n rs, is_numbered n)

pub none_waits : {K : Type 0} (h : Holdings K) (n : ℕ) → holds (outstanding_of First h) n ≡ false
    → list_any (is_numbered n) h.waiting ≡ false
none_waits h n e = search (arith, any_numbers n h.waiting, list_any-append, or_parts)

not_refused : (short long none one held : Bool)
    → cond short (Some faults.Short) (cond long (Some faults.Long)
    (cond none (Some faults.NoCredit) (cond one (Some faults.LastCredit) (cond held (Some faults.Doubled) None))))
    ≡ None
    → (short ≡ false) × (held ≡ false)
not_refused short long none one held h5 = grind (arith, none-some)

pub taken_number : (balance : ℕ) (os b : List ℕ) → refusal balance os b ≡ None
    → (nat_lt (length b) 12 ≡ false) × (holds os (num b 0 4) ≡ false)
taken_number balance os b e = not_refused (nat_lt (length b) 12) (nat_lt 64 (length b)) (nat_eq balance 0)
    (nat_eq balance 1 && not (is_immediate_class (class (slice_index b 8)))) (holds os (num b 0 4)) e

-- ---- a command that is queued is the one that was read, but that a formality has its stand-in

pub handed_as_read : (c : Settings) (units : List Shape) (b : List ℕ) → is_formality (slice_index b 8) ≡ false
    → is_queued c (command_of (handed units b)) ≡ true → handed units b ≡ b
unfolding command_of
handed_as_read c units b plain q = search (arith, and_parts, eqb-true, false≢true, plain)

-- which is of the same number and unit
abbrev pub IsLike : List ℕ → List ℕ → Type 0
IsLike sent b = (num sent 0 4 ≡ num b 0 4) × (num sent 4 2 ≡ num b 4 2)

first_bytes : (b xs : List ℕ) → 8 ≤ length b → IsLike (take 8 b ++ xs) b
first_bytes (a ∷ b ∷ c ∷ d ∷ e ∷ f ∷ g ∷ h ∷ rest) xs long = (refl, refl)
first_bytes b xs long = search (arith, long)

pub handed_like : (c : Settings) (units : List Shape) (b : List ℕ) → 12 ≤ length b
    → is_queued c (command_of (handed units b)) ≡ true → IsLike (handed units b) b
handed_like c units b long q = by (is_formality (slice_index b 8)) refl
  where
    by : (x : Bool) → is_formality (slice_index b 8) ≡ x → IsLike (handed units b) b
    by true e = subst (λ s. IsLike s b)
        (sym (ap (λ y. cond y (stand_in b) (next_named units b)) e))
        (first_bytes b (16 ∷ replicate 23 0) (search (arith, long)))
    by false e = subst (λ s. IsLike s b) (sym (handed_as_read c units b e q)) (refl, refl)
