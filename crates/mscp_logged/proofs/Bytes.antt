-- A message as it is handed over says what it says itself, but for its unit.
use Rattle.mscp_logged.proofs.Common.{AreBytes, Bool, First, IsLong, IsText, List, Order, Says, Sent, Shape, arith, asks_for_next, command_of, cond, drop, endcode, false, handed, is_formality, length, little_bytes, next_unit, num, sent_by, sent_long, sent_says, slice_index, suc, take, true, zero, ℕ, ◌%◌, ◌++◌, ◌/◌, ◌<◌, ◌^◌, ◌∷◌, ◌≡◌, ◌≤◌}

-- the command of a message, of which this is the unit
abbrev pub of_unit : List ℕ → ℕ → Sent
of_unit t unit = record (sent_by First t) { unit = unit }

-- ---- the unit doesn't matter

says_any : (o : Order) (t : List ℕ) (one other : ℕ) → Says o (of_unit t one) → Says o (of_unit t other)
says_any order t one other h = grind arith

long_any : (o : Order) (t : List ℕ) (one other : ℕ) → IsLong o (of_unit t one) → IsLong o (of_unit t other)
long_any order t one other h = grind arith

-- ---- another unit is named

abbrev renamed : List ℕ → ℕ → List ℕ
renamed t n = take 4 t ++ little_bytes 2 n ++ drop 6 t

low_byte : (n : ℕ) → n % 256 < 256
low_byte n = omega arith

renamed_byte : (a b c d e f n : ℕ) (rest : List ℕ)
    → ((i : ℕ) → slice_index (a ∷ b ∷ c ∷ d ∷ e ∷ f ∷ rest) i < 256)
    → (i : ℕ) → slice_index (a ∷ b ∷ c ∷ d ∷ n % 256 ∷ n / 256 % 256 ∷ rest) i < 256
renamed_byte a b c d e f n rest h zero = h 0
renamed_byte a b c d e f n rest h (suc zero) = h 1
renamed_byte a b c d e f n rest h (suc (suc zero)) = h 2
renamed_byte a b c d e f n rest h (suc (suc (suc zero))) = h 3
renamed_byte a b c d e f n rest h (suc (suc (suc (suc zero)))) = low_byte n
renamed_byte a b c d e f n rest h (suc (suc (suc (suc (suc zero))))) = low_byte (n / 256)
renamed_byte a b c d e f n rest h (suc (suc (suc (suc (suc (suc i)))))) = h (suc (suc (suc (suc (suc (suc i))))))

renamed_bytes : (t : List ℕ) (n : ℕ) → 12 ≤ length t → ((i : ℕ) → slice_index t i < 256) → (i : ℕ)
    → slice_index (renamed t n) i < 256
renamed_bytes (a ∷ b ∷ c ∷ d ∷ e ∷ f ∷ rest) n long h i = renamed_byte a b c d e f n rest h i
renamed_bytes t n long h i = absurd (search (arith, long))

-- ---- what is handed over

module _ (units : List Shape) (t : List ℕ) (is : IsText t) (plain : is_formality (slice_index t 8) ≡ false) where
  abbrev b : List ℕ
  b = handed units t

  handed_same : sent_by First b ≡ of_unit t (num b 4 2)
  handed_same = grind arith

  pub handed_bytes : AreBytes b
  handed_bytes = rw plain (by (asks_for_next t))
    where
      by : (c : Bool) → AreBytes (cond c (renamed t (next_unit units (num t 4 2))) t)
      by true i low = renamed_bytes t (next_unit units (num t 4 2)) is.long is.small i
      by false i low = is.small i

  pub handed_says : (unit : ℕ) → Says (command_of b).order (of_unit t unit)
  handed_says unit = says_any (command_of b).order t (num b 4 2) unit (rw (← handed_same) (sent_says First b))

  pub handed_long : (unit : ℕ) → IsLong (command_of b).order (of_unit t unit)
  handed_long unit = long_any (command_of b).order t (num b 4 2) unit (rw (← handed_same) (sent_long First b))

-- what stands in for a formality has the endcode of an ACCESS
pub stood_code : (units : List Shape) (t : List ℕ) → 12 ≤ length t → is_formality (slice_index t 8) ≡ true
    → endcode (command_of (handed units t)).order ≡ 0x90
unfolding command_of
stood_code units t long formal = grind arith

-- ---- the unit of a message as it is handed over

pub handed_small : (units : List Shape) (b : List ℕ) → 12 ≤ length b → ((i : ℕ) → slice_index b i < 2 ^ 8)
    → (command_of (handed units b)).unit < 2 ^ 16
unfolding command_of
handed_small units b long small = grind arith
