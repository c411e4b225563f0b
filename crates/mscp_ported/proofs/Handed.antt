-- A message as it is handed over to the controller, case by case.
use Rattle.mscp_ported.proofs.Common.{List, Shape, arith, asks_for_next, drop, false, handed, is_formality, length, little_bytes, num, refl, slice_index, stand_in, take, true, ℕ, ◌++◌, ◌∷◌, ◌≡◌, ◌≤◌}

-- another unit is named in it
abbrev pub renamed : List ℕ → ℕ → List ℕ
renamed b n = take 4 b ++ little_bytes 2 n ++ drop 6 b

pub handed_cases : (P : List ℕ → Type 0) (units : List Shape) (b : List ℕ)
    → (is_formality (slice_index b 8) ≡ true → P (stand_in b))
    → (is_formality (slice_index b 8) ≡ false → asks_for_next b ≡ true → (n : ℕ) → P (renamed b n))
    → (is_formality (slice_index b 8) ≡ false → P b) → P (handed units b)
handed_cases P units b formal next plain = grind arith

-- its other bytes are the same
pub renamed_byte : (b : List ℕ) (n : ℕ) → 12 ≤ length b → slice_index (renamed b n) 8 ≡ slice_index b 8
renamed_byte (a ∷ b ∷ c ∷ d ∷ e ∷ f ∷ g ∷ h ∷ i ∷ j ∷ k ∷ l ∷ rest) n long = refl
renamed_byte b n long = absurd (search (arith, long))

pub renamed_about : (b : List ℕ) (n : ℕ) → 12 ≤ length b → num (renamed b n) 12 4 ≡ num b 12 4
renamed_about (a ∷ b ∷ c ∷ d ∷ e ∷ f ∷ g ∷ h ∷ i ∷ j ∷ k ∷ l ∷ rest) n long = refl
renamed_about b n long = absurd (search (arith, long))

pub renamed_long : (b : List ℕ) (n : ℕ) → 16 ≤ length b → 16 ≤ length (renamed b n)
renamed_long (a ∷ b ∷ c ∷ d ∷ e ∷ f ∷ g ∷ h ∷ i ∷ j ∷ k ∷ l ∷ rest) n long = long
renamed_long b n long = search (arith, long)
