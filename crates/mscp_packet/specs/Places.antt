-- The named places of a message.
use Rattle.std.specs.Prelude.{◌≡◌, ℕ, ◌+◌, ◌<◌, Bool, false, ◌&&◌, ◌||◌, nat_le, nat_lt, List, [], ◌∷◌, length, slice_index}

-- a field's first place, and in how many bytes it stands
pub record Field : Type 0 where
  pub first : ℕ
  pub count : ℕ

abbrev pub field : ℕ → ℕ → Field
field first count = record { first = first; count = count }

-- a place is in one of the fields
abbrev pub is_named : List Field → ℕ → Bool
is_named [] place = false
is_named (f ∷ fs) place = (nat_le f.first place && nat_lt place (f.first + f.count)) || is_named fs place

-- the message is zero at every place that is in no field
pub record IsZeroBeside (fields : List Field) (b : List ℕ) : Type 0 where
  pub zero : (place : ℕ) → place < length b → is_named fields place ≡ false → slice_index b place ≡ 0
