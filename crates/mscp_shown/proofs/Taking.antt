-- An end that a host takes, as the rules of the wire read it.
use Rattle.mscp_shown.proofs.Common.{AreBytes, ArrayVec, BodyKind, End, IsOfKind, List, None, Option, Some, [], ap, arith, cases_lt, end_bytes, end_length, four, get_or_past, is_long, kind_of_body, kind_of_code, least_end, length, length_span, num, option_map, refl, slice_get, slice_index, true, ℕ, ⊎_elim, ◌+◌, ◌<◌, ◌^◌, ◌∷◌, ◌≡◌}
use Rattle.mscp_packet.specs.Ends.{least_with}

-- ---- numbers
byte_at : (b : List ℕ) → AreBytes b → (i : ℕ) → slice_index b i < 256
byte_at b h i = ⊎_elim (λ low. h i low) (λ past. omega (arith, get_or_past b i 0 past)) (cases_lt i (length b))

-- the number in four bytes, or in two
pub four_small : (b : List ℕ) → AreBytes b → (i : ℕ) → num b i 4 < 2 ^ 32
four_small b h i = omega (arith, byte_at b h (i + 0), byte_at b h (i + 1), byte_at b h (i + 2), byte_at b h (i + 3))

pub two_small : (b : List ℕ) → AreBytes b → (i : ℕ) → num b i 2 < 2 ^ 16
two_small b h i = omega (arith, byte_at b h (i + 0), byte_at b h (i + 1))

pub reference_read : (e : End) → e.reference < 2 ^ 32 → num (end_bytes e) 0 4 ≡ e.reference
reference_read e h = four e.reference h

-- ---- lengths
some_value : {X : Type 0} → X → Option X → X
some_value d None = d
some_value d (Some x) = x

least_is : (code : ℕ) (kind : BodyKind) → kind_of_code code ≡ Some kind → least_end code ≡ end_length kind
least_is code kind h = ap least_with h

length_is : (e : End) → length (end_bytes e) ≡ end_length (kind_of_body e.body)
length_is e = search arith

-- an end whose body is of the shape of its endcode is as long as that asks
pub long_end : (e : End) → IsOfKind e → is_long (end_bytes e) ≡ true
long_end e kind = grind (arith, least_is, length_span, length_is)

-- ---- who takes it
-- what is taken is the first of these ends
pub record Takes (us : List End) (b : ArrayVec ℕ) (e : End) (rest : List End) : Type 0 where
  pub is : us ≡ e ∷ rest
  pub bytes : b ≡ record { items = end_bytes e }

pub first_taken : (us : List End) (b : ArrayVec ℕ)
    → Some b ≡ option_map (λ e. record { items = end_bytes e }) (slice_get us 0)
    → (e : End) × (rest : List End) × Takes us b e rest
unfolding some_value
first_taken [] b h = cc
first_taken (e ∷ rest) b h = (e, rest, record { is = refl; bytes = ap (some_value b) h })
