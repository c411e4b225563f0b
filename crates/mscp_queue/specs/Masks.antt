-- Masks of slots, and the order of arrival as a list of slot numbers. Bit k of a mask stands for slot k.
use Rattle.std.specs.Prelude.{◌≡◌, ◌≢◌, ◌⊎◌, ℕ, slice_index_or, ◌<◌, ◌-◌, min, ◌&&◌, ◌||◌, if◌then◌else◌, bit_and, cond, nat_eq, Bool, true, false, List, [], ◌∷◌, ◌++◌}
use Rattle.std.specs.Int.{bit_at}
use Rattle.mscp_queue.specs.declared.masks.Masks.{Masks}

-- the slot is among these
abbrev pub has : ℕ → List ℕ → Bool
has k [] = false
has k (s ∷ order) = nat_eq k s || has k order

-- the number of a test
abbrev pub bit : Bool → ℕ
bit b = cond b 1 0

-- the bits of the mask are those of the slots that pass the test
abbrev pub IsMaskOf : ℕ → (ℕ → Bool) → Type 0
IsMaskOf m test = (k : ℕ) → k < 64 → bit_at m k ≡ bit (test k)

-- the bits of a mask with that of slot n set, or cleared
abbrev pub IsSet : Bool → ℕ → ℕ → ℕ → Type 0
IsSet on n old new = (k : ℕ) → k < 64 → bit_at new k ≡ cond (nat_eq k n) (cond on 1 0) (bit_at old k)

-- the place is free, and all below it are taken
pub record IsLowestFree (m p : ℕ) : Type 0 where
  pub low : p < 64
  pub free : bit_at m p ≡ 0
  pub taken : (k : ℕ) → k < p → bit_at m k ≡ 1

-- each slot has a mask of those in front of it, and `front` are in front of them all
abbrev pub AreEarlier : (ℕ → ℕ) → List ℕ → List ℕ → Type 0
AreEarlier earlier front [] = Unit {0}
AreEarlier earlier front (s ∷ order) = IsMaskOf (earlier s) (λ k. has k front)
    × AreEarlier earlier (front ++ s ∷ []) order

-- each slot stands once, and below 64
abbrev pub AreSlots : List ℕ → Type 0
AreSlots [] = Unit {0}
AreSlots (s ∷ order) = (s < 64) × (has s order ≡ false) × AreSlots order

-- mask u has the slots whose commands are of class u
abbrev pub AreClasses : (ℕ → ℕ) → List ℕ → List ℕ → Type 0
AreClasses class order masks = (u : ℕ) → IsMaskOf (slice_index_or masks u 0) (λ k. has k order && nat_eq (class k) u)

-- what masks tell of a slot: the place of its command's drive, and whether the command is sequential
pub record Kind : Type 0 where
  pub drive : ℕ
  pub sequential : Bool

-- what the masks say of the slots, which are taken in this order
pub record AreMasks (kinds : ℕ → Kind) (order : List ℕ) (m : Masks) : Type 0 where
  pub apart : AreSlots order
  pub of_waiting : IsMaskOf m.waiting (λ k. has k order)
  pub of_sequential : IsMaskOf m.sequential (λ k. has k order && (kinds k).sequential)
  pub of_units : AreClasses (λ k. (kinds k).drive) order m.units
  pub of_earlier : AreEarlier (λ k. slice_index_or m.earlier k 0) [] order

-- the bits of slot n are set in the masks that a command belongs to, and all that wait are in front of it
pub record HasCome (n drive : ℕ) (sequential : Bool) (old new : Masks) : Type 0 where
  pub waits : IsSet true n old.waiting new.waiting
  pub ordered : IsSet sequential n old.sequential new.sequential
  pub units : (u : ℕ) → u ≢ drive → slice_index_or new.units u 0 ≡ slice_index_or old.units u 0
  pub own : IsSet true n (slice_index_or old.units drive 0) (slice_index_or new.units drive 0)
  pub others : (k : ℕ) → k ≢ n → slice_index_or new.earlier k 0 ≡ slice_index_or old.earlier k 0
  pub earlier : slice_index_or new.earlier n 0 ≡ old.waiting

-- the bit of slot n is cleared in the masks that its command belongs to, and in the mask of each that waits
pub record HasLeft (n drive : ℕ) (old new : Masks) : Type 0 where
  pub waits : IsSet false n old.waiting new.waiting
  pub ordered : IsSet false n old.sequential new.sequential
  pub units : (u : ℕ) → u ≢ drive → slice_index_or new.units u 0 ≡ slice_index_or old.units u 0
  pub own : IsSet false n (slice_index_or old.units drive 0) (slice_index_or new.units drive 0)
  pub earlier : (k : ℕ) → bit_at new.waiting k ≡ 1
      → IsSet false n (slice_index_or old.earlier k 0) (slice_index_or new.earlier k 0)

-- the slots in front of one that keep its command back, which is to the unit of this drive: for a sequential command
-- those
-- of its unit in front, and for a transfer the sequential ones of them
abbrev pub fences : Masks → ℕ → ℕ → Bool → ℕ
fences m n drive sequential =
    if sequential then bit_and (slice_index_or m.earlier n 0) (slice_index_or m.units drive 0)
    else bit_and (bit_and (slice_index_or m.earlier n 0) (slice_index_or m.units drive 0)) m.sequential

-- the command in front keeps the one behind it back: it is of the same unit, and one of them is sequential
abbrev pub keeps_back : Kind → Kind → Bool
keeps_back before after = nat_eq before.drive after.drive && (before.sequential || after.sequential)

-- a mask of the slots whose commands came later than that of slot n
abbrev pub IsBehind : ℕ → Masks → ℕ → Type 0
IsBehind n m behind = (k : ℕ) → k < 64 → bit_at behind k
    ≡ cond (nat_eq k n) 0 (min (bit_at m.waiting k) (1 - bit_at (slice_index_or m.earlier n 0) k))

-- the command of slot k is to the unit of this drive, and came before each sequential one of the unit, or is it
pub record IsInFront (drive : ℕ) (m : Masks) (k : ℕ) : Type 0 where
  pub unit : bit_at (slice_index_or m.units drive 0) k ≡ 1
  pub each : (s : ℕ) → s < 64 → bit_at (slice_index_or m.units drive 0) s ≡ 1 → bit_at m.sequential s ≡ 1 → s ≢ k
      → bit_at (slice_index_or m.earlier s 0) k ≡ 1

-- the bits of the mask are those of such slots
pub record IsNarrowed (drive : ℕ) (m : Masks) (mask : ℕ) : Type 0 where
  pub to : (k : ℕ) → k < 64 → bit_at mask k ≡ 1 → IsInFront drive m k
  pub from : (k : ℕ) → k < 64 → IsInFront drive m k → bit_at mask k ≡ 1

-- each such slot is of a sequential command
abbrev pub IsFence : ℕ → Masks → Type 0
IsFence drive m = (j : ℕ) → j < 64 → IsInFront drive m j → bit_at m.sequential j ≡ 1

-- the bits of the mask are those of such slots, and of these the transfers, if there is one
pub record IsFront (drive : ℕ) (m : Masks) (mask : ℕ) : Type 0 where
  pub to : (k : ℕ) → k < 64 → bit_at mask k ≡ 1 → IsInFront drive m k × (bit_at m.sequential k ≡ 1 → IsFence drive m)
  pub from : (k : ℕ) → k < 64 → IsInFront drive m k → (bit_at m.sequential k ≡ 0) ⊎ IsFence drive m → bit_at mask k ≡ 1
