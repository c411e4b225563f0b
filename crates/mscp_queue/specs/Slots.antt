-- What the slots show: the waiting commands in order of arrival.
use Rattle.std.specs.Prelude.{◌≡◌, ℕ, ◌<◌, ◌-◌, Bool, true, false, not, List, [], ◌∷◌, length, map, take, slice_index_or}
use Rattle.std.specs.List.{list_all}
use Rattle.mscp_queue.specs.declared.target.Target.{Target}
use Rattle.mscp_queue.specs.declared.masks.Masks.{Masks}
use Rattle.mscp_queue.specs.declared.slots.Content.{Content}
use Rattle.mscp_queue.specs.Buckets.{AreBuckets}
use Rattle.mscp_queue.specs.Targets.{no_target}
use Rattle.mscp_queue.specs.Masks.{AreMasks, Kind, has, keeps_back}
use Rattle.mscp_queue.specs.Orders.{is_sequential}
use Rattle.mscp_queue.specs.Records.{Record, no_record}

-- a slot that is taken: its number, and what it holds
pub record Slot : Type 0 where
  pub number : ℕ
  pub item : Record
  pub target : Target
  pub due : ℕ

-- a slot of nothing, which stands past the end of a list
abbrev pub no_slot : Slot
no_slot = record { number = 0; item = no_record; target = no_target; due = 0 }

-- the slot of this number with this content
abbrev pub filled : ℕ → Content → Slot
filled n c = record { number = n; item = c.item; target = c.target; due = c.due }

-- the slot of this number, and what it holds
abbrev pub held : List Record → List Target → List ℕ → ℕ → Slot
held records targets dues k =
    record {
      number = k;
      item = slice_index_or records k no_record;
      target = slice_index_or targets k no_target;
      due = slice_index_or dues k 0;
    }

-- what the slots of these numbers hold
abbrev pub shown : List Record → List Target → List ℕ → List ℕ → List Slot
shown records targets dues order = map (held records targets dues) order

-- the slot at a place of the order of arrival: past the end, one of nothing
abbrev pub slot_at : List Slot → ℕ → Slot
slot_at slots place = slice_index_or slots place no_slot

-- the numbers, the records, the targets and the dues of slots
abbrev pub numbers : List Slot → List ℕ
numbers slots = map (λ s. s.number) slots

abbrev pub items : List Slot → List Record
items slots = map (λ s. s.item) slots

abbrev pub targets : List Slot → List Target
targets slots = map (λ s. s.target) slots

abbrev pub dues : List Slot → List ℕ
dues slots = map (λ s. s.due) slots

-- no slot of this number is taken, and each below it is
pub record IsLowestUntaken (n : ℕ) (slots : List Slot) : Type 0 where
  pub untaken : has n (numbers slots) ≡ false
  pub below : (k : ℕ) → k < n → has k (numbers slots) ≡ true

-- what the masks tell of a slot
abbrev pub kind_of : Slot → Kind
kind_of s = record {
  drive = s.target.drive;
  sequential = is_sequential s.item.command.order;
}

-- what the masks tell of each slot
abbrev pub kinds : List Slot → List Kind
kinds slots = map kind_of slots

-- no slot in front keeps its command back
abbrev pub is_unfenced : Slot → List Slot → Bool
is_unfenced s front = list_all (λ z. not (keeps_back (kind_of z) (kind_of s))) front

-- what the masks tell of records with these targets
abbrev pub kinds_of : List Record → List Target → List Kind
kinds_of [] own = []
kinds_of (r ∷ rs) [] = []
kinds_of (r ∷ rs) (a ∷ own) = record {
  drive = a.drive;
  sequential = is_sequential r.command.order;
} ∷ kinds_of rs own

-- what they tell of nothing
abbrev pub no_kind : Kind
no_kind = kind_of no_slot

-- no command in front of a place keeps the one there back
abbrev pub is_unfenced_at : List Kind → ℕ → Bool
is_unfenced_at ks place = list_all (λ z. not (keeps_back z (slice_index_or ks place no_kind))) (take place ks)

-- a slot whose due is so much less
abbrev pub lowered_by : ℕ → Slot → Slot
lowered_by by s = record { number = s.number; item = s.item; target = s.target; due = s.due - by }

-- a slot with another record
abbrev pub with_item : (Record → Record) → Slot → Slot
with_item f s = record { number = s.number; item = f s.item; target = s.target; due = s.due }

-- what the masks tell of the slot of this number
abbrev pub kind_at : List Record → List Target → ℕ → Kind
kind_at records own k = record {
  drive = (slice_index_or own k no_target).drive;
  sequential = is_sequential (slice_index_or records k no_record).command.order;
}

-- the range of each slot is that of its target
abbrev pub AreRanges : List Target → List ℕ → Type 0
AreRanges own ranges = (k : ℕ) → k < 64 → slice_index_or ranges k 0 ≡ (slice_index_or own k no_target).range

-- there are 64 slots, and the masks are theirs
pub record AreKept (records : List Record) (own : List Target) (order : List ℕ) (m : Masks) : Type 0 where
  pub records_64 : length records ≡ 64
  pub targets_64 : length own ≡ 64
  -- the target of each waiting command is one of 16 drives
  pub drives : (k : ℕ) → has k order ≡ true → (slice_index_or own k no_target).drive < 16
  pub masks : AreMasks (kind_at records own) order m

-- and their ranges and buckets are known
pub record AreSlotted (records : List Record) (own : List Target) (order : List ℕ) (m : Masks) (ranges buckets : List ℕ)
    : Type 0 where
  pub kept : AreKept records own order m
  pub ranges_64 : length ranges ≡ 64
  pub ranged : AreRanges own ranges
  pub bucketed : AreBuckets records order buckets
