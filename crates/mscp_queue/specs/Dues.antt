-- The due of a waiting command. It tells by how many blocks the command was passed, too: so a start, which passes all
-- in front of it, writes nothing of theirs.
use Rattle.std.specs.Prelude.{◌≡◌, ℕ, ◌+◌, ◌-◌, ◌<◌, ◌≤◌, ◌^◌, List, [], ◌∷◌, sum_by}
use Rattle.mscp_queue.specs.Records.{Record, left_if_serving, left_of}
use Rattle.mscp_queue.specs.Slots.{Slot, items}

-- how many steps are left of one in service among slots
abbrev pub left_in_service : List Slot → ℕ
left_in_service ss = sum_by left_if_serving (items ss)

-- the clock at which the command of a slot ends at the latest, if nobody passes it any more: all before it are served
-- at the clock `at`, and so many steps are left of one in service behind it
abbrev pub last_end : ℕ → ℕ → Slot → ℕ
last_end at behind s = at + behind + left_of s.item

-- its due is that, and what is left of its budget. No count of passes stands in the record
pub record IsDue (budget at behind : ℕ) (s : Slot) : Type 0 where
  pub bare : s.item.passed ≡ 0
  pub least : last_end at behind s ≤ s.due
  pub most : s.due ≤ last_end at behind s + budget

-- the dues of slots, all before which are served at the clock `at`
abbrev pub AreDue : ℕ → ℕ → List Slot → Type 0
AreDue budget at [] = Unit {0}
AreDue budget at (s ∷ ss) = IsDue budget at (left_in_service ss) s × AreDue budget (at + left_of s.item) ss

-- the due of a record at the clock 0, where so many steps are left of those before it, and so many of one in service
-- behind it
abbrev pub due_of : ℕ → ℕ → ℕ → Record → ℕ
due_of budget before behind r = before + behind + (budget - r.passed) + left_of r

-- what is told of slots: the records, each with the blocks by which its command was passed, which are what is gone of
-- its budget
abbrev pub told : ℕ → ℕ → List Slot → List Record
told budget at [] = []
told budget at (s ∷ ss) =
    (record s.item { passed = (last_end at (left_in_service ss) s + budget) - s.due })
    ∷ told budget (at + left_of s.item) ss

-- where the clock is set back
abbrev pub clock_end : ℕ
clock_end = 1099511627776

-- the clock, what is left of all, and the dues
pub record AreTimed (budget clock total : ℕ) (slots : List Slot) : Type 0 where
  pub dues : AreDue budget clock slots
  pub left : total ≡ sum_by left_of (items slots)
  pub early : clock < clock_end
  pub fits : budget < 2 ^ 32
