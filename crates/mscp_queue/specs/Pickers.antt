-- What the pickers of this crate may pick of a view.
use Rattle.std.specs.Prelude.{◌≡◌, ℕ, ◌<◌, ◌≤◌, List, length, map, take, slice_index_or, All}
use Rattle.mscp_queue.specs.declared.view.Choice.{Choice}

-- what picks the oldest may pick: the first place of a view (profile)
abbrev pub IsOldest : List Choice → ℕ → Type 0
IsOldest view place = place ≡ 0

-- the first place that has the least of these numbers
pub record IsFirstLeast (numbers : List ℕ) (place : ℕ) : Type 0 where
  pub inside : place < length numbers
  pub least : All (λ number. slice_index_or numbers place 0 ≤ number) numbers
  pub first : All (λ number. slice_index_or numbers place 0 < number) (take place numbers)

-- what starts cost
abbrev pub costs : List Choice → List ℕ
costs view = map (λ choice. choice.cost) view

-- of each choice this row has the cost at its place
pub record IsRow (row : List ℕ) (view : List Choice) : Type 0 where
  pub few : length view ≤ 64
  pub each : (k : ℕ) → k < length view → slice_index_or row k 0 ≡ slice_index_or (costs view) k 0

-- what the sweep may pick: the first place of a view that has the least cost (profile)
abbrev pub IsSweep : List Choice → ℕ → Type 0
IsSweep view place = IsFirstLeast (costs view) place
