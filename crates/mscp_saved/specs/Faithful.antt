-- What is promised of saving and restoring.
use Rattle.std.specs.Prelude.{◌≡◌, ℕ, List, Ok}
use Rattle.mscp_controller.specs.Holdings.{Holdings}
use Rattle.mscp_controller.specs.Restored.{IsSound}
use Rattle.mscp_saved.specs.Ranges.{HasRange}
use Rattle.mscp_saved.specs.Restored.{restored}
use Rattle.mscp_saved.specs.Saved.{saved_bytes}

-- with this picker
pub record RestoringIsFaithful {K : Type 0} (picker : K) : Type 0 where
  -- a controller is restored from the bytes that it is saved as: all that callers see of it is as it was
  pub back : (number : ℕ) (h : Holdings K) → h.picker ≡ picker → IsSound h → HasRange h
      → restored number picker (saved_bytes number h) ≡ Ok h
  -- and what is restored is saved as the bytes that it was restored from
  pub same : (number : ℕ) (h : Holdings K) (b : List ℕ) → restored number picker b ≡ Ok h
      → (saved_bytes number h ≡ b) × (h.picker ≡ picker)
