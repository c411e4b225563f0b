-- What comes of bytes whose head has no fault.
use Rattle.mscp_port.proofs.Common.{◌≡◌, ℕ, ◌+◌, Bool, true, false, List, drop, ap, sym, ◌∙◌, arith, Option, None, Result, Ok, Err, if◌then◌else◌, slice_index, bytes_eq, get_or-drop, bytes_eq-Decides, Holdings, ControllerFault, controller_restored, same_of, Port, RestoreFault, controller_place, frame_fault, over, restored, restored_unless, whose, saved_bytes}
use Rattle.mscp_port.specs.declared.port.restoring.RestoreFault.TheVariants as faults

-- the bytes of a controller say this
pub comes : {K : Type 0} (number : ℕ) (picker : K) (b : List ℕ) (r : Result (Holdings K) ControllerFault)
    → frame_fault b ≡ None → r ≡ controller_restored number picker (drop (controller_place b) b)
    → over number b r ≡ restored number picker b
comes number picker b r none said = search arith

-- and the port over it is saved as other bytes, or as these
pub is_whose : {K : Type 0} (number : ℕ) (b : List ℕ) (p : Port K) (same : Bool)
    → bytes_eq (saved_bytes number p) b ≡ same
    → (if same then Ok p else Err faults.Form) ≡ whose number b p
is_whose number b p same e = ap (λ (same : Bool). if same then Ok p else Err faults.Form) (sym e)

-- ---- what is restored

module _ {K : Type 0} (number : ℕ) (picker : K) (b : List ℕ) (p : Port K) where
  by_controller : (r : Result (Holdings K) ControllerFault)
      → controller_restored number picker (drop (controller_place b) b) ≡ r → over number b r ≡ Ok p
      → slice_index b (controller_place b + 30) ≡ number
  by_controller (Err fault) said e = cc
  by_controller (Ok h) said e =
      sym (get_or-drop (controller_place b) b 30 0)
      ∙ ap (λ l. slice_index l 30) (sym (same_of number picker h (drop (controller_place b) b) said).0)

  by_fault : (f : Option RestoreFault) → restored_unless f number picker b ≡ Ok p
      → slice_index b (controller_place b + 30) ≡ number
  by_fault f h1 = grind (arith, by_controller)

  -- its bytes tell the number of its picker
  pub number_told : restored number picker b ≡ Ok p → slice_index b (controller_place b + 30) ≡ number
  number_told e = by_fault (frame_fault b) e

  by_bytes : (same : Bool) (q : Port K) → bytes_eq (saved_bytes number q) b ≡ same
      → (if same then Ok q else Err faults.Form) ≡ Ok p → saved_bytes number p ≡ b
  by_bytes true q is e =
      let one : q ≡ p = cc in
      ap (saved_bytes number) (sym one) ∙ (bytes_eq-Decides (saved_bytes number q) b).0 is
  by_bytes false q is e = cc

  by_over : (r : Result (Holdings K) ControllerFault) → over number b r ≡ Ok p → saved_bytes number p ≡ b
  by_over r h1 = grind (arith, by_bytes)

  by_any : (f : Option RestoreFault) → restored_unless f number picker b ≡ Ok p → saved_bytes number p ≡ b
  by_any f h1 = grind (arith, by_over)

  -- it is saved as them
  pub bytes_told : restored number picker b ≡ Ok p → saved_bytes number p ≡ b
  bytes_told e = by_any (frame_fault b) e
