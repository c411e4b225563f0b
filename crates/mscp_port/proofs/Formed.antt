-- Bytes that are a port's: those in front of the controller's are those that it is saved as.
use Rattle.mscp_port.proofs.Common.{◌≡◌, ◌≤◌, ◌+◌, ◌-◌, ◌++◌, ℕ, List, Bool, false, take, drop, length, nat_eq, refl, ap, ◌∙◌, arith, bytes_eq, false≢true, append_cancel_right, length-drop, length-take, take-append-drop, bytes_eq-Decides, Holdings, controller_bytes, parts_long, IsFramed, decided_count, decided_in, decided_place, buffer_count, buffer_in, buffer_place, controller_place, front_in, port_in, text_count, told_front, front_bytes, length_before, outgoing_text, saved_bytes}

-- how long all is
pub total_is : (b : List ℕ) → IsFramed b
    → length (outgoing_text (front_in b).outgoing) + (length b - text_count b)
    ≡ length_before (length b - controller_place b) (front_in b)
total_is b f =
    search (
      arith,
      parts_long buffer_in 21 (buffer_count b) (drop (buffer_place b) b),
      parts_long decided_in 13 (decided_count b) (drop (decided_place b) b),
    )

pub text_told : (b : List ℕ) → IsFramed b → length (outgoing_text (front_in b).outgoing) ≤ text_count b
text_told b f = grind (arith, length-take, nat_eq)

-- the same bytes behind two lists leave them the same, or other
module _ (told front rest saved b : List ℕ) (whole : saved ≡ told ++ rest) (parts : front ++ rest ≡ b) where
  other : (y : Bool) → bytes_eq saved b ≡ y → bytes_eq told front ≡ false → false ≡ y
  other y h1 h2 = grind (arith, append_cancel_right, bytes_eq-Decides, false≢true)

  by_front : (x : Bool) → bytes_eq told front ≡ x → bytes_eq told front ≡ bytes_eq saved b
  by_front x h1 = grind (arith, bytes_eq-Decides, other)

-- the bytes in front of the controller's are those of a port over that just where all bytes are
pub same_front : {K : Type 0} (number : ℕ) (b : List ℕ) (h : Holdings K)
    → controller_bytes number h ≡ drop (controller_place b) b
    → bytes_eq (told_front b) (take (controller_place b) b) ≡ bytes_eq (saved_bytes number (port_in b h)) b
same_front number b h same =
    let place = controller_place b in
    let long : length (controller_bytes number h) ≡ length b - place =
    ap (λ (l : List ℕ). length l) same ∙ length-drop place b in
    let whole : saved_bytes number (port_in b h) ≡ told_front b ++ drop place b =
    λ i. front_bytes (length_before (long i) (port_in b h)) (port_in b h) ++ same i in
    by_front (told_front b) (take place b) (drop place b) (saved_bytes number (port_in b h)) b whole
    (take-append-drop place b) (bytes_eq (told_front b) (take place b)) refl
