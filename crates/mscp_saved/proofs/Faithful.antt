-- What is saved is restored, and what is restored is saved as the same bytes.
use Rattle.mscp_saved.proofs.Common.{All, ◌≡◌, ℕ, true, List, get_or, ap, sym, ◌∙◌, arith, not, if◌then◌else◌, Option, Some, None, Ok, and_from, eq-eqb, le-leb, recursion_from_All, bytes_eq-Decides, End, HasEndRange, IsOfKind, four, Holdings, IsSound, RestoreFault, RestoringIsFaithful, HasRange, drive_in, end_in, held_in, waiting_in, first_of, form_fault, frame_fault, is_framed, parts_fault, restored, settings_fault, drive_bytes, end_cell, saved_bytes, waiting_bytes}
use Rattle.mscp_saved.proofs.Back.{drive_is_back, end_is_back, waiting_is_back}
use Rattle.mscp_saved.proofs.BackParts.{IsBack}
use Rattle.mscp_saved.proofs.Complete.{parts_pass, settings_pass}
use Rattle.mscp_saved.proofs.HeldBack.{AreBack, held_said, saved_long}
use Rattle.mscp_saved.proofs.Outcomes.{comes, ok_is}
use Rattle.mscp_saved.proofs.Sizes.{sizes_of}
use Rattle.mscp_saved.proofs.Sound.{next}

ends_back : (ends : List End) → All IsOfKind ends → All HasEndRange ends → All (IsBack end_in end_cell 48) ends
ends_back ends shaped range = λ k d l. end_is_back (get_or ends k d) (shaped k d l) (range k d l)

are_back : {K : Type 0} (h : Holdings K) → IsSound h → HasRange h → AreBack h
are_back h s r = record {
  drives = recursion_from_All (IsBack drive_in drive_bytes 34) h.drives
      (λ k d l. drive_is_back (get_or h.drives k d) (r.drives k d l));
  waiting = recursion_from_All (IsBack waiting_in waiting_bytes 41) h.waiting (λ k d l.
      let kept = s.queue.each k d l in
      waiting_is_back (get_or h.waiting k d) (r.waiting k d l) kept.waitable.order kept.weight kept.good);
  first = recursion_from_All (IsBack end_in end_cell 48) h.untaken.first
      (ends_back h.untaken.first s.first.shaped r.first);
  second = recursion_from_All (IsBack end_in end_cell 48) h.untaken.second
      (ends_back h.untaken.second s.second.shaped r.second);
}

framed : {K : Type 0} (number : ℕ) (h : Holdings K) → IsSound h → AreBack h → is_framed (saved_bytes number h) ≡ true
framed number h s a = search (arith, saved_long number h a, sizes_of s, four, and_from, le-leb, eq-eqb)

module _ {K : Type 0} (number : ℕ) (h : Holdings K) where
  frame_passes : IsSound h → AreBack h → frame_fault (saved_bytes number h) ≡ None
  frame_passes s a = λ i. if not (framed number h s a i) then Some RestoreFault.Length else None

  form_passes : form_fault number (saved_bytes number h) h ≡ None
  form_passes = search (arith, eq-eqb, bytes_eq-Decides)

  pub back_of : IsSound h → HasRange h → restored number h.picker (saved_bytes number h) ≡ Ok h
  back_of s r =
      let b = saved_bytes number h in
      let a = are_back h s r in
      let e = held_said number h r s.units a in
      sym (comes number h.picker b None None None
      None (frame_passes s a) (ap (λ (h : Holdings K). settings_fault h.settings) e ∙ settings_pass h.settings s.valid)
      (ap (λ (h : Holdings K). parts_fault h.settings h.drives h.waiting h.untaken.first h.untaken.second h.begun) e
      ∙ parts_pass h s) (ap (form_fault number b) e ∙ form_passes)) ∙ ap Ok e

first_none : (o other : Option RestoreFault) → first_of o other ≡ None → other ≡ None
first_none o other h2 = grind arith

pub same_of : {K : Type 0} (number : ℕ) (picker : K) (h : Holdings K) (b : List ℕ) → restored number picker b ≡ Ok h
    → (saved_bytes number h ≡ b) × (h.picker ≡ picker)
same_of {K} number picker h b e =
    search (arith, ok_is (sym e), bytes_eq-Decides (saved_bytes number (held_in picker b)) b, first_none, next)

pub restoring_is_faithful : {K : Type 0} (picker : K) → RestoringIsFaithful picker
restoring_is_faithful picker = record {
  back = λ number h e s r. ap (λ p. restored number p (saved_bytes number h)) (sym e) ∙ back_of number h s r;
  same = λ number h b e. same_of number picker h b e;
}
