-- Each end of an ABORT or a poll in a port's log succeeds, and is about the command that its message names.
use Rattle.mscp_logged.proofs.Common.{Answer, Bool, First, Fits, IsWhole, List, None, Sent, Some, answer_by, ap, arith, eq-eqb, false, inl, inr, is_about, is_about_another, is_refused, kind_of_code, le-leb, length, nat_eq, nat_le, not, num, other_of, refl, sent_by, slice_index, succeeds, true, ℕ, ◌≡◌, ◌≤◌, ◌⊎◌}
use Rattle.mscp_packet.specs.declared.end.BodyKind.TheVariants as bodykinds
use Rattle.mscp_logged.proofs.Wired.{stem}

-- its end has the number of the command that it is about
about_long : (text : List ℕ) → IsWhole text → (slice_index text 8 ≡ 0x81) ⊎ (slice_index text 8 ≡ 0x82)
    → 16 ≤ length text
about_long text whole (inl e) = whole.body bodykinds.Abort (ap kind_of_code e)
about_long text whole (inr e) = search (arith, whole.body bodykinds.Status (ap kind_of_code e))

module _ (y : Sent) (text message : List ℕ) (is : stem y ≡ sent_by First message) (fits : Fits text message)
    (whole : IsWhole text) where
  abbrev e : Answer
  e = answer_by First text

  -- it is about the command that its message names
  record Names : Type 0 where
    long : 16 ≤ length message
    code : (slice_index text 8 ≡ 0x81) ⊎ (slice_index text 8 ≡ 0x82)
    is_it : other_of y e ≡ Some (num message 12 4)

  other_or : (other_of y e ≡ None) ⊎ Names
  other_or = by (nat_eq (slice_index text 8) 0x80) refl (is_about_another y.opcode) refl (not (is_refused y e)) refl
      (nat_le 16 (length message)) refl
    where
      by : (a : Bool) → nat_eq (slice_index text 8) 0x80 ≡ a → (b : Bool) → is_about_another y.opcode ≡ b → (c : Bool)
          → not (is_refused y e) ≡ c → (d : Bool) → nat_le 16 (length message) ≡ d → (other_of y e ≡ None) ⊎ Names
      by false h true k true l true long = grind arith
      by a h b k c l d long = grind arith

  pub about_right : is_about e (other_of y e) ≡ true
  about_right = grind (arith, other_or, le-leb, about_long, eq-eqb)

  pub success_right : succeeds e (other_of y e) ≡ true
  success_right = grind (arith, other_or)
