-- What is written of an end.
use Rattle.mscp_packet.proofs.Common.{◌≡◌, ℕ, ◌≤◌, Bool, true, false, List, length, refl, sym, ap, subst, arith, nat_lt, if◌then◌else◌, slice_index, Option, Some, None, Result, Ok, Err, ltb-true, ltb-false, IsZeroBeside, EndBytesAreMessages, HasBodyRange, IsEnd, IsUnder, body_at, end_at, end_bytes, end_fields, end_length, kind_of_body, kind_of_code, reading_with, BodyKind, EndBody, End, EndFault}
use Rattle.mscp_packet.proofs.Numbers.{two, four, eight}
use Rattle.mscp_packet.proofs.Blanks.{zero_beside}
use Rattle.mscp_packet.specs.declared.end.EndBody.TheVariants as bodies
use Rattle.mscp_packet.specs.declared.reading.EndFault.TheVariants as faults

abbrev end : ℕ → ℕ → ℕ → ℕ → EndBody → End
end r u code status body = record { reference = r; unit = u; code = code; status = status; body = body }

-- the body that the bytes of an end have
body_back : (r u code status : ℕ) (body : EndBody) → HasBodyRange body
    → body ≡ body_at (kind_of_body body) (end_bytes (end r u code status body))
body_back r u code status bodies.Bare fits = refl
body_back r u code status (bodies.Abort other) fits = ap bodies.Abort (sym (four other fits))
body_back r u code status (bodies.Status other figure) fits = search (arith, four)
body_back r u code status (bodies.UnitStatus id media track group cylinder) fits = search (arith, eight, four, two)
body_back r u code status (bodies.Controller timeout id) fits = search (arith, two, eight)
body_back r u code status (bodies.Online id media size serial) fits = search (arith, eight, four)
body_back r u code status (bodies.Moved count) fits = ap bodies.Moved (sym (four count fits))

-- which is 12 to 48 bytes
pub length_span : (kind : BodyKind) → (12 ≤ end_length kind) × (end_length kind ≤ 48)
length_span kind = search arith

pub bytes_span : (e : End) → (12 ≤ length (end_bytes e)) × (length (end_bytes e) ≤ 48)
bytes_span e = search (arith, length_span)

-- zero at every place that isn't named
pub end_zeros : (r u code status : ℕ) (body : EndBody)
    → IsZeroBeside (end_fields body) (end_bytes (end r u code status body))
end_zeros r u code status body = search (arith, zero_beside)

-- the bytes of an end are a message of it
pub end_bytes_are_messages : EndBytesAreMessages
end_bytes_are_messages e kind fits = grind (arith, length_span, four, two, body_back)

-- ---- what is read of any message of 12 to 64 bytes

-- an answer that a reader may give who goes by the layout
pub record IsAnswer (b : List ℕ) (answer : Result End EndFault) : Type 0 where
  pub low : 12 ≤ length b
  pub high : length b ≤ 64
  pub only : (e : End) → IsEnd b e → answer ≡ Ok e
  pub code : kind_of_code (slice_index b 8) ≡ None → answer ≡ Err faults.Code
  pub under : IsUnder (kind_of_code (slice_index b 8)) (length b) → answer ≡ Err faults.Length

-- a message that is long enough for its endcode is the end that it says
end_said : (b : List ℕ) (kind : BodyKind) → 12 ≤ length b → length b ≤ 64
    → kind_of_code (slice_index b 8) ≡ Some kind → end_length kind ≤ length b → IsEnd b (end_at kind b)
end_said b kind low high code long = search arith

-- the answer where the endcode has a shape
answer_with : (b : List ℕ) (answer : Result End EndFault) → IsAnswer b answer
    → (kind : BodyKind) → kind_of_code (slice_index b 8) ≡ Some kind → answer ≡ reading_with (Some kind) b
answer_with b answer given kind code =
    let short = nat_lt (length b) (end_length kind) in
    let P : Bool → Type 0 = λ s. short ≡ s → answer ≡ (if s then Err faults.Length else Ok (end_at kind b)) in
    elim short as P [
      | true ↦ λ is.
          let under = ltb-true (length b) (end_length kind) is in
          given.under (subst (λ o. IsUnder o (length b)) (sym code) under)
      | false ↦ λ is.
          let long = ltb-false (length b) (end_length kind) is in
          given.only (end_at kind b) (end_said b kind given.low given.high code long)
    ] refl

-- it is the one answer
pub answer_is : (b : List ℕ) (answer : Result End EndFault) → IsAnswer b answer
    → answer ≡ reading_with (kind_of_code (slice_index b 8)) b
answer_is b answer given =
    let kind = kind_of_code (slice_index b 8) in
    let P : Option BodyKind → Type 0 = λ o. kind ≡ o → answer ≡ reading_with o b in
    elim kind as P [
      | None ↦ given.code
      | Some k ↦ answer_with b answer given k
    ] refl
