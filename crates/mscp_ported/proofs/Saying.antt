-- The bytes with which an end leaves say what it says.
use Rattle.mscp_ported.proofs.Common.{BodyKind, Bool, Decided, End, EndBody, IsOfKind, List, Option, Port, Record, Settings, Shape, Some, Verdict, ap, arith, cond, end_bytes, end_left, end_with_body, ends_formality, eq-eqb, eqb-true, false, figure_in, four, head, inl, inr, kind_of_body, kind_of_code, length, nat_eq, num, refl, slice_get, slice_index, sym, told_end, true, unit_found, ℕ, ◌∙◌, ◌≡◌, ◌≤◌, ◌⊎◌, subst, port_answers}
use Rattle.mscp_packet.specs.declared.end.BodyKind.TheVariants as kinds_of
use Rattle.mscp_packet.specs.declared.end.EndBody.TheVariants as bodies
use Rattle.mscp_port.proofs.Common.{same_Some}
use Rattle.mscp_ported.proofs.Codes.{IsAboutCode, about_in}
use Rattle.mscp_ported.proofs.Ending.{left_with}
use Rattle.mscp_ported.proofs.Whole.{code_of, in_table, told_with}
use Rattle.mscp_ported.proofs.Fitting.{FitsEnd}

pub told_code : {K : Type 0} (p : Port K) (e : End) (d : Decided) → slice_get p.decided.items 0 ≡ Some d
    → slice_index (told_end p e) 8 ≡ cond (ends_formality d.code) d.code e.code
told_code p e d some = grind (arith, told_with, code_of)

not_formal : (code : ℕ) → ends_formality code ≡ true → IsAboutCode code → ⊥
unfolding port_answers
not_formal code formal (inl x) = search (arith, sym formal ∙ ap ends_formality x)
not_formal code formal (inr x) = search (arith, sym formal ∙ ap ends_formality x)

about_kind : (code : ℕ) (kind : BodyKind) → kind_of_code code ≡ Some kind → IsAboutCode code
    → (kind ≡ kinds_of.Abort) ⊎ (kind ≡ kinds_of.Status)
about_kind code kind shaped (inl x) = inl (same_Some kind kinds_of.Abort (sym shaped ∙ ap kind_of_code x))
about_kind code kind shaped (inr x) = inr (same_Some kind kinds_of.Status (sym shaped ∙ ap kind_of_code x))

-- the end of an ABORT or of a poll is about the command that its message names, and succeeds
pub told_about : {c : Settings} {Told : Verdict → Record → Type 0} {K : Type 0} (p : Port K) (e : End) (d : Decided)
    → slice_get p.decided.items 0 ≡ Some d
    → (t : List ℕ) → IsOfKind e → FitsEnd c Told (left_with e d) t
    → (slice_index (told_end p e) 8 ≡ 0x81) ⊎ (slice_index (told_end p e) 8 ≡ 0x82) → 16 ≤ length t
    → (num (told_end p e) 12 4 ≡ num t 12 4) × (num (told_end p e) 10 2 ≡ 0)
told_about p e d some t shaped fits is long =
    told_with (λ xs. (num xs 12 4 ≡ num t 12 4) × (num xs 10 2 ≡ 0)) p e d some
    (λ formal. absurd (not_formal d.code formal (subst (λ c. IsAboutCode (cond c d.code e.code)) formal code)))
    (λ plain. by e.body refl shaped (subst (λ c. IsAboutCode (cond c d.code e.code)) plain code))
  where
    code : IsAboutCode (cond (ends_formality d.code) d.code e.code)
    code = subst IsAboutCode (told_code p e d some) is

    succeeds : (other : ℕ) → about_in e.body ≡ Some other → num (end_bytes (record e { status = d.status })) 10 2 ≡ 0
    succeeds other same = ap (λ n. num (end_bytes (record e { status = n })) 10 2) (fits.about long other same).2

    by : (body : EndBody) → e.body ≡ body → kind_of_code e.code ≡ Some (kind_of_body body) → IsAboutCode e.code
        → (num (end_with_body body e d (unit_found p.controller.settings.units e.unit) p.hardware) 12 4 ≡ num t 12 4)
        × (num (end_with_body body e d (unit_found p.controller.settings.units e.unit) p.hardware) 10 2 ≡ 0)
    by (bodies.Status other figure) same shaped code =
        let a = fits.about long other (ap about_in same) in (
          ap (λ b. num (end_bytes (record e { status = d.status; body = b })) 12 4) same ∙ four other a.1 ∙ a.0,
          succeeds other (ap about_in same),
        )
    by (bodies.Abort other) same shaped code =
        let a = fits.about long other (ap about_in same) in (
          ap (λ b. num (end_bytes (record e { status = d.status; body = b })) 12 4) same ∙ four other a.1 ∙ a.0,
          succeeds other (ap about_in same),
        )
    by body same shaped code = absurd (elim (about_kind e.code (kind_of_body body) shaped code)
        [ inl k ↦ search (arith, k) | inr k ↦ search (arith, k) ])

-- the code of a poll's end
status_code : (code : ℕ) → kind_of_code code ≡ Some kinds_of.Status → code ≡ 0x82
status_code code e = grind (arith, in_table)

-- what is told of the figure
pub told_figure : {c : Settings} {Told : Verdict → Record → Type 0} {K : Type 0} (p : Port K) (e : End) (d : Decided)
    → slice_get p.decided.items 0 ≡ Some d
    → (t : List ℕ) → IsOfKind e → FitsEnd c Told (left_with e d) t
    → cond (nat_eq (slice_index (told_end p e) 8) 0x82) (num (told_end p e) 16 4) 0 ≡ figure_in e.body
unfolding port_answers
told_figure p e d some t shaped fits = by e.body refl
  where
    unit : Option Shape
    unit = unit_found p.controller.settings.units e.unit

    not_poll : (body : EndBody) → kind_of_code e.code ≡ Some (kind_of_body body)
        → (kind_of_body body ≡ kinds_of.Status → ⊥) → nat_eq (slice_index (told_end p e) 8) 0x82 ≡ false
    not_poll body kind other = none (nat_eq (slice_index (told_end p e) 8) 0x82) refl
      where
        formal : (c : Bool) → ends_formality d.code ≡ c → cond c d.code e.code ≡ 0x82 → ⊥
        formal c is poll = grind (arith, same_Some)

        none : (b : Bool) → nat_eq (slice_index (told_end p e) 8) 0x82 ≡ b → b ≡ false
        none false is = refl
        none true is = absurd (formal (ends_formality d.code) refl
            (sym (told_code p e d some) ∙ eqb-true (slice_index (told_end p e) 8) 0x82 is))

    nothing : (body : EndBody) → e.body ≡ body → (kind_of_body body ≡ kinds_of.Status → ⊥) → figure_in body ≡ 0
        → cond (nat_eq (slice_index (told_end p e) 8) 0x82) (num (told_end p e) 16 4) 0 ≡ figure_in e.body
    nothing body same other h = grind (arith, not_poll)

    by : (body : EndBody) → e.body ≡ body
        → cond (nat_eq (slice_index (told_end p e) 8) 0x82) (num (told_end p e) 16 4) 0 ≡ figure_in e.body
    by (bodies.Status other figure) same =
        let x = fits.polled other figure same in
        let code : e.code ≡ 0x82 = status_code e.code (shaped ∙ ap (λ b. Some (kind_of_body b)) same) in
        let formal : ends_formality d.code ≡ false = ap ends_formality (x.0 ∙ code) in
        let told : slice_index (told_end p e) 8 ≡ 0x82 =
        told_code p e d some ∙ ap (λ c. cond c d.code e.code) formal ∙ code in
        ap (λ b. cond b (num (told_end p e) 16 4) 0) (eq-eqb (slice_index (told_end p e) 8) 0x82 told)
        ∙ ap (λ o. num (end_left e o unit p.hardware) 16 4) some
        ∙ ap (λ c. num (cond c (head e.reference e.unit d.code d.status)
        (end_with_body e.body e d unit p.hardware)) 16 4) formal
        ∙ ap (λ b. num (end_with_body b e d unit p.hardware) 16 4) same
        ∙ ap (λ b. num (end_bytes (record e { status = d.status; body = b })) 16 4) same
        ∙ four figure x.1 ∙ sym (ap figure_in same)
    by body same = nothing body same (λ k. search (arith, k)) refl
