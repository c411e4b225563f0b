-- The text of an end that goes out: its number, its bytes, and that it is whole.
use Rattle.mscp_ported.proofs.Common.{AllByRecursion, BodyKind, Decided, End, EndBody, Hardware, IsOfKind, IsWhole, List, Moved, Option, Port, Shape, Some, arith, end_bytes, end_length, end_with_body, endcodes, ends_formality, false, four, head, kind_of_body, kind_of_code, length, nat_eq, none-some, num, refl, same_Some, slice_get, slice_index, subst, sym, told_end, true, unit_found, ℕ, ◌%◌, ◌*◌, ◌+◌, ◌/◌, ◌<◌, ◌^◌, ◌∙◌, ◌≡◌, ◌≤◌, eqb-true}
use Rattle.mscp_ported.proofs.Said.{none_or_some}
use Rattle.mscp_ported.proofs.Numbered.{counted_in}
use Rattle.mscp_ported.proofs.Rows.{formal_none}

-- ---- the text of an end

-- it has the number of the end
body_number : (body : EndBody) (e : End) (d : Decided) (o : Option Shape) (h : Hardware) → e.reference < 2 ^ 32
    → num (end_with_body body e d o h) 0 4 ≡ e.reference
body_number body e d o h small = grind (arith, four e.reference small)

-- it leaves with what was decided of it: as a formality's, or with its body; or as the controller gave it
pub told_with : {K : Type 0} (P : List ℕ → Type 0) (p : Port K) (e : End) (d : Decided)
    → slice_get p.decided.items 0 ≡ Some d
    → (ends_formality d.code ≡ true → P (head e.reference e.unit d.code d.status))
    → (ends_formality d.code ≡ false
    → P (end_with_body e.body e d (unit_found p.controller.settings.units e.unit) p.hardware)) → P (told_end p e)
told_with P p e d some formal plain = grind arith

pub told_cases : {K : Type 0} (P : List ℕ → Type 0) (p : Port K) (e : End) → P (end_bytes e)
    → ((d : Decided) → ends_formality d.code ≡ true → P (head e.reference e.unit d.code d.status))
    → ((d : Decided) → ends_formality d.code ≡ false
    → P (end_with_body e.body e d (unit_found p.controller.settings.units e.unit) p.hardware)) → P (told_end p e)
told_cases P p e bare formal plain = grind (arith, none_or_some, told_with)

pub told_number : {K : Type 0} (p : Port K) (e : End) → e.reference < 2 ^ 32 → num (told_end p e) 0 4 ≡ e.reference
told_number p e small = told_cases (λ xs. num xs 0 4 ≡ e.reference) p e (four e.reference small)
    (λ d formal. four e.reference small) (λ d plain. body_number e.body e d _ p.hardware small)

-- and counts no more bytes than the end
few_bytes : (x n : ℕ) → x ≤ n
    → 0 + x % 256 * 1 + x / 256 % 256 * 256 + x / 65536 % 256 * 65536 + x / 16777216 % 256 * 16777216 ≤ n
few_bytes x n h = omega (arith, h)

body_counts : (body : EndBody) (e : End) (d : Decided) (o : Option Shape) (h : Hardware) (n : ℕ)
    → kind_of_code e.code ≡ Some (kind_of_body body) → e.body ≡ body → counted_in body ≤ n
    → kind_of_code e.code ≡ Some Moved → num (end_with_body body e d o h) 12 4 ≤ n
body_counts body e d o h n shaped same few is = grind (arith, few_bytes)

pub code_of : (body : EndBody) (e : End) (d : Decided) (o : Option Shape) (h : Hardware)
    → slice_index (end_with_body body e d o h) 8 ≡ e.code
code_of body e d o h = grind arith

pub told_counts : {K : Type 0} (p : Port K) (e : End) (n : ℕ) → IsOfKind e → counted_in e.body ≤ n
    → kind_of_code (slice_index (told_end p e) 8) ≡ Some Moved → num (told_end p e) 12 4 ≤ n
told_counts p e n shaped few =
    told_cases (λ xs. kind_of_code (slice_index xs 8) ≡ Some Moved → num xs 12 4 ≤ n) p e
    (λ is. grind (arith, few_bytes, counted_in)) (λ d formal is. absurd (formal_none d.code Moved formal is))
    (λ d plain is. grind (arith, body_counts, code_of))

-- it is a whole end
-- what is so of each row of the table of endcodes is so of a code's
pub in_table : (P : ℕ × BodyKind → Type 0) → AllByRecursion P endcodes → (code : ℕ) (k : BodyKind)
    → kind_of_code code ≡ Some k → P (code, k)
in_table P rows code k e = grind (arith, nat_eq, none-some, eqb-true, same_Some)

code_top : (code : ℕ) (k : BodyKind) → kind_of_code code ≡ Some k → 0x80 ≤ code
code_top code k e = grind (arith, in_table)

body_long : (body : EndBody) (e : End) (d : Decided) (o : Option Shape) (h : Hardware) → e.body ≡ body
    → (end_length (kind_of_body body)
    ≤ length (end_with_body body e d o h)) × (12 ≤ length (end_with_body body e d o h))
    × (length (end_with_body body e d o h) ≤ 64)
body_long body e d o h same = grind (arith, same)

plain_long : (body : EndBody) (e : End) → e.body ≡ body
    → (end_length (kind_of_body body)
    ≤ length (end_bytes e)) × (12 ≤ length (end_bytes e)) × (length (end_bytes e) ≤ 64)
plain_long body e same = grind (arith, same)

formal_top : (code : ℕ) → ends_formality code ≡ true → 0x80 ≤ code
formal_top code e = grind (arith, e)

pub told_whole : {K : Type 0} (p : Port K) (e : End) → IsOfKind e → IsWhole (told_end p e)
told_whole p e shaped = told_cases IsWhole p e (whole (end_bytes e) refl (plain_long e.body e refl))
    (λ d formal. record {
      long = omega arith;
      short = omega arith;
      top = formal_top d.code formal;
      body = λ k is. absurd (formal_none d.code k formal is);
    })
    (λ d plain. whole (end_with_body e.body e d _ p.hardware) (code_of e.body e d _ p.hardware)
    (body_long e.body e d _ p.hardware refl))
  where
    lengths : (n : ℕ) (k : BodyKind) → kind_of_code e.code ≡ Some k → end_length (kind_of_body e.body) ≤ n
        → end_length k ≤ n
    lengths n k is h = subst (λ x. end_length x ≤ n) (same_Some (kind_of_body e.body) k (sym shaped ∙ is)) h

    -- a text of so many bytes with the end's code is
    whole : (xs : List ℕ) → slice_index xs 8 ≡ e.code
        → (end_length (kind_of_body e.body) ≤ length xs) × (12 ≤ length xs) × (length xs ≤ 64) → IsWhole xs
    whole xs code l = grind (arith, code_top, lengths)
