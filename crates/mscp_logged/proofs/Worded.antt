-- What the text of an end says of its code, its status, its unit and what that is, as whoever judges the wire reads it.
use Rattle.mscp_logged.proofs.Common.{Answer, Decided, End, First, Hardware, List, Option, Shape, answer_by, arith, brings, describes, end_with_body, ends_formality, false, is_unsure, num, tells_unit, true, unit_found, ℕ, ◌%◌, ◌/◌, ◌<◌, ◌^◌, ◌≡◌, ◌⊎◌}
use Rattle.mscp_logged.proofs.Texts.{text_with}

-- ---- a text

-- an end is read so
pub record Reads (e : Answer) (coded told : ℕ) : Type 0 where
  pub code : e.code ≡ coded
  pub low : e.status % 32 ≡ told % 32
  pub bit : e.status / 256 % 2 ≡ told / 256 % 2

module _ (h : Hardware) (units : List Shape) (e : End) (d : Decided) where
  abbrev o : Option Shape
  o = unit_found units e.unit

  abbrev So : List ℕ → Type 0
  So text = ((ends_formality d.code ≡ true) × Reads (answer_by First text) d.code d.status)
      ⊎ ((ends_formality d.code ≡ false) × (text ≡ end_with_body e.body e d o h)
      × Reads (answer_by First text) e.code d.status)

  -- a formality's end, or one with its body
  pub text_reads : So (text_with h units e d)
  text_reads = grind arith

  -- the unit that it names
  pub text_unit : e.unit < 2 ^ 16 → num (text_with h units e d) 4 2 ≡ e.unit
  text_unit small = grind arith

-- ---- what it says

-- an end that tells what its unit is succeeded, and is one of these
pub record IsDescribed (e : Answer) : Type 0 where
  pub good : e.status % 32 ≡ 0
  pub code : (e.code ≡ 0x83) ⊎ (e.code ≡ 0x89) ⊎ (e.code ≡ 0x8A)

pub brings_is : (e : Answer) → e.code ≡ 0x89 → e.status % 32 ≡ 0 → brings e ≡ true
brings_is e code good = grind arith

-- one that tells what is there before it comes
pub tells_so : (e : Answer) → tells_unit e ≡ true → is_unsure e ≡ false
    → (e.status % 32 ≡ 0) × ((e.code ≡ 0x83) ⊎ ((e.code ≡ 0x89) × (e.status / 256 % 2 ≡ 1)))
tells_so e h sure = grind arith

pub describes_so : (e : Answer) → describes e ≡ true → IsDescribed e
describes_so e h = grind arith
