-- Which unit an end names: that of its message, unless that asks for the next unit.
use Rattle.mscp_ported.proofs.Common.{Decided, End, EndBody, Hardware, IsUnitFor, List, Option, Port, Shape, arith, asks_next, command_of, end_with_body, handed, inl, inr, length, num, refl, slice_index, stand_in, told_end, true, two, unit_found, ℕ, ◌<◌, ◌^◌, ◌∙◌, ◌∷◌, ◌≡◌, ◌≤◌, ◌⊎◌}
use Rattle.mscp_ported.proofs.Handed.{handed_cases}
use Rattle.mscp_ported.proofs.Whole.{told_cases}

-- as the controller has it: of 16 bits
abbrev pub IsUnitIn : ℕ → List ℕ → Type 0
IsUnitIn unit message = ((unit ≡ num message 4 2) × (unit < 2 ^ 16)) ⊎ (asks_next message ≡ true)

-- ---- a message as it is handed over

pub small_unit : (b : List ℕ) → ((i : ℕ) → slice_index b i < 2 ^ 8) → num b 4 2 < 2 ^ 16
small_unit b h = grind arith

pub stand_unit : (b : List ℕ) → 12 ≤ length b → num (stand_in b) 4 2 ≡ num b 4 2
stand_unit (a ∷ b ∷ c ∷ d ∷ e ∷ f ∷ g ∷ h ∷ i ∷ j ∷ k ∷ l ∷ rest) long = refl
stand_unit b long = absurd (search (arith, long))

pub handed_unit : (units : List Shape) (b : List ℕ) → 12 ≤ length b → ((i : ℕ) → slice_index b i < 2 ^ 8)
    → IsUnitIn (command_of (handed units b)).unit b
unfolding command_of
handed_unit units b long small = grind (arith, handed_cases, stand_unit, small_unit)

-- ---- the text of an end

pub body_unit : (body : EndBody) (e : End) (d : Decided) (o : Option Shape) (h : Hardware) → e.unit < 2 ^ 16
    → num (end_with_body body e d o h) 4 2 ≡ e.unit
body_unit body e d o h small = grind (arith, two e.unit small)

told_unit : {K : Type 0} (p : Port K) (e : End) → e.unit < 2 ^ 16 → num (told_end p e) 4 2 ≡ e.unit
told_unit p e small = told_cases (λ xs. num xs 4 2 ≡ e.unit) p e (two e.unit small) (λ d formal. two e.unit small)
    (λ d plain. body_unit e.body e d (unit_found p.controller.settings.units e.unit) p.hardware small)

pub told_unit_is : {K : Type 0} (p : Port K) (e : End) (message : List ℕ) → IsUnitIn e.unit message
    → IsUnitFor (num (told_end p e) 4 2) message
told_unit_is p e message (inl same) = inl (told_unit p e same.1 ∙ same.0)
told_unit_is p e message (inr next) = inr next
