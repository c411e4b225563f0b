-- A command that asks nothing of a disk waits in the controller, if the port doesn't answer it itself.
use Rattle.mscp_ported.proofs.Common.{Bool, IsValid, List, None, Option, Settings, Shape, Some, Volume, ap, arith, command_of, cond, find_cases, find_first, handed, is_formality, is_none, is_queued, length, move_fault, next_named, none-some, num, option_map, own_end, place_in, position_none, range_fault, refl, slice_index, stand_in, subst, sym, true, unit_found, ℕ, ◌<◌, ◌∙◌, ◌∷◌, ◌≡◌, ◌≤◌}
use Rattle.std.specs.Prelude.{All}
use Rattle.mscp_ported.proofs.Sole.{found_all}

-- its unit is there
unit_there : (foreign : Bool) (v : Option Volume) (b : List ℕ) → own_end foreign v b ≡ None
    → is_formality (slice_index b 8) ≡ true → (x : Volume) × (v ≡ Some x)
unit_there foreign v b none formal = grind (arith, none-some)

placed : {X : Type 0} (f : ℕ → X) (o : Option ℕ) (x : X) → option_map f o ≡ Some x → (place : ℕ) × (o ≡ Some place)
placed f None x e = absurd (none-some x e)
placed f (Some place) x e = (place, refl)

found_unit : (units : List Shape) (n place : ℕ) → place_in units n ≡ Some place
    → (u : Shape) × (unit_found units n ≡ Some u)
found_unit units n place e = grind (arith, find_cases, none-some, position_none, find_first)

-- an access of no bytes isn't refused there
no_fault : (longest : ℕ) (u : Shape) → 1 ≤ longest → 0 < u.size → range_fault longest 0 0 u ≡ None
no_fault longest u some size = grind (arith, some, size)

stands_in : (c : Settings) (b : List ℕ) → 12 ≤ length b → move_fault c 0 0 (unit_found c.units (num b 4 2)) ≡ None
    → is_queued c (command_of (stand_in b)) ≡ true
unfolding command_of
stands_in c (x ∷ b ∷ d ∷ e ∷ f ∷ g ∷ h ∷ i ∷ rest) long none = ap is_none none
stands_in c b long none = search (arith, long)

pub formal_queued : (c : Settings) (foreign : Bool) (f : ℕ → Volume) (b : List ℕ) → IsValid c
    → All (λ unit. 0 < unit.size) c.units → 12 ≤ length b
    → own_end foreign (option_map f (place_in c.units (num b 4 2))) b ≡ None → is_formality (slice_index b 8) ≡ true
    → is_queued c (command_of (handed c.units b)) ≡ true
formal_queued c foreign f b valid sizes long none formal =
    let there = unit_there foreign (option_map f (place_in c.units (num b 4 2))) b none formal in
    let place = placed f (place_in c.units (num b 4 2)) there.0 there.1 in
    let u = found_unit c.units (num b 4 2) place.0 place.1 in
    subst (λ x. is_queued c (command_of (cond x (stand_in b) (next_named c.units b))) ≡ true) (sym formal)
    (stands_in c b long (ap (move_fault c 0 0) u.1 ∙ no_fault c.longest u.0 valid.some_blocks
    (found_all (λ unit. 0 < unit.size) (λ x. Rattle.std.specs.Prelude.nat_eq x.number (num b 4 2)) c.units u.0 sizes
    u.1).0))
